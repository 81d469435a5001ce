use native.Mathlib.Omega.{arith}
use lib.ListN.{length}
use Rattle.key_out.proofs.KeyedLaws.{keyed, bytes_of_lem}
use Rattle.key_out.proofs.out.put_key.Goals as goal

pub returns : goal.returns
returns c =
    keyed c.args.nodes.now c.args.names.now c.args.text.now c.args.root c.args.tall (length c.args.key.now) c.put_tree-end.result.name c.put_number-at.result c.put_tree-end.result.to c.fill.new.self c.put_number-at.new.key c.put_tree-end.new.items (c.fill.ensures.after (λ y e. e)) c.put_number-at.ensures c.put_tree-end.ensures (bytes_of_lem c.put_tree-end.new.items (λ i. omega (arith, c.type_inv.key i)))
