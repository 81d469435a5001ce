-- A record of four words behind the nodes before it.
use native.Mathlib.Omega.{arith}
use mathlib.Core.Path.{◌≡◌}
use Prim.Native.Nat.{◌+◌, ◌*◌}
use Rattle.keys.proofs.Cells.{four_stored, four_words}
use Rattle.keys.proofs.store.append_node.Goals as goal

pub returns : goal.returns
returns c =
    let first : c.args.at * 4 + 0 ≡ c.args.at * 4 = omega arith in
    rw first (four_words c.args.nodes.now _ c.args.at c.args.choices c.halves-place.ensures c.halves-under.ensures (four_stored c.args.nodes.now c.args.at c.args.choices _ _ 0 (omega arith)))
