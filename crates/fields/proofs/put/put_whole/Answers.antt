use native.Mathlib.Omega.{arith}
use mathlib.Core.Path.{ap, ◌∙◌}
use Prim.Native.Nat.{◌*◌}
use lib.ListN.{length}
use lib.Seq.{sets}
use Rattle.keys.specs.Bits.{bits_of_bytes}
use Rattle.fields.proofs.Windows.{mid_put}
use Rattle.fields.proofs.put.put_whole.Goals as goal

pub returns : goal.returns
returns c =
    mid_put c.args.key.now c.copy.new.to c.args.at _ (omega (arith, ap length c.copy.ensures)) (omega (arith, ap length c.copy.ensures))
    ∙ ap (λ x. sets (bits_of_bytes c.args.key.now) (c.args.at * 8) (bits_of_bytes x)) c.copy.ensures
