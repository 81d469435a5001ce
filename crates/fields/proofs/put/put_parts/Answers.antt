use native.Mathlib.Omega.{arith}
use mathlib.Core.Path.{ap, ◌∙◌}
use Prim.Native.Nat.{ℕ, ◌-◌, ◌/◌, ◌%◌, ◌^◌}
use Rattle.fields.proofs.PutLaws.{putting_more}
use Rattle.fields.proofs.put.put_parts.Goals as goal

pub loop-left-preserved : goal.loop-left-preserved
loop-left-preserved c =
    putting_more c.first_of-size.result c.lowest.result c.put_part.new.key c.loop-left.invariant (omega arith)
    (c.lowest.ensures ∙ ap (λ (x : ℕ). x / 2 ^ (c.loop-left.left - c.first_of-size.result) % 2 ^ c.first_of-size.result) c.from.ensures) c.put_part.ensures
