use native.Mathlib.Omega.{arith}
use mathlib.Core.Path.{ap, refl, ◌∙◌}
use Prim.Native.Nat.{ℕ, ◌-◌, ◌/◌, ◌%◌, ◌^◌}
use lib.Pow.{shr_le}
use Rattle.fields.proofs.Windows.{across_none, across_more, across_all}
use Rattle.fields.proofs.put.put_across.Goals as goal

pub loop-i-init : goal.loop-i-init
loop-i-init c =
    across_none c.args.bytes.now c.args.at c.args.skip c.args.key.now (omega arith) _ (omega arith) (omega (arith, shr_le c.from.result (8 - c.args.skip), c.from.ensures, c.type_inv.key c.args.at)) (ap (λ (x : ℕ). x / 2 ^ (8 - c.args.skip)) c.from.ensures)

pub loop-i-preserved : goal.loop-i-preserved
loop-i-preserved c =
    across_more c.args.bytes.now c.args.at c.args.skip c.args.key.now (omega arith) _ c.between.result c.loop-i.invariant (omega arith) (omega (arith, c.loop-i.invariant.same)) (omega (arith, c.type_inv.bytes c.loop-i.i)) refl c.between.ensures

pub returns : goal.returns
returns c =
    across_all c.args.bytes.now c.args.at c.args.skip c.args.key.now (omega arith) c.lowest.result c.put_part.new.key c.loop-i.invariant (omega arith)
    (c.lowest.ensures ∙ ap (λ (x : ℕ). x % 2 ^ c.args.skip) c.from-2.ensures) c.put_part.ensures
