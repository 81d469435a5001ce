use native.Mathlib.Omega.{arith}
use mathlib.Core.Path.{◌≡◌, subst}
use Prim.Native.Nat.{◌*◌}
use lib.ListN.{length}
use Rattle.keys.specs.Bits.{bits_of_bytes}
use Rattle.keys.proofs.BitsLaws.{length_bytes}
use Rattle.fields.proofs.Chunks.{number_told}
use Rattle.key_parts.specs.Padding.{Ends}
use Rattle.key_parts.proofs.PaddingLaws.{pads_none, pads_more, ends_set, ends_whole}
use Rattle.key_parts.proofs.padding.pad_end.Goals as goal

pub loop-at-init : goal.loop-at-init
loop-at-init c =
    pads_none (bits_of_bytes c.args.key.now) c.args.bit (omega (arith, length_bytes c.args.key.now))

pub returns-then-number_at-eq1 : goal.returns-then-number_at-eq1
returns-then-number_at-eq1 c =
    ends_set c.loop-at.invariant (length c.args.key.now) (length_bytes c.args.key.now) c.number_at.result (number_told (bits_of_bytes c.args.key.now) c.loop-at.at 1 c.number_at.result c.number_at.ensures) c.if-number_at-eq1.true (λ z. omega arith)

pub loop-at-preserved : goal.loop-at-preserved
loop-at-preserved c =
    pads_more c.loop-at.invariant (length c.args.key.now) (length_bytes c.args.key.now) c.number_at.result (number_told (bits_of_bytes c.args.key.now) c.loop-at.at 1 c.number_at.result c.number_at.ensures) c.if-number_at-eq1.false (λ z. omega arith)

pub returns : goal.returns
returns c =
    let e : c.loop-at.at ≡ c.div_ceil-end.result * 8 = omega arith in
    subst (Ends (bits_of_bytes c.args.key.now) c.args.bit) e (ends_whole c.loop-at.invariant (length c.args.key.now) (length_bytes c.args.key.now) (omega arith))
