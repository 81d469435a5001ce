use native.Mathlib.Omega.{arith}
use mathlib.Core.Path.{◌≡◌, ap, ◌∙◌}
use Prim.Native.Nat.{ℕ, ◌-◌, ◌/◌, ◌%◌, ◌*◌, ◌^◌}
use lib.ListN.{length}
use lib.Seq.{sets}
use Rattle.keys.specs.Bits.{bits_of_bytes}
use Rattle.fields.proofs.Windows.{four_small, four_bytes, lowest_small, mid_put, replaced_small, window_put}
use Rattle.fields.proofs.put.put_window.Goals as goal

pub replaced-new-requires : goal.replaced-new-requires
replaced-new-requires c =
    (four_small c.four_at.ensures, omega arith, lowest_small c.lowest-number.result c.from.result c.args.width c.lowest-number.ensures)

pub overflow_cast-new : goal.overflow_cast-new
overflow_cast-new c =
    let rest = 32 - c.args.bit % 8 - c.args.width in
    omega (arith, c.replaced-new.ensures, replaced_small 32 c.four_at.result c.args.width rest c.lowest-number.result (four_small c.four_at.ensures) (omega arith) (lowest_small c.lowest-number.result c.from.result c.args.width c.lowest-number.ensures))

pub returns : goal.returns
returns c =
    let bytes = c.copy_from_slice.ensures.after ∙ c.to_be_bytes.ensures in
    let many : length c.copy_from_slice.new.self ≡ 4 = ap length bytes in
    mid_put c.args.key.now c.copy_from_slice.new.self (c.args.bit / 8) _ (omega arith) (omega arith)
    ∙ ap (sets (bits_of_bytes c.args.key.now) (c.args.bit / 8 * 8)) (ap bits_of_bytes bytes ∙ four_bytes c.replaced-new.result)
    ∙ window_put c.args.key.now c.args.bit c.args.width c.args.number c.four_at.result c.lowest-number.result c.replaced-new.result (omega arith) (omega arith) c.four_at.ensures
    (c.lowest-number.ensures ∙ ap (λ (x : ℕ). x % 2 ^ c.args.width) c.from.ensures) c.replaced-new.ensures
