-- A node's own choices in one word.
use mathlib.Core.Path.{◌≡◌, sym, ap, ◌∙◌, subst}
use Prim.Native.Nat.{ℕ, ◌+◌, ◌*◌, ◌%◌, ◌^◌, ◌≤◌, ◌<◌}
use native.Mathlib.Nat.{add_comm, mul_comm}
use native.Mathlib.Omega.{arith}
use lib.Arith.{digits_lt}
use lib.Pow.{pow-add, pow_mono, shl_exact}
use Rattle.keys.specs.Limits.{choices_wide}

pub pack_lt : (x a y b : ℕ) → x < 2 ^ a → y < 2 ^ b → x + 2 ^ a * y < 2 ^ (a + b)
pack_lt x a y b f g =
    subst (λ (i : ℕ). i < 2 ^ (a + b)) (add_comm (y * 2 ^ a) x ∙ ap (λ (i : ℕ). x + i) (mul_comm y (2 ^ a)))
    (subst (λ (i : ℕ). y * 2 ^ a + x < i) (mul_comm (2 ^ b) (2 ^ a) ∙ sym (pow-add 2 a b)) (digits_lt g f))

module _ (a y b : ℕ) (g : y < 2 ^ b) (h : a + b ≤ choices_wide) where
  -- The number moved up past those before it loses no digit.
  pub pack_moved : y * 2 ^ a % 2 ^ 64 ≡ 2 ^ a * y
  pack_moved = shl_exact b a 64 g (omega arith) ∙ mul_comm y (2 ^ a)

pub pack_fits : (x a y b : ℕ) → x < 2 ^ a → y < 2 ^ b → a + b ≤ choices_wide → x + 2 ^ a * y < 2 ^ 64
pack_fits x a y b f g h =
    let small : x + 2 ^ a * y < 2 ^ (a + b) = pack_lt x a y b f g in
    let m : 2 ^ (a + b) ≤ 2 ^ choices_wide = pow_mono {j = choices_wide} h in
    omega arith
