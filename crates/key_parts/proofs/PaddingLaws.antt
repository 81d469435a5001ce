-- The last bits of a key: zeros to the byte, and no byte more.
use mathlib.Core.Path.{◌≡◌, refl, sym, ap, ap₂, ◌∙◌}
use mathlib.Core.Bool.{Bool, true, false}
use mathlib.Core.List.{◌∷◌}
use Prim.Native.Nat.{ℕ, suc, ◌+◌, ◌-◌, ◌*◌, ◌%◌, ◌≤◌, ◌<◌}
use native.Mathlib.Numerals.{add-one}
use native.Mathlib.Omega.{arith}
use lib.ListN.{length, get_or, drop, length-drop, drop_of_length-le}
use lib.Seq.{drop-cons}
use Rattle.keys.specs.Bits.{Bits, unit, field, take_field}
use Rattle.keys.specs.Form.{Value, stop}
use Rattle.keys.specs.Limits.{bad_key}
use Rattle.keys.specs.Key.{padding}
use Rattle.fields.proofs.Chunks.{Told}
use Rattle.key_parts.specs.Padding.{Ends}

-- A field of one bit is that bit.
pub one_bit : (bs : Bits) (at b : ℕ) → Told bs at 1 b → at < length bs → b ≡ unit (get_or bs at false)
one_bit bs at b t h =
    let e : take_field 1 (drop at bs) ≡ field (0 * 2 + unit (get_or bs at false)) (drop (suc at) bs) = ap (take_field 1) (drop-cons bs at false h) in
    let i = t.is in
    let j : b ≡ 0 * 2 + unit (get_or bs at false) = cc in
    omega arith

-- Padding goes on from here.
pub record Pads (bs : Bits) (bit at : ℕ) : Type 0 where
  pub inside : at ≤ length bs
  pub same : (v : Value) → padding v (length (drop bit bs) % 8) (drop bit bs) ≡ padding v ((length bs - at) % 8) (drop at bs)

pub pads_none : (bs : Bits) (bit : ℕ) → bit ≤ length bs → Pads bs bit bit
pads_none bs bit h = record { inside = h; same = λ v. ap (λ (x : ℕ). padding v (x % 8) (drop bit bs)) (length-drop bit bs) }

bit_false : (b : Bool) → (unit b ≡ 1 → ⊥) → b ≡ false
bit_false true h = absurd (h refl)
bit_false false h = refl

bit_true : (b : Bool) → unit b ≡ 1 → b ≡ true
bit_true true h = refl
bit_true false h = let z : ◌≡◌ {A = ℕ} 0 1 = h in absurd (omega arith)

module _ {bs : Bits} {bit at : ℕ} (d : Pads bs bit at) (n : ℕ) (e : length bs ≡ n * 8) where
  pub pads_inside : (at % 8 ≡ 0 → ⊥) → at < length bs
  pads_inside h = omega (arith, d.inside)

  step : (v : Value) → (at % 8 ≡ 0 → ⊥) → padding v (length (drop bit bs) % 8) (drop bit bs) ≡ padding v (suc ((length bs - (at + 1)) % 8)) (get_or bs at false ∷ drop (at + 1) bs)
  step v h =
      let q : (length bs - at) % 8 ≡ suc ((length bs - (at + 1)) % 8) = omega (arith, d.inside) in
      d.same v
      ∙ ap₂ (λ (x : ℕ) (y : Bits). padding v x y) q (drop-cons bs at false (pads_inside h) ∙ ap (λ (x : ℕ). get_or bs at false ∷ drop x bs) (sym (add-one at)))

  pub pads_more : (b : ℕ) → Told bs at 1 b → (b ≡ 1 → ⊥) → (at % 8 ≡ 0 → ⊥) → Pads bs bit (at + 1)
  pads_more b t z h =
      record {
        inside = omega (arith, pads_inside h);
        same =
            λ v. step v h
            ∙ ap (λ (x : Bool). padding v (suc ((length bs - (at + 1)) % 8)) (x ∷ drop (at + 1) bs)) (bit_false (get_or bs at false) (λ j. z (one_bit bs at b t (pads_inside h) ∙ j)));
      }

  pub ends_set : (b : ℕ) → Told bs at 1 b → b ≡ 1 → (at % 8 ≡ 0 → ⊥) → Ends bs bit at
  ends_set b t z h =
      record {
        inside = d.inside;
        stopped =
            λ _ v. step v h
            ∙ ap (λ (x : Bool). padding v (suc ((length bs - (at + 1)) % 8)) (x ∷ drop (at + 1) bs)) (bit_true (get_or bs at false) (sym (one_bit bs at b t (pads_inside h)) ∙ z))
            ∙ ap (λ (x : ℕ). stop bad_key (suc x)) (length-drop (at + 1) bs)
            ∙ ap (stop bad_key) (let q : suc (length bs - (at + 1)) ≡ length bs - at = omega (arith, pads_inside h) in q);
        went = λ o. absurd (omega (arith, pads_inside h));
      }

  at_end : (v : Value) → at % 8 ≡ 0 → padding v (length (drop bit bs) % 8) (drop bit bs) ≡ padding v 0 (drop at bs)
  at_end v h =
      let q : (length bs - at) % 8 ≡ 0 = omega (arith, d.inside) in
      d.same v ∙ ap (λ (x : ℕ). padding v x (drop at bs)) q

  pub ends_whole : at % 8 ≡ 0 → Ends bs bit at
  ends_whole h =
      record {
        inside = d.inside;
        stopped =
            λ l v. at_end v h ∙ ap (padding v 0) (drop-cons bs at false l) ∙ ap (stop bad_key) (ap length (sym (drop-cons bs at false l)) ∙ length-drop at bs);
        went = λ o v. at_end v h ∙ ap (padding v 0) (drop_of_length-le bs (let q : length bs ≤ at = omega arith in q));
      }
