-- Marks and numbers: how large what stands at a cursor is, the steps of a mark, how far an answer reaches; and tests of kinds.
use mathlib.Core.Path.{◌≡◌, refl, sym, ap, ◌∙◌}
use mathlib.Core.Bool.{Bool, true, false}
use mathlib.Core.List.{List}
use Prim.Native.Nat.{ℕ, zero, suc, ◌<◌}
use native.Mathlib.Omega.{arith}
use native.Mathlib.Decide.{dec_lt}
use lib.Dec.{eqb}
use mir.Val.{bool_byte}
use lib.ListN.{length, get_or, get_or-eq_default}
use borrow.Author.Tests.{eq-eqb, ne_eqb}
use Rattle.words.specs.Test.{◌or◌}
use Rattle.words.specs.Word.{kind}
use Rattle.words.specs.Cursor.{left, kind_at}
use Rattle.keys.specs.Bits.{unit}
use Rattle.marks.specs.State.{Inside, Moved, Along, next_mark, named_mark, past_mark}
use Rattle.marks.specs.declared.state.Mark.{Mark}

-- ---- Steps of a mark

pub moved_same : {len : ℕ} {m : Mark} → Inside len m → Moved len m m
moved_same i =
    record {
      onward = omega arith;
      ahead = omega arith;
      inside = i.inside;
      half = i.half;
      used_is = refl;
      named_is = refl;
      noted_is = refl;
    }

pub moved_next : {len : ℕ} {m : Mark} → Inside len m → m.at < len → Moved len m (next_mark m)
moved_next i h =
    record {
      onward = omega (arith, i.half);
      ahead = omega arith;
      inside = omega arith;
      half = omega arith;
      used_is = refl;
      named_is = refl;
      noted_is = refl;
    }

pub along_same : {len : ℕ} {m : Mark} → Inside len m → Along len m m
along_same i =
    record {
      onward = omega arith;
      ahead = omega arith;
      inside = i.inside;
      half = i.half;
      used_is = refl;
      noted_is = refl;
      names = omega arith;
      few = omega arith;
    }

pub along_named : {len : ℕ} {m : Mark} → Inside len m → m.at < len → Along len m (named_mark m)
along_named i h =
    record {
      onward = omega (arith, i.half);
      ahead = omega arith;
      inside = omega arith;
      half = omega arith;
      used_is = refl;
      noted_is = refl;
      names = omega arith;
      few = omega arith;
    }

pub along_then : {len : ℕ} {m p q : Mark} → Along len m p → Along len p q → Along len m q
along_then a b =
    record {
      onward = omega (arith, a.onward, b.onward);
      ahead = omega (arith, a.ahead, b.ahead);
      inside = b.inside;
      half = b.half;
      used_is = b.used_is ∙ a.used_is;
      noted_is = b.noted_is ∙ a.noted_is;
      names = omega (arith, a.names, b.names);
      few = omega (arith, a.few, b.few);
    }

-- Where only the cursor moved.
pub along_moved : {len : ℕ} {m q : Mark} → Moved len m q → Along len m q
along_moved v =
    record {
      onward = v.onward;
      ahead = v.ahead;
      inside = v.inside;
      half = v.half;
      used_is = v.used_is;
      noted_is = v.noted_is;
      names = omega (arith, v.named_is);
      few = omega (arith, v.named_is, v.ahead);
    }

pub inside_along : {len : ℕ} {m q : Mark} → Along len m q → Inside len q
inside_along a = record { inside = a.inside; half = a.half }

pub inside_next : {len : ℕ} (m : Mark) → m.at < len → Inside len (next_mark m)
inside_next m h = record { inside = omega arith; half = omega arith }

pub past_none : (W : List ℕ) (k : ℕ) (m : Mark) → eqb (kind_at W m.at m.half) k ≡ false → past_mark W k m ≡ m
past_none W k m e = rw e

-- ---- Tests

pub or_false : (b : Bool) → b ≡ (b or false)
or_false true = refl
or_false false = refl

-- What a test is as a number.
pub bit_is : (b : Bool) → bool_byte b ≡ unit b
bit_is true = refl
bit_is false = refl

-- A test that the end of the list does not pass holds inside the list only.
pub kind_inside : (f : ℕ → Bool) (W : List ℕ) (at half : ℕ) → f 0 ≡ false → f (kind_at W at half) ≡ true → at < length W
kind_inside f W at half z e = by (dec_lt at (length W))
  where
    nothing : (h : ℕ) → left h 0 ≡ 0
    nothing zero = refl
    nothing (suc k) = refl

    by : Dec (at < length W) → at < length W
    by (yes p) = p
    by (no p) =
        let w : get_or W at 0 ≡ 0 = get_or-eq_default W 0 (omega arith) in
        let k : kind_at W at half ≡ 0 = ap (λ (x : ℕ). left half (kind x)) w ∙ nothing half in
        let no : false ≡ true = sym z ∙ ap f (sym k) ∙ e in
        absurd (let q : ◌≡◌ {A = ℕ} 0 1 = cc in omega arith)

-- What the code found of a kind, as the rules test it.
pub is_here : (W : List ℕ) (m : Mark) {r k : ℕ} → r ≡ kind_at W m.at m.half → r ≡ k → eqb (kind_at W m.at m.half) k ≡ true
is_here W m {r} {k} e h = eq-eqb (kind_at W m.at m.half) k (sym e ∙ h)

pub is_not_here : (W : List ℕ) (m : Mark) {r k : ℕ} → r ≡ kind_at W m.at m.half → (r ≡ k → ⊥) → eqb (kind_at W m.at m.half) k ≡ false
is_not_here W m {r} {k} e h = ne_eqb (kind_at W m.at m.half) k (λ z. h (e ∙ z))
