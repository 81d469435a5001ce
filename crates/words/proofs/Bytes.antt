-- Laws of byte strings that are compared as a whole.
use mathlib.Core.Path.{◌≡◌, refl, sym, ap, ap₂}
use mathlib.Core.Bool.{Bool, true, false, ◌&&◌, ◌||◌}
use mathlib.Core.List.{List, [], ◌∷◌}
use Prim.Native.Nat.{ℕ, suc, ◌+◌, ◌≤◌}
use native.Mathlib.Omega.{arith}
use borrow.Author.Tests.{eq-eqb, eqb-true}
use lib.Dec.{eqb}
use lib.ListN.{length, drop, length-drop}
use lib.Pointwise.{pointwise}
use lib.Seq.{length-take-le}
use Rattle.std.specs.List.{list_any}
use Rattle.words.specs.Test.{◌and◌, ◌or◌, same, among}
use Rattle.words.specs.Check.{part}
use Rattle.words.proofs.Tests.{both_true, both_ways}

pub part_length : (l : List ℕ) (at n : ℕ) → at + n ≤ length l → length (part l at n) ≡ n
part_length l at n h = length-take-le n (drop at l) (omega (arith, length-drop at l))

-- what `==` says of two byte strings
pub same_pointwise : (s t : List ℕ) → pointwise eqb s t ≡ same s t
same_pointwise [] [] = refl
same_pointwise [] (y ∷ t) = refl
same_pointwise (x ∷ s) [] = refl
same_pointwise (x ∷ s) (y ∷ t) = by (eqb x y) (same_pointwise s t)
  where
    by : (b : Bool) → pointwise eqb s t ≡ same s t → (b && pointwise eqb s t) ≡ (b and same s t)
    by true e = e
    by false e = refl

-- what `contains` says of a byte among others
pub among_any : (s : List ℕ) (x : ℕ) → list_any (λ y. eqb y x) s ≡ among s x
among_any [] x = refl
among_any (y ∷ s) x = by (eqb y x) (eqb x y) turned (among_any s x)
  where
    turned : eqb y x ≡ eqb x y
    turned = both_ways (eqb y x) (eqb x y) (λ e. eq-eqb x y (sym (eqb-true y x e))) (λ e. eq-eqb y x (sym (eqb-true x y e)))

    by : (a b : Bool) → a ≡ b → list_any (λ y. eqb y x) s ≡ among s x → (a || list_any (λ y. eqb y x) s) ≡ (b or among s x)
    by true true e f = refl
    by true false e f = cc
    by false true e f = cc
    by false false e f = f

-- byte strings that are the same are equal; of different lengths none are the same
pub same_eq : (s t : List ℕ) → same s t ≡ true → s ≡ t
same_eq [] [] e = refl
same_eq [] (y ∷ t) e = let z : ◌≡◌ {A = ℕ} 0 1 = cc in absurd (omega arith)
same_eq (x ∷ s) [] e = let z : ◌≡◌ {A = ℕ} 0 1 = cc in absurd (omega arith)
same_eq (x ∷ s) (y ∷ t) e =
    let b = both_true (eqb x y) (same s t) e in
    ap₂ (λ (u : ℕ) (v : List ℕ). u ∷ v) (eqb-true x y b.0) (same_eq s t b.1)

pub same_long : (s t : List ℕ) → (length s ≡ length t → ⊥) → false ≡ same s t
same_long [] [] h = absurd (h refl)
same_long [] (y ∷ t) h = refl
same_long (x ∷ s) [] h = refl
same_long (x ∷ s) (y ∷ t) h = by (eqb x y) (same_long s t (λ q. h (ap suc q)))
  where
    by : (b : Bool) → false ≡ same s t → false ≡ (b and same s t)
    by true e = e
    by false e = refl
