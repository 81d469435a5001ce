-- Laws of the tests that the definitions are made of, and of class words.
use mathlib.Core.Path.{◌≡◌, refl, sym, ap, ◌∙◌}
use mathlib.Core.Bool.{Bool, true, false, not}
use mathlib.Core.List.{List, [], ◌∷◌, ◌++◌}
use mathlib.Core.Logic.{◌⊎◌, inl, inr, ⊎_elim}
use Prim.Native.Nat.{ℕ, zero, suc, ◌+◌, ◌*◌, ◌/◌, ◌%◌, ◌^◌, ◌≤◌, ◌<◌}
use native.Mathlib.Nat.{zero-div, eq-or-lt_of_le}
use native.Mathlib.Numerals.{one-add}
use native.Mathlib.Omega.{arith}
use lib.Dec.{eqb}
use lib.ListN.{length, get_or, length-append, get_or-append}
use lib.Seq.{get_or_at}
use lib.Pow.{shr-shr}
use borrow.Author.Tests.{ne_eqb}
use Rattle.words.specs.Test.{◌and◌, ◌or◌, among, some_below}
use Rattle.words.specs.Class.{bit, packed, table, classes_of, class_word, class_words, in_class}

pub lt_or_le : (a b : ℕ) → (a < b) ⊎ (b ≤ a)
lt_or_le a zero = inr (omega arith)
lt_or_le zero (suc b) = inl (omega arith)
lt_or_le (suc a) (suc b) = ⊎_elim (λ p. inl (omega arith)) (λ q. inr (omega arith)) (lt_or_le a b)

-- a number among those of a list
pub among_next : (x : ℕ) (l : List ℕ) (k : ℕ) → (k ≡ x → ⊥) → among (x ∷ l) k ≡ among l k
among_next x l k e = ap (λ (b : Bool). b or among l k) (ne_eqb k x e)

-- a test passes at every number below n
abbrev pub every_below : ℕ → (ℕ → Bool) → Bool
every_below zero f = true
every_below (suc n) f = f n and every_below n f

and_left : (a b : Bool) → a and b ≡ true → a ≡ true
and_left true b e = refl
and_left false b e = e

and_right : (a b : Bool) → a and b ≡ true → b ≡ true
and_right true b e = e
and_right false b e = let z : ◌≡◌ {A = ℕ} 0 1 = cc in absurd (omega arith)

pub both_true : (a b : Bool) → a and b ≡ true → (a ≡ true) × (b ≡ true)
both_true a b e = (and_left a b e, and_right a b e)

pub below_each : (n : ℕ) (f : ℕ → Bool) → every_below n f ≡ true → (k : ℕ) → k < n → f k ≡ true
below_each zero f e k h = absurd (omega arith)
below_each (suc n) f e k h =
    ⊎_elim (λ q. ap f (suc_one q) ∙ and_left (f n) (every_below n f) e) (λ l. below_each n f (and_right (f n) (every_below n f) e) k (omega arith))
    (eq-or-lt_of_le h)
  where
    suc_one : suc k ≡ suc n → k ≡ n
    suc_one q = omega arith

-- ---- some number below n passes exactly when one of them does
or_right : (a b : Bool) → b ≡ true → (a or b) ≡ true
or_right true b e = refl
or_right false b e = e

or_gives : (x y b : Bool) → (x ≡ true → b ≡ true) → (y ≡ true → b ≡ true) → (x or y) ≡ true → b ≡ true
or_gives true y b f g e = f refl
or_gives false y b f g e = g e

pub not_or : (a b : Bool) → (not a or b) ≡ true → a ≡ true → b ≡ true
not_or true b e p = e
not_or false b e p = let z : ◌≡◌ {A = ℕ} 0 1 = cc in absurd (omega arith)

pub both_ways : (a b : Bool) → (a ≡ true → b ≡ true) → (b ≡ true → a ≡ true) → a ≡ b
both_ways true b f g = sym (f refl)
both_ways false true f g = g refl
both_ways false false f g = refl

pub some_of : (n : ℕ) (f : ℕ → Bool) (k : ℕ) → k < n → f k ≡ true → some_below n f ≡ true
some_of zero f k h e = absurd (omega arith)
some_of (suc n) f k h e =
    ⊎_elim (λ q. ap (λ (x : Bool). x or some_below n f) (ap f (suc_one q) ∙ e)) (λ l. or_right (f n) (some_below n f) (some_of n f k (omega arith) e))
    (eq-or-lt_of_le h)
  where
    suc_one : suc k ≡ suc n → n ≡ k
    suc_one q = omega arith

pub some_gives : (n : ℕ) (f : ℕ → Bool) (b : Bool) → ((k : ℕ) → k < n → f k ≡ true → b ≡ true) → some_below n f ≡ true → b ≡ true
some_gives zero f b g e = let z : ◌≡◌ {A = ℕ} 0 1 = cc in absurd (omega arith)
some_gives (suc n) f b g e =
    or_gives (f n) (some_below n f) b (g n (omega arith)) (some_gives n f b (λ k h. g k (omega arith))) e

-- ---- class words
pub bit_test : (b : Bool) → eqb (bit b) 1 ≡ b
bit_test true = refl
bit_test false = refl

bit_small : (b : Bool) → bit b < 2
bit_small true = omega arith
bit_small false = omega arith

-- bit j of packed classes is class j
pub packed_bit : (bs : List Bool) (j : ℕ) → packed bs / 2 ^ j % 2 ≡ bit (get_or bs j false)
packed_bit [] j = ap (λ (x : ℕ). x % 2) (zero-div (2 ^ j))
packed_bit (b ∷ bs) zero = omega (arith, bit_small b)
packed_bit (b ∷ bs) (suc j) =
    ap (λ (x : ℕ). x % 2)
    (ap (λ (x : ℕ). packed (b ∷ bs) / 2 ^ x) (sym (one-add j)) ∙ sym (shr-shr (packed (b ∷ bs)) 1 j) ∙ ap (λ (x : ℕ). x / 2 ^ j) half)
    ∙ packed_bit bs j
  where
    half : (bit b + 2 * packed bs) / 2 ≡ packed bs
    half = omega (arith, bit_small b)

-- ---- tables
pub table_length : (n : ℕ) (f : ℕ → ℕ) → length (table n f) ≡ n
table_length zero f = refl
table_length (suc n) f = length-append (table n f) (f n ∷ []) ∙ ap (λ (x : ℕ). x + 1) (table_length n f) ∙ omega arith

pub table_at : (n : ℕ) (f : ℕ → ℕ) (k : ℕ) → k < n → get_or (table n f) k 0 ≡ f k
table_at zero f k h = absurd (omega arith)
table_at (suc n) f k h = ⊎_elim last (λ l. below l ∙ table_at n f k (omega arith)) (eq-or-lt_of_le h)
  where
    last : suc k ≡ suc n → get_or (table n f ++ (f n ∷ [])) k 0 ≡ f k
    last q =
        let e : k ≡ n = omega arith in
        get_or_at (table n f) (f n) [] 0 k (table_length n f ∙ sym e) ∙ ap f (sym e)

    below : suc k < suc n → get_or (table n f ++ (f n ∷ [])) k 0 ≡ get_or (table n f) k 0
    below l = get_or-append (table n f) (f n ∷ []) 0 k (omega (arith, table_length n f))

-- a class is read off the table
pub class_read : (classes : List ℕ) (k j : ℕ) → classes ≡ class_words → k < 256 → eqb (get_or classes k 0 / 2 ^ j % 2) 1 ≡ in_class j k
class_read classes k j e h =
    ap (λ (x : ℕ). eqb (x / 2 ^ j % 2) 1) (ap (λ (l : List ℕ). get_or l k 0) e ∙ table_at 256 class_word k h)
    ∙ ap (λ (x : ℕ). eqb x 1) (packed_bit (classes_of k) j) ∙ bit_test (in_class j k)
