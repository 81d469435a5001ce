-- Laws of the fixed spellings: each was computed once over all kinds.
use mathlib.Core.Path.{◌≡◌, refl, sym, ap, ◌∙◌}
use mathlib.Core.Bool.{Bool, true, false, not}
use mathlib.Core.List.{List, [], ◌∷◌}
use Prim.Native.Nat.{ℕ, zero, suc, ◌+◌, ◌/◌, ◌%◌, ◌≤◌, ◌<◌}
use native.Mathlib.Omega.{arith}
use borrow.Author.Tests.{eqb-true, leb-true, ltb-true}
use lib.Dec.{eqb, leb, ltb}
use lib.ListN.{length, get_or}
use Rattle.words.specs.Test.{◌and◌, ◌or◌, same}
use Rattle.words.specs.Class.{fixed}
use Rattle.words.specs.Spelling.{spelling, spelled_as, spelled_as_any, fixed_letters, fixed_places, guess_place_of, fixed_guesses}
use Rattle.words.specs.Check.{part}
use Rattle.words.proofs.Tests.{every_below, below_each, some_of, some_gives, both_true, both_ways, not_or}
use Rattle.words.proofs.Bytes.{same_eq}

abbrev empty : List ℕ → Bool
empty [] = true
empty (x ∷ s) = false

-- kind k's spelling stands among the letters at the place p
abbrev stands : List ℕ → ℕ → ℕ → Bool
stands letters k p =
    eqb (p % 16) (length (spelling k))
    and leb (p / 16 + p % 16) 189
    and same (part letters (p / 16) (p % 16)) (spelling k)
    and ltb p 65536

-- the same of each place of a list, whose first is that of kind k
abbrev all_stand : List ℕ → ℕ → List ℕ → Bool
all_stand letters k [] = true
all_stand letters k (p ∷ ps) = stands letters k p and all_stand letters (suc k) ps

fixed_stand : all_stand fixed_letters 0 fixed_places ≡ true
fixed_stand = refl

each_stands : (letters : List ℕ) (k : ℕ) (ps : List ℕ) (i : ℕ) → all_stand letters k ps ≡ true → i < length ps → stands letters (k + i) (get_or ps i 0) ≡ true
each_stands letters k [] i e h = absurd (omega arith)
each_stands letters k (p ∷ ps) zero e h = ap (λ (j : ℕ). stands letters j p) same_kind ∙ (both_true _ _ e).0
  where
    same_kind : k + 0 ≡ k
    same_kind = omega arith
each_stands letters k (p ∷ ps) (suc i) e h =
    ap (λ (j : ℕ). stands letters j (get_or ps i 0)) next_kind_lem ∙ each_stands letters (suc k) ps i (both_true (stands letters k p) _ e).1 (omega arith)
  where
    next_kind_lem : k + suc i ≡ suc k + i
    next_kind_lem = omega arith

record Stands (letters : List ℕ) (k p : ℕ) : Type 0 where
  size : p % 16 ≡ length (spelling k)
  inside : p / 16 + p % 16 ≤ 189
  is : part letters (p / 16) (p % 16) ≡ spelling k
  small : p < 65536

stand : (letters : List ℕ) (k p : ℕ) → stands letters k p ≡ true → Stands letters k p
stand letters k p e =
    let a = both_true _ _ e in
    let b = both_true _ _ a.1 in
    let d = both_true _ _ b.1 in
    record {
      size = eqb-true (p % 16) (length (spelling k)) a.0;
      inside = leb-true (p / 16 + p % 16) 189 b.0;
      is = same_eq (part letters (p / 16) (p % 16)) (spelling k) d.0;
      small = ltb-true p 65536 d.1;
    }

-- only a kind of fixed spelling has one
fixed_spelled : every_below 107 (λ k. fixed k or empty (spelling k)) ≡ true
fixed_spelled = refl

-- a string of some bytes is a kind's spelling only where that is fixed
only_fixed : (f : Bool) (t s : List ℕ) → 1 ≤ length s → (f or empty t) ≡ true → (f and same t s) ≡ same t s
only_fixed true t s h e = refl
only_fixed false [] [] h e = absurd (omega arith)
only_fixed false [] (x ∷ s) h e = refl
only_fixed false (y ∷ t) s h e = let z : ◌≡◌ {A = ℕ} 0 1 = cc in absurd (omega arith)

spelled_is : (s : List ℕ) (k : ℕ) → 1 ≤ length s → k < 107 → spelled_as s k ≡ same (spelling k) s
spelled_is s k h l =
    only_fixed (fixed k) (spelling k) s h (below_each 107 (λ i. fixed i or empty (spelling i)) fixed_spelled k l)

-- what the table of places and the letters say of a kind
module _ (places letters : List ℕ) (k : ℕ) (p : places ≡ fixed_places) (q : letters ≡ fixed_letters) (h : k < 107) where
  abbrev entry : ℕ
  entry = get_or places k 0

  long : length places ≡ 128
  long = ap (λ (l : List ℕ). length l) p

  there : stands letters k entry ≡ true
  there =
      ap (λ (i : ℕ). stands letters i entry) from_zero
      ∙ each_stands letters 0 places k ((λ i. all_stand (q i) 0 (p i)) ∙ fixed_stand) (omega (arith, long))
    where
      from_zero : k ≡ 0 + k
      from_zero = omega arith

  abbrev here : Stands letters k entry
  here = stand letters k entry there

  pub entry_inside : entry / 16 + entry % 16 ≤ 189
  entry_inside = here.inside

  pub entry_spells : (n : ℕ) → entry % 16 ≡ n → part letters (entry / 16) n ≡ spelling k
  entry_spells n e = ap (part letters (entry / 16)) (sym e) ∙ here.is

-- ---- the guess
-- the guess of kind k's spelling, if it is fixed, is k
abbrev own_guess : List ℕ → ℕ → Bool
own_guess guesses k = not (fixed k) or eqb (get_or guesses (guess_place_of (spelling k)) 0) k

abbrev low_guess : List ℕ → ℕ → Bool
low_guess guesses i = ltb (get_or guesses i 0) 107

-- the guess of each fixed spelling is its kind, and every guess is below 107
abbrev guesses_all : List ℕ → Bool
guesses_all guesses = every_below 107 (own_guess guesses) and every_below 128 (low_guess guesses)

fixed_guessed : guesses_all fixed_guesses ≡ true
fixed_guessed = refl

module _ (guesses : List ℕ) (p : guesses ≡ fixed_guesses) where
  abbrev guessed : List ℕ → ℕ
  guessed s = get_or guesses (guess_place_of s) 0

  lawful : guesses_all guesses ≡ true
  lawful = ap guesses_all p ∙ fixed_guessed

  both : (every_below 107 (own_guess guesses) ≡ true) × (every_below 128 (low_guess guesses) ≡ true)
  both = both_true (every_below 107 (own_guess guesses)) (every_below 128 (low_guess guesses)) lawful

  pub guess_low : (i : ℕ) → i < 128 → get_or guesses i 0 < 107
  guess_low i h = ltb-true (get_or guesses i 0) 107 (below_each 128 (low_guess guesses) both.1 i h)

  fixed_guess : (k : ℕ) → k < 107 → fixed k ≡ true → guessed (spelling k) ≡ k
  fixed_guess k h e =
      eqb-true (guessed (spelling k)) k (not_or (fixed k) _ (below_each 107 (own_guess guesses) both.0 k h) e)

  -- some bytes are a fixed spelling exactly when they are that of their guess
  pub guess_tells : (s : List ℕ) → 1 ≤ length s → spelled_as_any s ≡ same (spelling (guessed s)) s
  guess_tells s h = both_ways (spelled_as_any s) (same (spelling (guessed s)) s) (some_gives 107 (spelled_as s) (same (spelling (guessed s)) s) found) back
    where
      found : (k : ℕ) → k < 107 → spelled_as s k ≡ true → same (spelling (guessed s)) s ≡ true
      found k l e =
          let is_both = both_true (fixed k) (same (spelling k) s) e in
          let is : spelling k ≡ s = same_eq (spelling k) s is_both.1 in
          let kind : guessed s ≡ k = ap guessed (sym is) ∙ fixed_guess k l is_both.0 in
          ap (λ (j : ℕ). same (spelling j) s) kind ∙ is_both.1

      back : same (spelling (guessed s)) s ≡ true → spelled_as_any s ≡ true
      back e =
          let low : guessed s < 107 = guess_low (guess_place_of s) (omega arith) in
          some_of 107 (spelled_as s) (guessed s) low (spelled_is s (guessed s) h low ∙ e)
