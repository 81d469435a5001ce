-- Laws of the look-ahead tests: past modifier words one token at a time, and how large a kind is.
use mathlib.Core.Path.{◌≡◌, refl, sym, ap, ◌∙◌}
use mathlib.Core.Bool.{Bool, true, false}
use mathlib.Core.List.{List, [], ◌∷◌}
use Prim.Native.Nat.{ℕ, zero, suc, ◌+◌, ◌<◌}
use native.Mathlib.Numerals.{add-one}
use native.Mathlib.Omega.{arith}
use lib.Dec.{eqb}
use lib.ListN.{drop}
use Rattle.words.specs.Test.{test}
use Rattle.words.specs.Kind.{Eof, LAngle, ShiftLeft, LtEq, ShiftLeftEq, Eq}
use Rattle.words.specs.Cursor.{word_at, whole_kind, second_half, kind_at}
use Rattle.words.specs.Ahead.{modifies, passed, past_modifiers}

-- ---- modifier words
past_suc : (i j : ℕ) (words : List ℕ) → past_modifiers i (drop j words) ≡ passed (modifies (word_at words j) (word_at words (suc j))) i (λ _. past_modifiers (suc i) (drop (suc j) words))
past_suc i zero [] = refl
past_suc i (suc j) [] = refl
past_suc i zero (w ∷ []) = refl
past_suc i zero (w ∷ x ∷ ws) = refl
past_suc i (suc j) (w ∷ ws) = past_suc i j ws

module _ (words : List ℕ) (j : ℕ) where
  abbrev tests : Bool
  tests = modifies (word_at words j) (word_at words (j + 1))

  past_at : past_modifiers j (drop j words) ≡ passed tests j (λ _. past_modifiers (j + 1) (drop (j + 1) words))
  past_at =
      past_suc j j words
      ∙ ap (λ (i : ℕ). passed (modifies (word_at words j) (word_at words i)) j (λ _. past_modifiers i (drop i words))) (sym (add-one j))

  pub past_more : tests ≡ true → past_modifiers j (drop j words) ≡ past_modifiers (j + 1) (drop (j + 1) words)
  past_more e = past_at ∙ ap (λ (b : Bool). passed b j (λ _. past_modifiers (j + 1) (drop (j + 1) words))) e

  pub past_end : tests ≡ false → past_modifiers j (drop j words) ≡ j
  past_end e = past_at ∙ ap (λ (b : Bool). passed b j (λ _. past_modifiers (j + 1) (drop (j + 1) words))) e

-- ---- how large a kind is
half_small : (k : ℕ) → second_half k < 256
half_small k = first (eqb k ShiftLeft)
  where
    third : (b : Bool) → test b (λ _. LtEq) (λ _. Eof) < 256
    third true = omega arith
    third false = omega arith

    second : (b : Bool) → test b (λ _. Eq) (λ _. test (eqb k ShiftLeftEq) (λ _. LtEq) (λ _. Eof)) < 256
    second true = omega arith
    second false = third (eqb k ShiftLeftEq)

    first : (b : Bool) → test b (λ _. LAngle) (λ _. test (eqb k LtEq) (λ _. Eq) (λ _. test (eqb k ShiftLeftEq) (λ _. LtEq) (λ _. Eof))) < 256
    first true = omega arith
    first false = second (eqb k LtEq)

-- A kind has eight bits.
pub kind_small : (W : List ℕ) (at half : ℕ) → kind_at W at half < 256
kind_small W at zero = omega arith
kind_small W at (suc h) = half_small (whole_kind W at)
