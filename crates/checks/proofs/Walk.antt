-- Laws of the token check: a word by its tests, and the list one word at a time.
use mathlib.Core.Path.{◌≡◌, refl, sym, ap, ◌∙◌}
use mathlib.Core.Bool.{Bool, true}
use mathlib.Core.List.{List, [], ◌∷◌}
use Prim.Native.Nat.{ℕ, zero, suc, ◌+◌, ◌<◌}
use native.Mathlib.Numerals.{add-one}
use native.Mathlib.Omega.{arith}
use lib.Dec.{eqb, eqb-suc-suc, eqb-zero-suc}
use lib.ListN.{length, get_or, drop}
use Rattle.words.specs.Test.{◌and◌}
use Rattle.words.specs.Word.{kind, zeros, size, start, end}
use Rattle.words.specs.Class.{good_kind}
use Rattle.words.specs.Spelling.{spelled_right}
use Rattle.words.specs.Check.{part, none, ends_well, placed, good_fields, good_word, judged, words_from}

-- ---- one word, its fields read and its tests answered
module _ (text : List ℕ) (before : ℕ) (last : Bool) (w : ℕ) {k z n from : ℕ} (p : k ≡ kind w) (q : z ≡ zeros w) (r : n ≡ size w) (s : from ≡ start w) where
  pub word_is : {a b c d e : Bool} → good_kind k ≡ a → eqb z 0 ≡ b → placed (length text) before from n ≡ c → ends_well k n last ≡ d → spelled_right k (part text from n) ≡ e
      → (a and b and c and d and e) ≡ good_word text before last w
  word_is t u v x y =
      sym (λ i. t i and u i and v i and x i and y i) ∙ λ i. good_fields text before last (p i) (q i) (r i) (s i)

-- ---- the list
none_last : (words : List ℕ) (i : ℕ) → i < length words → none (drop (suc i) words) ≡ eqb (suc i) (length words)
none_last [] i h = absurd (omega arith)
none_last (w ∷ []) zero h = refl
none_last (w ∷ x ∷ ws) zero h = sym (eqb-suc-suc 0 (suc (length ws)) ∙ eqb-zero-suc (length ws))
none_last (w ∷ ws) (suc i) h = none_last ws i (omega arith) ∙ sym (eqb-suc-suc (suc i) (length ws))

walk : (text : List ℕ) (before n : ℕ) (words : List ℕ) (i : ℕ) → i < length words
    → words_from text before n (drop i words)
    ≡ judged (good_word text before (none (drop (suc i) words)) (get_or words i 0)) n (λ _. words_from text (end (get_or words i 0)) (suc n) (drop (suc i) words))
walk text before n [] i h = absurd (omega arith)
walk text before n (w ∷ ws) zero h = refl
walk text before n (w ∷ ws) (suc i) h = walk text before n ws i (omega arith)

module _ (text : List ℕ) (before : ℕ) (words : List ℕ) (i : ℕ) (h : i < length words) where
  abbrev word : ℕ
  word = get_or words i 0

  stepped : {b : Bool} → good_word text before (eqb (i + 1) (length words)) word ≡ b
      → words_from text before i (drop i words) ≡ judged b i (λ _. words_from text (end word) (i + 1) (drop (i + 1) words))
  stepped {b} e =
      walk text before i words i h
      ∙ ap (λ (x : Bool). judged (good_word text before x word) i (λ _. words_from text (end word) (suc i) (drop (suc i) words))) (none_last words i h)
      ∙ ap (λ (j : ℕ). judged (good_word text before (eqb j (length words)) word) i (λ _. words_from text (end word) j (drop j words))) (sym (add-one i))
      ∙ ap (λ (x : Bool). judged x i (λ _. words_from text (end word) (i + 1) (drop (i + 1) words))) e

  pub word_good : good_word text before (eqb (i + 1) (length words)) word ≡ true → words_from text before i (drop i words) ≡ words_from text (end word) (i + 1) (drop (i + 1) words)
  word_good e = stepped e
