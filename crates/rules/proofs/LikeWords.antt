-- What like lists tell alike: every test that a rule asks of tokens.
use mathlib.Core.Path.{◌≡◌, refl, sym, ap, ◌∙◌}
use mathlib.Core.List.{List, [], ◌∷◌}
use Prim.Native.Nat.{ℕ, zero, suc, ◌+◌}
use lib.ListN.{length, get_or, drop}
use Rattle.words.specs.Word.{kind, newline}
use Rattle.words.specs.Cursor.{word_at, left, kind_at, same_line}
use Rattle.words.specs.Ahead.{next_kind, starts_by, starts, starter, modifies, passed, first_word, past_modifiers, function_start, mapped_start, readonly_start, modifier_start, accessor_start, index_start}
use Rattle.keys.proofs.BitsLaws.{clash}
use Rattle.rules.specs.State.{Given}
use Rattle.rules.specs.Like.{Like}

-- ---- Two lists of words, whatever their texts

-- As many words, of the same kinds and newline flags.
record Same (v w : List ℕ) : Type 0 where
  many : length v ≡ length w
  kinds : (i : ℕ) → kind (get_or v i 0) ≡ kind (get_or w i 0)
  lines : (i : ℕ) → newline (get_or v i 0) ≡ newline (get_or w i 0)

same_tail : {a b : ℕ} {v w : List ℕ} → Same (a ∷ v) (b ∷ w) → Same v w
same_tail s = record { many = cc; kinds = λ i. s.kinds (suc i); lines = λ i. s.lines (suc i) }

same_drop : (i : ℕ) (v w : List ℕ) → Same v w → Same (drop i v) (drop i w)
same_drop zero v w s = s
same_drop (suc i) [] [] s = s
same_drop (suc i) [] (b ∷ w) s = clash (cc s.many)
same_drop (suc i) (a ∷ v) [] s = clash (cc s.many)
same_drop (suc i) (a ∷ v) (b ∷ w) s = same_drop i v w (same_tail s)

next_kind_lem : (v : List ℕ) → next_kind v ≡ kind (get_or v 0 0)
next_kind_lem [] = refl
next_kind_lem (a ∷ v) = refl

first_word_lem : (v : List ℕ) → first_word v ≡ get_or v 0 0
first_word_lem [] = refl
first_word_lem (a ∷ v) = refl

same_starts : (v w : List ℕ) → Same v w → starts v ≡ starts w
same_starts [] [] s = refl
same_starts [] (b ∷ w) s = clash (cc s.many)
same_starts (a ∷ v) [] s = clash (cc s.many)
same_starts (a ∷ v) (b ∷ w) s =
    let e = next_kind_lem v ∙ s.kinds 1 ∙ sym (next_kind_lem w) in
    let f = same_starts v w (same_tail s) in
    λ d. starts_by (s.kinds 0 d) (e d) (λ _. f d)

same_passed : (j : ℕ) (v w : List ℕ) → Same v w → past_modifiers j v ≡ past_modifiers j w
same_passed j [] [] s = refl
same_passed j [] (b ∷ w) s = clash (cc s.many)
same_passed j (a ∷ v) [] s = clash (cc s.many)
same_passed j (a ∷ v) (b ∷ w) s =
    let f = same_passed (suc j) v w (same_tail s) in
    let m : modifies a (first_word v) ≡ modifies b (first_word w) = rw (s.kinds 0, first_word_lem v, first_word_lem w, s.kinds 1, s.lines 1) refl in
    λ d. passed (m d) j (λ _. f d)

-- ---- At an index of like lists
module _ {g h : Given} (l : Like g h) where
  same_words : Same g.words h.words
  same_words = record { many = l.many; kinds = l.kinds; lines = l.lines }

  pub kind_at_lem : (i k : ℕ) → kind_at g.words i k ≡ kind_at h.words i k
  kind_at_lem i k = ap (left k) (l.kinds i)

  pub line_at : (i k : ℕ) → same_line g.words i k ≡ same_line h.words i k
  line_at i zero = rw (l.lines i) refl
  line_at i (suc k) = refl

  pub starter_at : (i : ℕ) → starter g.words i ≡ starter h.words i
  starter_at i = same_starts _ _ (same_drop i _ _ same_words)

  passed_at : (i j : ℕ) → past_modifiers j (drop i g.words) ≡ past_modifiers j (drop i h.words)
  passed_at i j = same_passed j _ _ (same_drop i _ _ same_words)

  pub modifies_at : (i : ℕ) → modifies (word_at g.words i) (word_at g.words (i + 1)) ≡ modifies (word_at h.words i) (word_at h.words (i + 1))
  modifies_at i = rw (l.kinds i, l.kinds (i + 1), l.lines (i + 1)) refl

  pub function-at : (i k : ℕ) → function_start g.words i k ≡ function_start h.words i k
  function-at i k = simp (l.kinds, passed_at)

  pub mapped_at : (i : ℕ) → mapped_start g.words i ≡ mapped_start h.words i
  mapped_at i = simp l.kinds

  pub index_at : (i : ℕ) → index_start g.words i ≡ index_start h.words i
  index_at i = simp l.kinds

  pub readonly_at : (i k : ℕ) → readonly_start g.words i k ≡ readonly_start h.words i k
  readonly_at i k = simp (l.kinds, l.lines)

  pub modifier_at : (i k : ℕ) → modifier_start g.words i k ≡ modifier_start h.words i k
  modifier_at i k = simp l.kinds

  pub accessor_at : (i k : ℕ) → accessor_start g.text g.words i k ≡ accessor_start h.text h.words i k
  accessor_at i k = simp (l.kinds, l.bytes)
