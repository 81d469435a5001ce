-- The fields of a word, for any width: what was put beside others is read again, and a word is made of its fields.
use mathlib.Core.Path.{◌≡◌, sym, ap, ◌∙◌}
use Prim.Native.Nat.{ℕ, ◌+◌, ◌/◌, ◌%◌, ◌^◌, ◌<◌}
use native.Mathlib.Nat.{mod-eq_of_lt}
use native.Mathlib.Omega.{arith}
use lib.Pow.{high, low, shr-shr, split, shr_lt}
use Rattle.words.specs.Word.{field, kind, newline, zeros, size, start, beside, word}

-- the lowest field is what was put there
pub own : (width w v : ℕ) → v < 2 ^ width → field 0 width (beside width w v) ≡ v
own width w v h = ap (λ (x : ℕ). x % 2 ^ width) over_one ∙ low w width h
  where
    over_one : beside width w v / 1 ≡ beside width w v
    over_one = omega arith

-- the fields above it are those of the rest
pub above : (width below m w v : ℕ) → v < 2 ^ width → field (width + below) m (beside width w v) ≡ field below m w
above width below m w v h =
    ap (λ (x : ℕ). x % 2 ^ m) (sym (shr-shr (beside width w v) width below) ∙ ap (λ (x : ℕ). x / 2 ^ below) (high w width h))

-- a word from bit `below` up is the word further up with a field beside it
pub made : (below width w : ℕ) → beside width (w / 2 ^ (below + width)) (field below width w) ≡ w / 2 ^ below
made below width w =
    ap (λ (x : ℕ). beside width x (field below width w)) (sym (shr-shr w below width)) ∙ split (w / 2 ^ below) width

-- ---- token words, each field by the same two laws
module _ (k n z l s : ℕ) (hk : k < 2 ^ 8) (hn : n < 2 ^ 1) (hz : z < 2 ^ 6) (hl : l < 2 ^ 17) (hs : s < 2 ^ 32) where
  abbrev line : ℕ
  line = beside 1 k n

  abbrev front : ℕ
  front = beside 6 line z

  abbrev long : ℕ
  long = beside 17 front l

  pub start_of : start (word k n z l s) ≡ s
  start_of = own 32 long s hs

  pub size_of : size (word k n z l s) ≡ l
  size_of = above 32 0 17 long s hs ∙ own 17 front l hl

  pub zeros_of : zeros (word k n z l s) ≡ z
  zeros_of = above 32 17 6 long s hs ∙ above 17 0 6 front l hl ∙ own 6 line z hz

  pub newline_of : newline (word k n z l s) ≡ n
  newline_of = above 32 23 1 long s hs ∙ above 17 6 1 front l hl ∙ above 6 0 1 line z hz ∙ own 1 k n hn

  pub kind_of : kind (word k n z l s) ≡ k
  kind_of = above 32 24 8 long s hs ∙ above 17 7 8 front l hl ∙ above 6 1 8 line z hz ∙ above 1 0 8 k n hn ∙ omega arith

-- a word of 64 bits is the word of its fields
pub word_of : (w : ℕ) → w < 2 ^ 64 → word (kind w) (newline w) (zeros w) (size w) (start w) ≡ w
word_of w h =
    ap (λ (x : ℕ). beside 32 (beside 17 (beside 6 (beside 1 x (newline w)) (zeros w)) (size w)) (start w)) (mod-eq_of_lt (shr_lt 8 56 h))
    ∙ ap (λ (x : ℕ). beside 32 (beside 17 (beside 6 x (zeros w)) (size w)) (start w)) (made 55 1 w)
    ∙ ap (λ (x : ℕ). beside 32 (beside 17 x (size w)) (start w)) (made 49 6 w)
    ∙ ap (λ (x : ℕ). beside 32 x (start w)) (made 32 17 w)
    ∙ made 0 32 w
    ∙ omega arith
