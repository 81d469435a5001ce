-- The check of a token list: refusals 1 and 2 with their places (01, "Token words", "Refusal numbers").
use Rattle.std.specs.Prelude.{ℕ, suc, ◌+◌, Bool, true, false, not, List, [], ◌∷◌, eqb, leb, ltb, length, take, drop}
use Rattle.words.specs.Limits.{most_text, most_tokens}
use Rattle.words.specs.Test.{◌and◌, test}
use Rattle.words.specs.Word.{kind, zeros, size, start, end}
use Rattle.words.specs.Kind.{Eof}
use Rattle.words.specs.Class.{good_kind}
use Rattle.words.specs.Spelling.{spelled_right}

-- what a check says: all is well, or 01's number of the refusal and its place
pub data Verdict : Type 0 where
  sound : Verdict
  refused : ℕ → ℕ → Verdict

-- n bytes of a text
abbrev pub part : List ℕ → ℕ → ℕ → List ℕ
part text from n = take n (drop from text)

-- a token's bytes
abbrev pub spelled : List ℕ → ℕ → List ℕ
spelled text w = part text (start w) (size w)

abbrev pub none : List ℕ → Bool
none [] = true
none (w ∷ ws) = false

-- an Eof has no bytes and stands last; any other token has some and does not
abbrev pub ends_well : ℕ → ℕ → Bool → Bool
ends_well k n last = test (eqb k Eof) (λ _. eqb n 0 and last) (λ _. not (eqb n 0) and not last)

-- a token of n bytes from `from` starts no earlier than the one before ends, and ends inside the text
abbrev pub placed : ℕ → ℕ → ℕ → ℕ → Bool
placed long before from n = leb n most_text and leb before from and leb (from + n) long

-- the fields of a good word: `before` is where the one before ends, `last` says that none follows
abbrev pub good_fields : List ℕ → ℕ → Bool → ℕ → ℕ → ℕ → ℕ → Bool
good_fields text before last k z n from =
    good_kind k and eqb z 0 and placed (length text) before from n and ends_well k n last and spelled_right k (part text from n)

abbrev pub good_word : List ℕ → ℕ → Bool → ℕ → Bool
good_word text before last w = good_fields text before last (kind w) (zeros w) (size w) (start w)

-- the lowest bad word of a list whose first word is number i
abbrev pub judged : Bool → ℕ → (Unit {0} → Verdict) → Verdict
judged true i on = on tt
judged false i on = refused 2 i

abbrev pub words_from : List ℕ → ℕ → ℕ → List ℕ → Verdict
words_from text before i [] = sound
words_from text before i (w ∷ ws) = judged (good_word text before (none ws) w) i (λ _. words_from text (end w) (suc i) ws)

-- text and list within their limits, and a start that is a token's index
abbrev pub good_list : List ℕ → List ℕ → ℕ → Bool
good_list text words start = leb (length text) most_text and leb (length words) most_tokens and ltb start (length words)

-- 01: refusal 1 at 0, then refusal 2 at the lowest bad word
abbrev pub check : List ℕ → List ℕ → ℕ → Verdict
check text words start = test (good_list text words start) (λ _. words_from text 0 0 words) (λ _. refused 1 0)
