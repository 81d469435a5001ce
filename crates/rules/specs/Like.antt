-- When two lists of tokens are alike, and what two calls on like lists have in common (02, W14).
use Rattle.std.specs.Prelude.{ℕ, ◌≡◌, List, [], ◌∷◌, length}
use Rattle.words.specs.Word.{newline}
use Rattle.words.specs.Cursor.{word_at, whole_kind}
use Rattle.words.specs.Check.{sound, spelled, check}
use Rattle.keys.specs.Placed.{Placed, bare}
use Rattle.rules.specs.Notes.{Note}
use Rattle.rules.specs.State.{Given, State}
use Rattle.rules.specs.Read.{given, Answer, reads, refuses}
use Rattle.rules.specs.Call.{Call, left, key_left, Granted}

-- As many tokens, at each index the same kind, newline flag and spelled bytes, and the same preserve_parens. The texts may differ, and where tokens stand in them.
pub record Like (g h : Given) : Type 0 where
  pub many : length g.words ≡ length h.words
  pub kinds : (i : ℕ) → whole_kind g.words i ≡ whole_kind h.words i
  pub lines : (i : ℕ) → newline (word_at g.words i) ≡ newline (word_at h.words i)
  pub bytes : (i : ℕ) → spelled g.text (word_at g.words i) ≡ spelled h.text (word_at h.words i)
  pub option : g.parens ≡ h.parens

-- what the rules are given for a call
abbrev pub given_to : Call → Given
given_to c = given c.text c.words c.parens c.lent

-- Two calls on lists past refusals 1 and 2 that are alike, from the same token on, with as much lent: they may differ in what stands between tokens.
pub record Respaced (c d : Call) : Type 0 where
  pub passed : check c.text c.words c.start ≡ sound
  pub also_passed : check d.text d.words d.start ≡ sound
  pub like : Like (given_to c) (given_to d)
  pub start : c.start ≡ d.start
  pub lent : c.lent ≡ d.lent

-- the numbers of diagnostics, in order
abbrev pub note_numbers : List Note → List ℕ
note_numbers [] = []
note_numbers (n ∷ l) = n.number ∷ note_numbers l

-- an answer but for the byte of a refusal
abbrev pub without_byte : Answer → Answer
without_byte (reads nodes names notes at half key entered) = reads nodes names notes at half key entered
without_byte (refuses number token half byte) = refuses number token half 0

-- Two granted calls read the same tree, positions aside: the same answer, so the same end cursor, the same key, and diagnostics of the same numbers.
pub record GrantedAlike (c d : Call) (t u : Placed) (s q : State) : Type 0 where
  pub tree : bare t ≡ bare u
  pub answer : (left c).answer ≡ (left d).answer
  pub key : key_left (left c) ≡ key_left (left d)
  pub notes : note_numbers s.notes ≡ note_numbers q.notes

-- Both are granted, and alike; or both are refused under one number, at one token and half: only the byte may differ.
pub data SameReading (c d : Call) : Type 0 where
  both_granted : {t u : Placed} {s q : State} → Granted c t s → Granted d u q → GrantedAlike c d t u s q → SameReading c d
  both_refused : {n i h b b' : ℕ} → (left c).answer ≡ refuses n i h b → (left d).answer ≡ refuses n i h b' → SameReading c d
