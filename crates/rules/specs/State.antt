-- Where a reading stands, what it comes to, and the steps that all rules are made of (01, "The two calls", "Refusal numbers").
use Rattle.std.specs.Prelude.{ℕ, suc, ◌+◌, Bool, false, List, [], ◌∷◌, ◌++◌, eqb, leb, ltb, length}
use Rattle.words.specs.Limits.{tallest, longest, most_notes, most_entered}
use Rattle.words.specs.Test.{◌or◌, test}
use Rattle.words.specs.Word.{start}
use Rattle.words.specs.Check.{spelled}
use Rattle.words.specs.Cursor.{word_at, whole_kind, kind_at, same_line, first_byte, end_byte}
use Rattle.keys.specs.Form.{height}
use Rattle.keys.specs.Placed.{Placed, bare, Spelling, Opt, absent, present}
use Rattle.keys.specs.Limits.{too_tall, no_room}
use Rattle.rules.specs.Refusal.{unexpected, too_long, many_notes}
use Rattle.rules.specs.Notes.{Note}

-- what a reading is given: text, token words, preserve_parens, room for nodes, records for diagnostics
pub record Given : Type 0 where
  pub text : List ℕ
  pub words : List ℕ
  pub parens : Bool
  pub room : ℕ
  pub records : ℕ

-- what is counted: the type rules entered so far, and the trials that are open (02, W4)
pub record Tally : Type 0 where
  pub entered : ℕ
  pub trials : ℕ

-- where it stands: the cursor, the nodes used, the diagnostics so far, all of which a trial puts back, and the tally
pub record State : Type 0 where
  pub at : ℕ
  pub half : ℕ
  pub nodes : ℕ
  pub notes : List Note
  pub tally : Tally

-- what a rule comes to: what it read and where it stands then, or a refusal's number with the cursor of that moment
pub data Result (A : Type 0) : Type 0 where
  read : A → State → Result A
  refuse : (number at half : ℕ) → Result A

-- a rule that reads a type, by whether conditionals are allowed
abbrev pub Reader : Type 0
Reader = Bool → State → Result Placed

-- refused at the cursor
abbrev pub refused : {A : Type 0} → ℕ → State → Result A
refused n s = refuse n s.at s.half

-- one rule after the other; any refusal stands
abbrev pub then : {A B : Type 0} → Result A → (A → State → Result B) → Result B
then (read a s) on = on a s
then (refuse n i h) on = refuse n i h

-- ---- The cursor

-- before the first token to be read
abbrev pub begin : ℕ → State
begin i = record { at = i; half = 0; nodes = 0; notes = []; tally = record { entered = 0; trials = 0 } }

-- past the token, or past what is left of it
abbrev pub next : State → State
next s = record { at = s.at + 1; half = 0; nodes = s.nodes; notes = s.notes; tally = s.tally }

-- past the first half of the token
abbrev pub halved : State → State
halved s = record { at = s.at; half = 1; nodes = s.nodes; notes = s.notes; tally = s.tally }

-- the kind at the cursor
abbrev pub kind : Given → State → ℕ
kind g s = kind_at g.words s.at s.half

-- the kind of the whole token n further on
abbrev pub kind_after : Given → ℕ → State → ℕ
kind_after g n s = whole_kind g.words (s.at + n)

-- kind k stands at the cursor
abbrev pub stands : Given → ℕ → State → Bool
stands g k s = eqb (kind g s) k

-- no line break stands before what is at the cursor
abbrev pub on_line : Given → State → Bool
on_line g s = same_line g.words s.at s.half

-- no line break stands before the token after the cursor's
abbrev pub next_on_line : Given → State → Bool
next_on_line g s = same_line g.words (s.at + 1) 0

-- the first byte of what stands at the cursor
abbrev pub first : Given → State → ℕ
first g s = first_byte g.words s.at s.half

-- the end byte of what was taken last
abbrev pub end : Given → State → ℕ
end g s = end_byte g.words s.at s.half

-- the spelling of the token at the cursor
abbrev pub spelling : Given → State → Spelling
spelling g s = (start (word_at g.words s.at), spelled g.text (word_at g.words s.at))

-- how often a loop can go on: every turn takes a token
abbrev pub turns : Given → ℕ
turns g = suc (length g.words)

-- ---- The tally

-- where it stands, with another tally
abbrev pub tallied : State → (entered trials : ℕ) → State
tallied s n k = record { at = s.at; half = s.half; nodes = s.nodes; notes = s.notes; tally = record { entered = n; trials = k } }

-- one more, but never more than the limit
abbrev pub one_more : ℕ → ℕ
one_more n = test (ltb n most_entered) (λ _. n + 1) (λ _. n)

-- one type rule more is entered
abbrev pub entering : State → State
entering s = tallied s (one_more s.tally.entered) s.tally.trials

-- ---- Taking a token

-- past a mark, if it stands here
abbrev pub past : Given → ℕ → State → State
past g k s = test (stands g k s) (λ _. next s) (λ _. s)

-- a mark that must stand here
abbrev pub expect : {A : Type 0} → Given → ℕ → State → (State → Result A) → Result A
expect g k s on = test (stands g k s) (λ _. on (next s)) (λ _. refused unexpected s)

-- an optional part after a mark
abbrev pub optional : Given → ℕ → (State → Result Placed) → State → Result (Opt Placed)
optional g k part s = test (stands g k s) (λ _. then (part (next s)) λ t q. read (present t) q) (λ _. read absent s)

-- ---- Nodes and diagnostics

-- some list has too many entries
abbrev pub overlong : List ℕ → Bool
overlong [] = false
overlong (n ∷ l) = ltb longest n or overlong l

-- a node that was read: its lists' lengths, its height and the room for it are looked at in this order, and it is one more in use
unfoldable pub make : Given → List ℕ → Placed → State → Result Placed
make g lengths t s =
    test (overlong lengths) (λ _. refused too_long s) λ _.
    test (ltb tallest (height (bare t))) (λ _. refused too_tall s) λ _.
    test (leb g.room s.nodes) (λ _. refused no_room s) λ _.
    read t (record { at = s.at; half = s.half; nodes = s.nodes + 1; notes = s.notes; tally = s.tally })

-- a diagnostic, and what comes after it; 9 where it would be one too many or has no record
abbrev pub report : {A : Type 0} → Given → Note → State → (State → Result A) → Result A
report g n s on =
    test (leb most_notes (length s.notes) or leb g.records (length s.notes)) (λ _. refused many_notes s) λ _.
    on (record { at = s.at; half = s.half; nodes = s.nodes; notes = s.notes ++ (n ∷ []); tally = s.tally })

-- a diagnostic where a test holds
abbrev pub report_if : {A : Type 0} → Bool → Given → Note → State → (State → Result A) → Result A
report_if b g n s on = test b (λ _. report g n s on) (λ _. on s)
