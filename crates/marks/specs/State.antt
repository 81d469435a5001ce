-- Where the code's reading stands, as the rules say it, and the numbers that keep it within what is lent.
use Rattle.std.specs.Prelude.{◌≡◌, List, [], ◌∷◌, ◌++◌, ℕ, zero, suc, ◌+◌, ◌*◌, ◌≤◌, eqb, length, get_or}
use Rattle.words.specs.Limits.{most_tokens, most_text, tallest}
use Rattle.words.specs.Test.{test}
use Rattle.words.specs.Word.{size, end}
use Rattle.words.specs.Cursor.{word_at, kind_at}
use Rattle.words.specs.Check.{spelled}
use Rattle.keys.specs.Limits.{record_words}
use Rattle.rules.specs.Notes.{Note, note_both, note_width}
use Rattle.rules.specs.State as rule
use Rattle.rules.specs.State.{Tally, State, Result, refuse}
use Rattle.marks.specs.declared.state.Given.{Given}
use Rattle.marks.specs.declared.state.Mark.{Mark}
use Rattle.marks.specs.declared.state.Kids.{Kids}
use Rattle.marks.specs.Told.{Answer}

-- ---- The same in the rules' words

-- The words before the first diagnostic, kept for tallies of a reading.
abbrev pub tallies : ℕ
tallies = 8

-- Where the record of diagnostic n begins.
abbrev pub note_at : ℕ → ℕ
note_at n = tallies + n * note_width

-- The diagnostic whose record begins at a word.
abbrev pub note_from : List ℕ → ℕ → Note
note_from s i = note_both (get_or s i 0) (get_or s (i + 1) 0) (get_or s (i + 2) 0) (get_or s (i + 3) 0) (get_or s (i + 4) 0)

-- The first n diagnostics of their words.
unfoldable pub notes_of : List ℕ → ℕ → List Note
notes_of s zero = []
notes_of s (suc n) = notes_of s n ++ (note_from s (note_at n) ∷ [])

-- The tally that stands in the first of their words.
abbrev pub tally_of : List ℕ → Tally
tally_of s = record { entered = get_or s 0 0; trials = get_or s 1 0 }

-- What the code is given, for contracts to speak of any.
abbrev pub AnyGiven : Type 0
AnyGiven = Given

-- Where reading stands.
abbrev pub view : Mark → List ℕ → State
view m O = record { at = m.at; half = m.half; nodes = m.used; notes = notes_of O m.noted; tally = tally_of O }

-- What a reading is given, of a text.
abbrev pub given_of : List ℕ → List ℕ → Given → rule.Given
given_of text W g = record { text = text; words = W; parens = g.parens; room = g.room; records = g.records }

-- A rule is refused as an answer says whose number is not 0: with that number, where the answer's mark stands.
abbrev pub Declined : {A : Type 0} → Result A → (why : ℕ) → Mark → Type 0
Declined x why q = (why ≡ 0 → ⊥) → x ≡ refuse why q.at q.half

-- ---- Steps of a mark

-- Past the token.
abbrev pub next_mark : Mark → Mark
next_mark m = record { at = m.at + 1; half = 0; used = m.used; named = m.named; noted = m.noted }

-- Past the first half of the token.
abbrev pub halved_mark : Mark → Mark
halved_mark m = record { at = m.at; half = 1; used = m.used; named = m.named; noted = m.noted }

-- Past a token that is one name more.
abbrev pub named_mark : Mark → Mark
named_mark m = record { at = m.at + 1; half = 0; used = m.used; named = m.named + 1; noted = m.noted }

-- One diagnostic more.
abbrev pub noted_mark : Mark → Mark
noted_mark m = record { at = m.at; half = m.half; used = m.used; named = m.named; noted = m.noted + 1 }

-- One node more.
abbrev pub used_mark : Mark → Mark
used_mark m = record { at = m.at; half = m.half; used = m.used + 1; named = m.named; noted = m.noted }

-- Past a mark, if it stands here.
abbrev pub past_mark : List ℕ → ℕ → Mark → Mark
past_mark W k m = test (eqb (kind_at W m.at m.half) k) (λ _. next_mark m) (λ _. m)

-- ---- What the check found of a list of tokens

-- It is not too long, and no token ends too far on.
pub record Sound (W : List ℕ) : Type 0 where
  pub few : length W ≤ most_tokens
  pub ends : (i : ℕ) → end (word_at W i) ≤ most_text

-- Every token is spelled as long as its word says.
pub record Spelt (text W : List ℕ) : Type 0 where
  pub sizes : (i : ℕ) → length (spelled text (word_at W i)) ≡ size (word_at W i)

-- ---- Numbers

-- The room for nodes is that of the words lent.
pub record Room (nodes : ℕ) (g : Given) : Type 0 where
  pub for_nodes : g.room * record_words ≤ nodes

-- A cursor within the list.
pub record Inside (len : ℕ) (m : Mark) : Type 0 where
  pub inside : m.at * 2 + m.half ≤ len * 2
  pub half : m.half ≤ 1

-- A mark within what there is.
pub record Fine (len : ℕ) (g : Given) (m : Mark) : Type 0 where
  pub inside : m.at * 2 + m.half ≤ len * 2
  pub half : m.half ≤ 1
  pub roomy : m.used ≤ g.room
  pub few : m.named ≤ m.at
  pub recorded : m.noted ≤ g.records

-- An answer, which is a refusal where why is not 0: it reaches a place, counted in halves of tokens, has so many nodes in use, is no taller than it may be, and stands within what there is.
pub record Reached (len : ℕ) (g : Given) (place used high why : ℕ) (q : Mark) : Type 0 where
  pub past : place ≤ q.at * 2 + q.half + why
  pub more : used ≤ q.used + why
  pub low : high ≤ tallest
  pub fine : Fine len g q

-- The place of a mark, in halves of tokens.
abbrev pub place_of : Mark → ℕ
place_of m = m.at * 2 + m.half

-- Only the cursor and the names may have moved, and the names no further than the cursor.
pub record Along (len : ℕ) (m q : Mark) : Type 0 where
  pub onward : m.at * 2 + m.half ≤ q.at * 2 + q.half
  pub ahead : m.at ≤ q.at
  pub inside : q.at * 2 + q.half ≤ len * 2
  pub half : q.half ≤ 1
  pub used_is : q.used ≡ m.used
  pub noted_is : q.noted ≡ m.noted
  pub names : m.named ≤ q.named
  pub few : q.named + m.at ≤ m.named + q.at

-- Only the cursor may have moved.
pub record Moved (len : ℕ) (m q : Mark) : Type 0 where
  pub onward : m.at * 2 + m.half ≤ q.at * 2 + q.half
  pub ahead : m.at ≤ q.at
  pub inside : q.at * 2 + q.half ≤ len * 2
  pub half : q.half ≤ 1
  pub used_is : q.used ≡ m.used
  pub named_is : q.named ≡ m.named
  pub noted_is : q.noted ≡ m.noted

-- No node was made on the way from m, and reading stands within what there is.
pub record Stepped (len : ℕ) (g : Given) (m : Mark) (a : Answer) : Type 0 where
  pub onward : place_of m ≤ place_of a.m
  pub used_is : a.m.used ≡ m.used
  pub fine : Fine len g a.m

-- Children of a node: their numbers and count keep below the nodes in use, and there are nodes if they have a height.
pub record Under (used : ℕ) (k : Kids) : Type 0 where
  pub first : k.first ≤ used
  pub count : k.count ≤ used
  pub some : k.high ≤ tallest * used
  pub low : k.high ≤ tallest
