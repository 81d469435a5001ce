-- The call that reads, whole: its answer and the final content of all that is lent (01, "The two calls", "Refusal numbers").
use Rattle.std.specs.Prelude.{ℕ, ◌/◌, Bool, List, [], leb, length}
use Rattle.words.specs.Test.{◌and◌, test}
use Rattle.words.specs.Cursor.{first_byte}
use Rattle.words.specs.Check.{Verdict, sound, refused, check}
use Rattle.keys.specs.Limits.{record_words, no_space}
use Rattle.keys.specs.Form.{nodes}
use Rattle.keys.specs.Placed.{Placed, bare}
use Rattle.keys.specs.Key.{key_of}
use Rattle.keys.specs.Store.{nodes_of, names_of, filled}
use Rattle.rules.specs.Notes.{Note, note_width, note_words}
use Rattle.rules.specs.State.{Given, State, Result, read as got, refuse}
use Rattle.rules.specs.Reading.{reading}

-- what a caller lends, by length: words for nodes, for names, for diagnostics, and bytes for the key
pub record Lent : Type 0 where
  pub nodes : ℕ
  pub names : ℕ
  pub notes : ℕ
  pub key : ℕ

-- what is lent, by its four lengths
abbrev pub lend : ℕ → ℕ → ℕ → ℕ → Lent
lend a b c d = record { nodes = a; names = b; notes = c; key = d }

-- what reading comes to: tree, diagnostics, end cursor, key and how many type rules were entered; or a refusal: its number, its token, the half used there, and the byte
pub data Outcome : Type 0 where
  granted : Placed → List Note → (at half : ℕ) → (key : List ℕ) → (entered : ℕ) → Outcome
  denied : (number token half byte : ℕ) → Outcome

-- the key fits the bytes lent, the spellings fit the words lent; the key's limit is kept by every reading (`key-short`)
abbrev pub fits : Lent → Placed → List ℕ → Bool
fits l t key = leb (length key) l.key and leb (length (names_of t)) l.names

-- a tree that was read gets its key, or 11 at 0 where it or the spellings find no space
abbrev pub with_key : Lent → Placed → State → Outcome
with_key l t s =
    let key = key_of (bare t) in
    test (fits l t key) (λ _. granted t s.notes s.at s.half key s.tally.entered) λ _.
    denied no_space 0 0 0

-- what the rules come to; a refusal's byte is the first that they did not use
abbrev pub keyed : Given → Lent → Result Placed → Outcome
keyed g l (got t s) = with_key l t s
keyed g l (refuse n i h) = denied n i h (first_byte g.words i h)

-- only a sound list is read
abbrev pub checked : Given → ℕ → Lent → Verdict → Outcome
checked g i l sound = keyed g l (reading g i)
checked g i l (refused n p) = denied n p 0 0

-- the room that what is lent makes
abbrev pub given : List ℕ → List ℕ → Bool → Lent → Given
given text words parens l =
    record { text = text; words = words; parens = parens; room = l.nodes / record_words; records = l.notes / note_width }

-- text, tokens, a start index and preserve_parens, and what is lent
abbrev pub outcome : List ℕ → List ℕ → ℕ → Bool → Lent → Outcome
outcome text words start parens l = checked (given text words parens l) start l (check text words start)

-- ---- What the caller sees

-- the answer: nodes used, of which the last is the root, names, diagnostics, end cursor, bytes of key and type rules entered; or the refusal
pub data Answer : Type 0 where
  reads : (nodes names notes at half key entered : ℕ) → Answer
  refuses : (number token half byte : ℕ) → Answer

-- 01's number of a refusal, 0 where there is none
abbrev pub number : Answer → ℕ
number (reads a b c i h d e) = 0
number (refuses n i h b) = n

-- its place
abbrev pub token : Answer → ℕ
token (reads a b c i h d e) = 0
token (refuses n i h b) = i

-- the answer and the final content of all that is lent
pub record Called : Type 0 where
  pub answer : Answer
  pub node_words : List ℕ
  pub name_words : List ℕ
  pub note_words : List ℕ
  pub key : List ℕ

-- each slice lent holds its part and then zeros; after a refusal it holds nothing else
abbrev pub written : Lent → Outcome → Called
written l (granted t ns i h key entered) =
    record {
      answer = reads (nodes (bare t)) (length (names_of t)) (length ns) i h (length key) entered;
      node_words = filled l.nodes (nodes_of t);
      name_words = filled l.names (names_of t);
      note_words = filled l.notes (note_words ns);
      key = filled l.key key;
    }
written l (denied n i h b) =
    record {
      answer = refuses n i h b;
      node_words = filled l.nodes [];
      name_words = filled l.names [];
      note_words = filled l.notes [];
      key = filled l.key [];
    }

-- the call, from all that it is given to all that it leaves
unfoldable pub read : List ℕ → List ℕ → ℕ → Bool → Lent → Called
read text words start parens l = written l (outcome text words start parens l)
