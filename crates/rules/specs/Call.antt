-- What the theorems about readings speak of: a call, what it leaves, what the rules come to for it.
use Rattle.std.specs.Prelude.{◌≡◌, Bool, true, false, List, ℕ, ◌<◌, ◌≤◌, T, length, take, replicate}
use Rattle.words.specs.Cursor.{first_byte}
use Rattle.keys.specs.Limits.{no_space}
use Rattle.keys.specs.Form.{Bytes}
use Rattle.keys.specs.Placed.{Placed}
use Rattle.rules.specs.Refusal.{is_rule}
use Rattle.rules.specs.State.{State, Result, read as got}
use Rattle.rules.specs.Reading.{reading}
use Rattle.rules.specs.Read.{Lent, given, Answer, reads, refuses, Called, read}

-- a call: text, tokens, a start index, preserve_parens, and what is lent
pub record Call : Type 0 where
  pub text : List ℕ
  pub words : List ℕ
  pub start : ℕ
  pub parens : Bool
  pub lent : Lent

-- its answer and what it leaves in all that is lent
abbrev pub left : Call → Called
left c = read c.text c.words c.start c.parens c.lent

-- what the rules come to, with the room that is lent
abbrev pub ruled : Call → Result Placed
ruled c = reading (given c.text c.words c.parens c.lent) c.start

-- whether an answer grants a tree
abbrev pub grants : Answer → Bool
grants (reads nodes names notes at half key entered) = true
grants (refuses number token half byte) = false

-- how many bytes of key it tells of
abbrev pub key_size : Answer → ℕ
key_size (reads nodes names notes at half key entered) = key
key_size (refuses number token half byte) = 0

-- how many type rules entered it tells of
abbrev pub entered_count : Answer → ℕ
entered_count (reads nodes names notes at half key entered) = entered
entered_count (refuses number token half byte) = 0

-- the key that a call leaves: as many bytes of the lent ones as it tells of
abbrev pub key_left : Called → List ℕ
key_left r = take (key_size r.answer) r.key

-- The call is granted a tree; the rules read tree t and end in state s. A text is a list of bytes.
pub record Granted (c : Call) (t : Placed) (s : State) : Type 0 where
  pub bytes : Bytes c.text
  pub grant : grants (left c).answer ≡ true
  pub rules : ruled c ≡ got t s

-- Every output is as long as it was lent.
pub record Kept (l : Lent) (r : Called) : Type 0 where
  pub nodes_kept : length r.node_words ≡ l.nodes
  pub names_kept : length r.name_words ≡ l.names
  pub notes_kept : length r.note_words ≡ l.notes
  pub key_kept : length r.key ≡ l.key

-- Every output is zeros over its whole length.
pub record AllZero (l : Lent) (r : Called) : Type 0 where
  pub nodes_zero : r.node_words ≡ replicate l.nodes 0
  pub names_zero : r.name_words ≡ replicate l.names 0
  pub notes_zero : r.note_words ≡ replicate l.notes 0
  pub key_zero : r.key ≡ replicate l.key 0

-- Where reading may stand: at a token, of which the first half may be used; the first byte that is not used is in the text, or its end.
pub record IsCursor (text words : List ℕ) (at half : ℕ) : Type 0 where
  pub token : at < length words
  pub one : half ≤ 1
  pub byte : first_byte words at half ≤ length text

-- A refusal that a call may meet, by its number, token, half and byte: 1 and 11 at 0, 2 at a word, and the others where reading stood.
pub data IsRefusal (text words : List ℕ) : (number token half byte : ℕ) → Type 0 where
  is_bad_list : IsRefusal text words 1 0 0 0
  is_bad_token : {p : ℕ} → p < length words → IsRefusal text words 2 p 0 0
  is_rules : {n p h : ℕ} → T (is_rule n) → IsCursor text words p h → IsRefusal text words n p h (first_byte words p h)
  is_no_space : IsRefusal text words no_space 0 0 0
