-- What two trees differ in, by their places in two keys (02, W9).
use Rattle.std.specs.Prelude.{Bool, true, false, List, [], ◌∷◌, ◌++◌, ℕ, ◌+◌, length}
use Rattle.words.specs.Test.{same}
use Rattle.keys.specs.Form.{Value, nothing, spelt, choice, pair, node, Form, Grammar, width, branch, left, right, class, write}
use Rattle.keys.specs.Limits.{edition_width}
use Rattle.keys.specs.Table.{type}

-- What a node holds, in the key's order: a choice of its own; a spelling's first bit and bytes; a node's first bit and what it holds.
pub data Content : Type 0 where
  ends : Content
  chooses : ℕ → Content → Content
  spells : (bit : ℕ) → List ℕ → Content → Content
  enters : (bit : ℕ) → Content → Content → Content

module _ (G : Grammar) where
  -- A value of a form from a bit on, and then the content c; a node's first choice is its tag.
  abbrev pub content : Form → Value → (bit : ℕ) → Content → Content
  content f nothing a c = c
  content f (spelt s) a c = spells a s c
  content f (choice k v) a c = chooses k (content (branch f k) v (a + width f) c)
  content f (pair v w) a c = content (left f) v a (content (right f) w (a + length (write G (left f) v)) c)
  content f (node t v) a c = enters a (chooses t (content (G.row (class f) t) v (a + G.tag_width (class f)) ends)) c

  -- A tree in its key: the root's first bit comes behind the edition.
  abbrev pub content_of : Value → Content
  content_of t = content type t edition_width ends

-- A node's own choices: its tag, flags, opt bits, counts and small numbers, not those of its children.
abbrev pub own : Content → List ℕ
own ends = []
own (chooses k c) = k ∷ own c
own (spells a s c) = own c
own (enters a u c) = own c

-- A pair: the first bit of a place in the left key, and in the right key.
abbrev pub Pair : Type 0
Pair = ℕ × ℕ

-- One pair where a test fails.
abbrev pub unless : Bool → Pair → List Pair
unless true p = []
unless false p = p ∷ []

-- What differs inside two nodes where all their own choices are the same, else one pair and nothing inside.
abbrev pub inside : Bool → Pair → List Pair → List Pair
inside true p l = l
inside false p l = p ∷ []

-- The pairs of two contents with the same choices, in the key's order: spellings that differ, and what differs of two nodes. Other contents have none.
abbrev pub differences : Content → Content → List Pair
differences ends d = []
differences (chooses k c) ends = []
differences (chooses k c) (chooses h d) = differences c d
differences (chooses k c) (spells b t d) = []
differences (chooses k c) (enters b v d) = []
differences (spells a s c) ends = []
differences (spells a s c) (chooses h d) = []
differences (spells a s c) (spells b t d) = unless (same s t) (a, b) ++ differences c d
differences (spells a s c) (enters b v d) = []
differences (enters a u c) ends = []
differences (enters a u c) (chooses h d) = []
differences (enters a u c) (spells b t d) = []
differences (enters a u c) (enters b v d) = inside (same (own u) (own v)) (a, b) (differences u v) ++ differences c d
