-- What the words of a store say of a node, and a store that holds a run.
use Rattle.std.specs.Prelude.{◌≡◌, List, ℕ, ◌+◌, ◌*◌, ◌/◌, ◌%◌, ◌^◌, ◌≤◌, ◌<◌, length, get_or, take}
use Rattle.keys.specs.Limits.{tag_wide, record_words, half_word}
use Rattle.keys.specs.Form.{Fits, nodes, names}
use Rattle.keys.specs.Table.{type}
use Rattle.keys.specs.Placed.{Placed, bare}
use Rattle.keys.specs.Key.{node_table}
use Rattle.keys.specs.Store.{Run, done, chose, name, kid, called, nodes_of, names_of, all_pointed, part}

-- ---- Words

-- The choices of node i.
abbrev pub word_at : List ℕ → ℕ → ℕ
word_at N i = get_or N (i * record_words) 0

-- The tag among a node's choices: it stands lowest.
abbrev pub tag_in : ℕ → ℕ
tag_in word = word % 2 ^ tag_wide

-- The choices after the tag.
abbrev pub after_tag : ℕ → ℕ
after_tag word = word / 2 ^ tag_wide

-- The same choices under another tag.
abbrev pub retagged : ℕ → ℕ → ℕ
retagged word tag = tag + 2 ^ tag_wide * after_tag word

-- The first byte of node i.
abbrev pub first_at : List ℕ → ℕ → ℕ
first_at N i = get_or N (i * record_words + 1) 0 % half_word

-- The end byte of node i.
abbrev pub end_at : List ℕ → ℕ → ℕ
end_at N i = get_or N (i * record_words + 1) 0 / half_word

-- The first child of node i.
abbrev pub child_at : List ℕ → ℕ → ℕ
child_at N i = get_or N (i * record_words + 2) 0 % half_word

-- The next sibling of node i.
abbrev pub next_at : List ℕ → ℕ → ℕ
next_at N i = get_or N (i * record_words + 3) 0 % half_word

-- Where the spelling of name m starts.
abbrev pub start_at : List ℕ → ℕ → ℕ
start_at M m = get_or M m 0 / half_word

-- How long it is.
abbrev pub size_at : List ℕ → ℕ → ℕ
size_at M m = get_or M m 0 % half_word

-- Name m stands there, and spells s in the text.
pub record Spells (M X : List ℕ) (m : ℕ) (s : List ℕ) : Type 0 where
  pub there : m < length M
  pub inside : start_at M m + size_at M m ≤ length X
  pub is : part X (start_at M m) (size_at M m) ≡ s

-- ---- A store that holds a run

-- Where a walk of a node is: its choices still to come, its next child, its next name.
pub record Cursor : Type 0 where
  pub word : ℕ
  pub child : ℕ
  pub name : ℕ

-- The same by its parts.
abbrev pub cursor : ℕ → ℕ → ℕ → Cursor
cursor w c m = record { word = w; child = c; name = m }

module _ (N : List ℕ) (P : ℕ → List ℕ → Type 0) where
  -- From a place on the store holds a run: its choices in the word, its names in order, each with its spelling as P says, its children by their links.
  abbrev pub HoldsBy : Run → Cursor → Type 0
  HoldsBy done s = Unit {0}
  HoldsBy (chose w k r) s = (s.word % 2 ^ w ≡ k) × HoldsBy r (cursor (s.word / 2 ^ w) s.child s.name)
  HoldsBy (name x u r) s = P s.name u × HoldsBy r (cursor s.word s.child (s.name + 1))
  HoldsBy (kid first end a r) s =
      HoldsBy a (cursor (word_at N s.child) (child_at N s.child) s.name)
      × HoldsBy r (cursor s.word (next_at N s.child) (s.name + called a))

-- The store holds a run, its spellings in a text.
abbrev pub Holds : (N M X : List ℕ) → Run → Cursor → Type 0
Holds N M X = HoldsBy N (Spells M X)

-- A tree of the node table stands in the words of a store, its spellings in a text.
pub record Stands (N M X : List ℕ) (p : Placed) : Type 0 where
  pub fits : Fits node_table type (bare p)
  pub few : nodes (bare p) < half_word
  pub nodes_there : take (length (nodes_of p)) N ≡ nodes_of p
  pub names_there : take (length (names_of p)) M ≡ names_of p
  pub spelled : all_pointed X (names_of p) ≡ names (bare p)
