-- What the outputs hold beyond what stood there: the records, names and letters of a run, and a node's own words (01, The two calls).
use Rattle.std.specs.Prelude.{◌≡◌, List, [], ◌++◌, ℕ, ◌+◌, length, take}
use Rattle.keys.specs.Store.{Run, done, chose, name, kid, under, called, packed, first_kid, records, names_in, span}
use Rattle.keys.specs.Words.{first_nodes, first_names}

-- The letters in a node and under it.
abbrev pub letters_in : Run → List ℕ
letters_in done = []
letters_in (chose w k r) = letters_in r
letters_in (name x s r) = s ++ letters_in r
letters_in (kid first end a r) = letters_in a ++ letters_in r

-- What stands in the outputs at some time: the nodes, the names and the text used, and how many.
pub record Base : Type 0 where
  pub nodes : List ℕ
  pub names : List ℕ
  pub text : List ℕ
  pub used : ℕ
  pub named : ℕ
  pub chars : ℕ

-- The same of three outputs.
abbrev pub base : (N M X : List ℕ) (used named chars : ℕ) → Base
base N M X u m x = record { nodes = first_nodes N u; names = first_names M m; text = take x X; used = u; named = m; chars = x }

-- Beyond what stood there the outputs hold a run, and are used so far.
pub record Stored (B : Base) (t : Run) (N M X : List ℕ) (u m x : ℕ) : Type 0 where
  pub used : u ≡ B.used + under t
  pub named : m ≡ B.named + called t
  pub chars : x ≡ B.chars + length (letters_in t)
  pub nodes_are : first_nodes N u ≡ B.nodes ++ records t B.used B.named 0
  pub names_are : first_names M m ≡ B.names ++ names_in t
  pub text_is : take x X ≡ B.text ++ letters_in t

-- A node's own choices, their bits, and its first child.
pub record Own (B : Base) (t : Run) (word shift child : ℕ) : Type 0 where
  pub word_is : word ≡ packed t
  pub shift_is : shift ≡ span t
  pub child_is : child ≡ first_kid t B.used 0
