-- When a tree with positions is one of the node table (01, The key).
use mathlib.Core.List.{List, [], ◌∷◌}
use Prim.Native.Nat.{ℕ, ◌^◌, ◌≤◌, ◌<◌}
use lib.ListN.{length}
use Rattle.keys.specs.Form.{Form, Fits, Bytes}
use Rattle.keys.specs.Limits.{count_width, length_width}
use Rattle.keys.specs.Table.{type}
use Rattle.keys.specs.Placed.{Placed, bare, Spelling, PropertyKey, Opt, absent, present}
use Rattle.keys.specs.Key.{node_table}

-- It has the form, positions aside: `Is type p` says that p is a type of the node table.
pub record Is (f : Form) (p : Placed) : Type 0 where
  pub fits : Fits node_table f (bare p)

-- A spelling of 1 to 65,535 bytes.
pub record IsSpelling (s : Spelling) : Type 0 where
  pub some : 1 ≤ length s.1
  pub few : length s.1 < 2 ^ length_width
  pub bytes : Bytes s.1

-- Every entry of a list is such.
abbrev pub Each : {A : Type 0} → (A → Type 0) → List A → Type 0
Each P [] = Unit {0}
Each P (x ∷ xs) = P x × Each P xs

-- What is there is such.
abbrev pub IfAny : {A : Type 0} → (A → Type 0) → Opt A → Type 0
IfAny P absent = Unit {0}
IfAny P (present x) = P x

-- A list that is not too long: its count fits, so it has at most 4,095 entries.
abbrev pub Few : {A : Type 0} → List A → Type 0
Few xs = length xs < 2 ^ count_width

-- A list of at least so many entries of a form, and not too many.
pub record IsList (least : ℕ) (f : Form) (ps : List Placed) : Type 0 where
  pub enough : least ≤ length ps
  pub few : Few ps
  pub each : Each (Is f) ps

-- A list of at least so many spellings, and not too many.
pub record IsNames (least : ℕ) (ss : List Spelling) : Type 0 where
  pub enough : least ≤ length ss
  pub few : Few ss
  pub each : Each IsSpelling ss

-- A type of a template and the spelling after it.
pub record IsPiece (p : Placed × Spelling) : Type 0 where
  pub type_is : Is type p.0
  pub spelling_is : IsSpelling p.1

-- The key of a property that is a name, a string or a number.
pub record IsPropertyKey (k : PropertyKey) : Type 0 where
  pub known : k.which < 3
  pub spelling_is : IsSpelling k.spelling

-- A name and its type.
pub record IsNamed (p : Spelling × Placed) : Type 0 where
  pub name_is : IsSpelling p.0
  pub type_is : Is type p.1
