-- The node table as data: a form for each tag of each class, over an edition (01, The key).
use Rattle.std.specs.Prelude.{Bool, true, false, List, [], ◌∷◌, ℕ, zero, suc, leb, ltb, eqb, get_or}
use Rattle.keys.specs.Form.{Form, never, one, word, choose, both, child, Grammar}
use Rattle.keys.specs.Limits.{length_width, tag_wide, sort_wide, edition_width, Edition, numbered, count_wide, newest}

infixr 5 ◌⊗◌
-- One field and then the others.
abbrev pub ◌⊗◌ : Form → Form → Form
f ⊗ g = both f g

-- A form where a test holds, else none.
abbrev pub when : Bool → Form → Form
when true f = f
when false f = never

-- The listed form at a place; none past the end.
abbrev pub one_of : List Form → ℕ → Form
one_of fs k = get_or fs k never

-- A form n times.
abbrev pub times : ℕ → Form → Form
times zero f = one
times (suc n) f = let r = times n f in both f r

-- w bits that choose, in the key and in the store.
abbrev pub select : ℕ → (ℕ → Form) → Form
select w fs = choose w 0 fs

-- One bit.
abbrev pub flag : Form
flag = select 1 (λ k. one)

-- w bits, a number below n.
abbrev pub below : ℕ → ℕ → Form
below w n = select w (λ k. when (ltb k n) one)

-- An opt: a bit says whether the part is there (The key).
abbrev pub opt : Form → Form
opt f = select 1 (one_of (one ∷ f ∷ []))

-- An opt that is needed, as a predicate's type is unless it asserts: its bit is 1.
abbrev pub needed : Form → Form
needed f = select 1 (one_of (never ∷ f ∷ []))

-- A spelling: length 16, at least 1, and any bytes (The key).
abbrev pub spelling : Form
spelling = word length_width

-- The key of a property: which of name, string and number it is, and its spelling (02, W1).
abbrev pub property_key : Form
property_key = select 2 (one_of (spelling ∷ spelling ∷ spelling ∷ []))

-- ---- The seven classes of nodes: 20 to 22 stand in tuples alone, members in object types (The key; 02, W1)

-- A type: 1 to 19, 23 to 25.
abbrev pub type : Form
type = child 0

-- An element of a tuple: a type, 20, 21, 22.
abbrev pub element : Form
element = child 1

-- What stands under a 21: a type or 22.
abbrev pub under_rest : Form
under_rest = child 2

-- What stands under a 22: a type, 20 or 21.
abbrev pub under_name : Form
under_name = child 3

-- A type parameter.
abbrev pub type_param : Form
type_param = child 4

-- A parameter.
abbrev pub param : Form
param = child 5

-- A member of an object type, whose sort stands in the place of a tag.
abbrev pub member : Form
member = child 6

-- What follows each kind of literal: string, number, bigint, true, false, -number, -bigint; no spelling after true and false.
abbrev pub literals : List Form
literals = spelling ∷ spelling ∷ spelling ∷ one ∷ one ∷ spelling ∷ spelling ∷ []

-- Whose predicate it is: a bit for this, or a spelling.
abbrev pub subject : Form
subject = select 1 (one_of (spelling ∷ one ∷ []))

-- 22 named: spelling, `?` bit, type, 20 or 21.
abbrev pub named_row : Form
named_row = spelling ⊗ flag ⊗ under_name

-- The type parameter, which has no tag: spelling, opt, opt.
abbrev pub type_param_row : Form
type_param_row = spelling ⊗ opt type ⊗ opt type

-- The parameter, which has no tag: rest bit, spelling, `?` bit, opt.
abbrev pub param_row : Form
param_row = flag ⊗ spelling ⊗ flag ⊗ opt type

-- ---- The rows, over the width c of a count
module _ (c : ℕ) where
  -- A count and what it leads to; it has as many bits in the store as in the key.
  abbrev pub counted : (ℕ → Form) → Form
  counted fs = choose c 0 fs

  -- A list: its count, at least so many, and its entries (The key).
  abbrev pub list : ℕ → Form → Form
  list least f = counted (λ n. when (leb least n) (times n f))

  -- Arguments: a list of types.
  abbrev pub args : Form
  args = list 0 type

  -- Opt type parameters.
  abbrev pub opt_type_params : Form
  opt_type_params = opt (list 0 type_param)

  -- What a call signature has: opt type parameters, opt `this` with its opt type, parameters, opt return.
  abbrev pub signature_row : Form
  signature_row = opt_type_params ⊗ opt (opt type) ⊗ list 0 param ⊗ opt type

  -- The rows of a member, by its sort from 0 (02, W1).
  abbrev pub member_rows : List Form
  member_rows =
      (flag ⊗ property_key ⊗ flag ⊗ opt type)  -- 0 property: readonly bit, key, `?` bit, opt type
      ∷ (property_key ⊗ flag ⊗ signature_row)  -- 1 method: key, `?` bit, what a call signature has
      ∷ signature_row  -- 2 call signature
      ∷ (opt_type_params ⊗ list 0 param ⊗ opt type)  -- 3 construct signature
      ∷ (flag ⊗ opt (spelling ⊗ type) ⊗ type)  -- 4 index signature: readonly bit, opt parameter, type
      ∷ []

  -- The rows of tags 0 to 25, where those of 20, 21 and 22 are handed over.
  abbrev pub rows : Form → Form → Form → List Form
  rows row20 row21 row22 =
      never  -- 0 is no tag
      ∷ (list 1 spelling ⊗ opt args)  -- 1 reference
      ∷ below 4 13  -- 2 keyword
      ∷ select 3 (one_of literals)  -- 3 literal
      ∷ type  -- 4 parens
      ∷ list 1 type  -- 5 union
      ∷ list 1 type  -- 6 intersection
      ∷ type  -- 7 array
      ∷ (type ⊗ type)  -- 8 indexed
      ∷ (type ⊗ type ⊗ type ⊗ type)  -- 9 conditional
      ∷ (spelling ⊗ opt type)  -- 10 infer
      ∷ (below 2 3 ⊗ type)  -- 11 operator
      ∷ (opt (list 0 type_param) ⊗ opt (opt type) ⊗ list 0 param ⊗ type)  -- 12 function
      ∷ (flag ⊗ opt (list 0 type_param) ⊗ list 0 param ⊗ type)  -- 13 constructor
      ∷ (below 2 4 ⊗ spelling ⊗ type ⊗ opt type ⊗ below 2 4 ⊗ opt type)  -- 14 mapped
      ∷ counted (λ n. spelling ⊗ times n (type ⊗ spelling))  -- 15 template
      ∷ select 1 (one_of ((subject ⊗ needed type) ∷ (subject ⊗ opt type) ∷ []))  -- 16 predicate
      ∷ (list 1 spelling ⊗ opt args)  -- 17 typeof
      ∷ (flag ⊗ spelling ⊗ list 0 spelling ⊗ opt args)  -- 18 import
      ∷ list 0 element  -- 19 tuple
      ∷ row20  -- 20 optional
      ∷ row21  -- 21 rest
      ∷ row22  -- 22 named
      ∷ type  -- 23 `!`
      ∷ type  -- 24 `?`
      ∷ list 0 member  -- 25 object
      ∷ []

  -- The rows of each class: 20 to 22 only in tuples; under 21 a type or 22, under 22 a type, 20 or 21.
  abbrev pub rows_of : ℕ → List Form
  rows_of zero = rows never never never  -- a type
  rows_of (suc zero) = rows type under_rest named_row  -- a tuple element
  rows_of (suc (suc zero)) = rows never never named_row  -- under a rest
  rows_of (suc (suc (suc zero))) = rows type under_rest never  -- under a name
  rows_of (suc (suc (suc (suc zero)))) = type_param_row ∷ []
  rows_of (suc (suc (suc (suc (suc zero))))) = param_row ∷ []
  rows_of (suc (suc (suc (suc (suc (suc zero)))))) = member_rows
  rows_of (suc (suc (suc (suc (suc (suc (suc k))))))) = []

-- The width of a class's tag: four classes have one of 6 bits, two have none, and a member's sort has 3.
abbrev pub tag_width_of : ℕ → ℕ
tag_width_of k = get_or (tag_wide ∷ tag_wide ∷ tag_wide ∷ tag_wide ∷ 0 ∷ 0 ∷ sort_wide ∷ []) k 0

-- ---- The table of an edition

-- The node table.
abbrev pub table : Edition → Grammar
table e = record { tag_width = tag_width_of; row = λ k t. one_of (rows_of (count_wide e) k) t }

-- What the number that a key begins with leads to: a type, if it is the edition's.
abbrev pub type_under : Edition → ℕ → Form
type_under e k = when (eqb k (numbered e)) type

-- A whole key but for its last bits: the edition's number, then a type.
abbrev pub key_form : Edition → Form
key_form e = select edition_width (type_under e)

-- The form of the keys we write.
abbrev pub whole_key : Form
whole_key = key_form newest
