-- Trees with positions, as a reading makes them: one maker for each entry of the node table, and the tests that rules ask of a node (01, The key; Reading rules).
use Rattle.std.specs.Prelude.{Bool, true, false, not, ◌&&◌, ◌||◌, List, [], ◌∷◌, ℕ, ◌+◌, eqb, length}
use Rattle.keys.specs.Bits.{unit}
use Rattle.keys.specs.Form.{Value, nothing, spelt, choice, pair, node, letters}

-- A value with positions: a spelling has its start in the text, a node its first and its end byte.
pub data Placed : Type 0 where
  void : Placed
  said : ℕ → List ℕ → Placed
  pick : ℕ → Placed → Placed
  join : Placed → Placed → Placed
  tree : (tag first end : ℕ) → Placed → Placed

-- The value itself, positions aside.
abbrev pub bare : Placed → Value
bare void = nothing
bare (said x s) = spelt s
bare (pick k p) = choice k (bare p)
bare (join a b) = pair (bare a) (bare b)
bare (tree t first end p) = node t (bare p)

-- Positions as taking back gives them: nodes at 0, the spellings one after the other from byte x of the text buffer (The two calls).
abbrev pub laid : Value → ℕ → Placed
laid nothing x = void
laid (spelt s) x = said x s
laid (choice k v) x = pick k (laid v x)
laid (pair a b) x = join (laid a x) (laid b (x + letters a))
laid (node t v) x = tree t 0 0 (laid v x)

-- ---- What the makers are given

-- A spelling as a reading meets it: its start in the text, its bytes.
abbrev pub Spelling : Type 0
Spelling = ℕ × List ℕ

-- A part that may be absent.
pub data Opt (A : Type 0) : Type 0 where
  absent : Opt A
  present : A → Opt A

-- A spelling's value.
abbrev pub spell : Spelling → Placed
spell s = said s.0 s.1

-- A bit's value.
abbrev pub bit : Bool → Placed
bit b = pick (unit b) void

-- A number's value.
abbrev pub number : ℕ → Placed
number k = pick k void

-- One value after the other.
abbrev pub entries : List Placed → Placed
entries [] = void
entries (p ∷ ps) = join p (entries ps)

-- A list: its count and its entries.
abbrev pub listed : List Placed → Placed
listed ps = pick (length ps) (entries ps)

-- The values of spellings.
abbrev pub spellings : List Spelling → List Placed
spellings [] = []
spellings (s ∷ ss) = spell s ∷ spellings ss

-- A list of spellings.
abbrev pub listed_names : List Spelling → Placed
listed_names ss = listed (spellings ss)

-- An opt: a part that may be absent.
abbrev pub maybe : Opt Placed → Placed
maybe absent = pick 0 void
maybe (present p) = pick 1 p

-- An opt list.
abbrev pub maybe_list : Opt (List Placed) → Placed
maybe_list absent = pick 0 void
maybe_list (present ps) = pick 1 (listed ps)

-- The `this` of a function: whether there is one, and then whether it has a type.
abbrev pub maybe_this : Opt (Opt Placed) → Placed
maybe_this absent = pick 0 void
maybe_this (present p) = pick 1 (maybe p)

-- The spelling of a literal, absent for true and false.
abbrev pub literal_spelling : Opt Spelling → Placed
literal_spelling absent = void
literal_spelling (present s) = spell s

-- Whose predicate it is: absent stands for this.
abbrev pub subject_of : Opt Spelling → Placed
subject_of absent = pick 1 void
subject_of (present s) = pick 0 (spell s)

-- The types of a template, each with the spelling after it.
abbrev pub pieces : List (Placed × Spelling) → List Placed
pieces [] = []
pieces (p ∷ ps) = join p.0 (spell p.1) ∷ pieces ps

-- The key of a property: which of name, string, number it is, from 0, and its spelling.
pub record PropertyKey : Type 0 where
  pub which : ℕ
  pub spelling : Spelling

-- Its value.
abbrev pub spell_key : PropertyKey → Placed
spell_key k = pick k.which (spell k.spelling)

-- The parameter of an index signature, which may be absent: its name and its type.
abbrev pub maybe_named : Opt (Spelling × Placed) → Placed
maybe_named absent = pick 0 void
maybe_named (present p) = pick 1 (join (spell p.0) p.1)

-- What a call signature has: opt type parameters, opt `this` with its opt type, parameters, opt return.
abbrev pub signature : Opt (List Placed) → Opt (Opt Placed) → List Placed → Opt Placed → Placed
signature params this ps r = join (maybe_list params) (join (maybe_this this) (join (listed ps) (maybe r)))

-- ---- The node table's entries by name; first and end are the node's first and end byte
module _ (first end : ℕ) where
  -- 1: names and opt args.
  abbrev pub reference : List Spelling → Opt (List Placed) → Placed
  reference ss args = tree 1 first end (join (listed_names ss) (maybe_list args))

  -- 2: which of any bigint boolean never null number object string symbol this undefined unknown void, from 0.
  abbrev pub keyword : ℕ → Placed
  keyword k = tree 2 first end (number k)

  -- 3: which of string, number, bigint, true, false, -number, -bigint, from 0, and its spelling.
  abbrev pub literal : ℕ → Opt Spelling → Placed
  literal k s = tree 3 first end (pick k (literal_spelling s))

  -- 4: the type in parentheses.
  abbrev pub parens : Placed → Placed
  parens t = tree 4 first end t

  -- 5: its parts.
  abbrev pub union : List Placed → Placed
  union ts = tree 5 first end (listed ts)

  -- 6: its parts.
  abbrev pub intersection : List Placed → Placed
  intersection ts = tree 6 first end (listed ts)

  -- 7: the type before `[]`.
  abbrev pub array : Placed → Placed
  array t = tree 7 first end t

  -- 8: the type before `[`, the index.
  abbrev pub indexed : Placed → Placed → Placed
  indexed t x = tree 8 first end (join t x)

  -- 9: the type checked, what it extends, the true and the false type.
  abbrev pub conditional : Placed → Placed → Placed → Placed → Placed
  conditional a b c d = tree 9 first end (join a (join b (join c d)))

  -- 10: the name, opt constraint.
  abbrev pub infer : Spelling → Opt Placed → Placed
  infer s t = tree 10 first end (join (spell s) (maybe t))

  -- 11: which of keyof, unique, readonly, from 0, and its operand.
  abbrev pub operator : ℕ → Placed → Placed
  operator k t = tree 11 first end (join (number k) t)

  -- 12: opt type parameters, opt `this` with its opt type, parameters, return.
  abbrev pub function : Opt (List Placed) → Opt (Opt Placed) → List Placed → Placed → Placed
  function params this ps r = tree 12 first end (join (maybe_list params) (join (maybe_this this) (join (listed ps) r)))

  -- 13: abstract bit, opt type parameters, parameters, return.
  abbrev pub constructor : Bool → Opt (List Placed) → List Placed → Placed → Placed
  constructor abstract params ps r = tree 13 first end (join (bit abstract) (join (maybe_list params) (join (listed ps) r)))

  -- 14: readonly (0 none, 1 plain, 2 plus, 3 minus), key, constraint, opt name type, `?` alike, opt type.
  abbrev pub mapped : ℕ → Spelling → Placed → Opt Placed → ℕ → Opt Placed → Placed
  mapped readonly key c n question t =
      tree 14 first end (join (number readonly) (join (spell key) (join c (join (maybe n) (join (number question) (maybe t))))))

  -- 15: the first spelling, then each type with the spelling after it.
  abbrev pub template : Spelling → List (Placed × Spelling) → Placed
  template s ps = tree 15 first end (pick (length ps) (join (spell s) (entries (pieces ps))))

  -- 16: asserts bit, the name (absent for this), opt type.
  abbrev pub predicate : Bool → Opt Spelling → Opt Placed → Placed
  predicate asserts s t = tree 16 first end (pick (unit asserts) (join (subject_of s) (maybe t)))

  -- 17: as 1.
  abbrev pub typeof : List Spelling → Opt (List Placed) → Placed
  typeof ss args = tree 17 first end (join (listed_names ss) (maybe_list args))

  -- 18: typeof bit, source, names, opt args.
  abbrev pub import_type : Bool → Spelling → List Spelling → Opt (List Placed) → Placed
  import_type isTypeof source ss args = tree 18 first end (join (bit isTypeof) (join (spell source) (join (listed_names ss) (maybe_list args))))

  -- 19: its elements.
  abbrev pub tuple : List Placed → Placed
  tuple ts = tree 19 first end (listed ts)

  -- 20: its type.
  abbrev pub optional : Placed → Placed
  optional t = tree 20 first end t

  -- 21: a type or a 22.
  abbrev pub rest : Placed → Placed
  rest t = tree 21 first end t

  -- 22: name, `?` bit, a type, 20 or 21.
  abbrev pub named : Spelling → Bool → Placed → Placed
  named s question t = tree 22 first end (join (spell s) (join (bit question) t))

  -- 23: the type before `!`.
  abbrev pub non_null : Placed → Placed
  non_null t = tree 23 first end t

  -- 24: the type before `?`.
  abbrev pub asked : Placed → Placed
  asked t = tree 24 first end t

  -- 25: its members.
  abbrev pub object : List Placed → Placed
  object ms = tree 25 first end (listed ms)

  -- Member, sort 0: readonly bit, key, `?` bit, opt type.
  abbrev pub property : Bool → PropertyKey → Bool → Opt Placed → Placed
  property readonly key question t = tree 0 first end (join (bit readonly) (join (spell_key key) (join (bit question) (maybe t))))

  -- Member, sort 1: key, `?` bit, what a call signature has.
  abbrev pub method : PropertyKey → Bool → Opt (List Placed) → Opt (Opt Placed) → List Placed → Opt Placed → Placed
  method key question params this ps r = tree 1 first end (join (spell_key key) (join (bit question) (signature params this ps r)))

  -- Member, sort 2: what a call signature has.
  abbrev pub call_signature : Opt (List Placed) → Opt (Opt Placed) → List Placed → Opt Placed → Placed
  call_signature params this ps r = tree 2 first end (signature params this ps r)

  -- Member, sort 3: opt type parameters, parameters, opt return.
  abbrev pub construct_signature : Opt (List Placed) → List Placed → Opt Placed → Placed
  construct_signature params ps r = tree 3 first end (join (maybe_list params) (join (listed ps) (maybe r)))

  -- Member, sort 4: readonly bit, opt parameter with its name and type, type.
  abbrev pub index_signature : Bool → Opt (Spelling × Placed) → Placed → Placed
  index_signature readonly p t = tree 4 first end (join (bit readonly) (join (maybe_named p) t))

  -- Type parameter: name, opt constraint, opt default.
  abbrev pub type_parameter : Spelling → Opt Placed → Opt Placed → Placed
  type_parameter s x d = tree 0 first end (join (spell s) (join (maybe x) (maybe d)))

  -- Parameter: rest bit, name, `?` bit, opt type.
  abbrev pub parameter : Bool → Spelling → Bool → Opt Placed → Placed
  parameter is_rest s question t = tree 0 first end (join (bit is_rest) (join (spell s) (join (bit question) (maybe t))))

-- ---- What rules ask of a node

-- Its tag; 0 where it is no node.
abbrev pub tag_of : Placed → ℕ
tag_of void = 0
tag_of (said x s) = 0
tag_of (pick k p) = 0
tag_of (join a b) = 0
tag_of (tree t first end p) = t

-- Its first byte.
abbrev pub first_of : Placed → ℕ
first_of void = 0
first_of (said x s) = 0
first_of (pick k p) = 0
first_of (join a b) = 0
first_of (tree t first end p) = first

-- Its end byte.
abbrev pub end_of : Placed → ℕ
end_of void = 0
end_of (said x s) = 0
end_of (pick k p) = 0
end_of (join a b) = 0
end_of (tree t first end p) = end

-- What it holds.
abbrev pub content : Placed → Placed
content void = void
content (said x s) = void
content (pick k p) = void
content (join a b) = void
content (tree t first end p) = p

-- The second of two values.
abbrev pub second : Placed → Placed
second void = void
second (said x s) = void
second (pick k p) = void
second (join a b) = b
second (tree t first end p) = void

-- Do the bits of the value begin with the choice 1?
abbrev pub is_set : Placed → Bool
is_set void = false
is_set (said x s) = false
is_set (pick k p) = eqb k 1
is_set (join a b) = is_set a
is_set (tree t first end p) = false

-- Is it a 20?
abbrev pub is_optional : Placed → Bool
is_optional p = eqb (tag_of p) 20

-- Is it a 21?
abbrev pub is_rest : Placed → Bool
is_rest p = eqb (tag_of p) 21

-- Is it a 22?
abbrev pub is_named : Placed → Bool
is_named p = eqb (tag_of p) 22

-- Is it a 22 with its `?` bit?
abbrev pub is_named_asked : Placed → Bool
is_named_asked p = is_named p && is_set (second (content p))

-- Its first choice; 0 where it has none.
abbrev pub chosen : Placed → ℕ
chosen void = 0
chosen (said x s) = 0
chosen (pick k p) = k
chosen (join a b) = 0
chosen (tree t first end p) = 0

-- Is it a literal: a 3, or a 15 with no types (02, W1, diagnostic 10)?
abbrev pub is_literal : Placed → Bool
is_literal p = eqb (tag_of p) 3 || (eqb (tag_of p) 15 && eqb (chosen (content p)) 0)

-- Is it a keyword other than any, number, string, symbol and this (02, W1, diagnostic 11)?
abbrev pub is_no_index : Placed → Bool
is_no_index p =
    eqb (tag_of p) 2
    && not (eqb (chosen (content p)) 0 || eqb (chosen (content p)) 5 || eqb (chosen (content p)) 7 || eqb (chosen (content p)) 8 || eqb (chosen (content p)) 9)

-- Is it a 24?
abbrev pub is_asked : Placed → Bool
is_asked p = eqb (tag_of p) 24

-- The same node under another tag.
abbrev pub retag : ℕ → Placed → Placed
retag k void = void
retag k (said x s) = said x s
retag k (pick j p) = pick j p
retag k (join a b) = join a b
retag k (tree t first end p) = tree k first end p

-- A `?` node as an optional, by a test.
abbrev pub optional_if : Bool → Placed → Placed
optional_if true p = retag 20 p
optional_if false p = p

-- As an element of a tuple, a `?` node turns into an optional one and keeps all else (Mapped, tuple element).
abbrev pub as_element : Placed → Placed
as_element p = optional_if (is_asked p) p
