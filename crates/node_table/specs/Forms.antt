-- The node table as words: four to a form, and behind the forms the lists of what choices lead to (01, The key).
use Rattle.std.specs.Prelude.{Bool, true, false, List, [], ◌∷◌, ◌≡◌, ℕ, zero, suc, ◌+◌, ◌-◌, ◌*◌, ◌^◌, ◌≤◌, ◌<◌, leb, ltb, get_or}
use Rattle.keys.specs.Limits.{widest}
use Rattle.keys.specs.Form.{Form, never, one, word, choose, both, child, Grammar}
use Rattle.keys.specs.Table.{when, one_of}
use Rattle.node_table.specs.declared.forms.Row.{Row}
use Rattle.node_table.specs.declared.forms.Jump.{Jump}

-- ---- Spellings and nodes in line, and then another form

-- n spellings whose lengths have w bits, and then g.
abbrev pub spellings_then : ℕ → ℕ → Form → Form
spellings_then zero w g = g
spellings_then (suc n) w g = let r = spellings_then n w g in both (word w) r

-- A spelling if its length has any bits, and then g.
abbrev pub spelling_if : ℕ → Form → Form
spelling_if zero g = g
spelling_if (suc w) g = both (word (suc w)) g

-- n nodes of class c, a spelling after each if its length has any bits, and then g.
abbrev pub nodes_then : ℕ → ℕ → ℕ → Form → Form
nodes_then zero c w g = g
nodes_then (suc n) c w g = let r = nodes_then n c w g in both (child c) (spelling_if w r)

-- ---- What words say

-- The words of an entry.
abbrev pub entry_words : ℕ
entry_words = 4

-- Numbers of the table, and counts by it, stay below this: no sum of them wraps.
abbrev pub table_most : ℕ
table_most = 2 ^ 32

-- The four words of a form: its operation, a width, and two numbers.
pub record Entry : Type 0 where
  pub op : ℕ
  pub w : ℕ
  pub a : ℕ
  pub b : ℕ

-- An entry by its words.
abbrev pub entry : ℕ → ℕ → ℕ → ℕ → Entry
entry op w a b = record { op = op; w = w; a = a; b = b }

-- The four words from a place on.
abbrev pub entry_from : List ℕ → ℕ → Entry
entry_from T p = entry (get_or T p 0) (get_or T (p + 1) 0) (get_or T (p + 2) 0) (get_or T (p + 3) 0)

-- The words of form f where there is such a form, else zeros.
abbrev pub entry_by : List ℕ → ℕ → Bool → Entry
entry_by T f true = entry_from T (f * entry_words)
entry_by T f false = entry 0 0 0 0

-- How many steps the longest form has.
abbrev pub steps_of : List ℕ → ℕ
steps_of T = get_or T 1 0

-- How many classes there are.
abbrev pub classes_of : List ℕ → ℕ
classes_of T = get_or T 2 0

-- How many forms there are.
abbrev pub forms_of : List ℕ → ℕ
forms_of T = get_or T 3 0

-- The entry of form f.
abbrev pub entry_at : List ℕ → ℕ → Entry
entry_at T f = entry_by T f (ltb f (forms_of T))

-- The entry of class c: the classes follow form 0.
abbrev pub class_at : List ℕ → ℕ → Entry
class_at T c = entry_by T (c + 1) (ltb c (classes_of T))

-- The forms whose numbers are the b words from place a.
abbrev pub listed : List ℕ → (ℕ → Form) → ℕ → ℕ → List Form
listed T go a zero = []
listed T go a (suc b) = go (get_or T a 0) ∷ listed T go (suc a) b

-- What the number t leads to, by kind of choice: one of the listed forms; form b that many times, at least a; form b.
abbrev pub leads : List ℕ → (ℕ → ℕ → Form) → Entry → (kind t : ℕ) → Form
leads T go e zero t = one_of (listed T (go 1) e.a e.b) t
leads T go e (suc zero) t = when (leb e.a t) (go t e.b)
leads T go e (suc (suc k)) t = go 1 e.b

-- The form of an entry: 0 never, 1 no more, 2 n spellings then b, 3 n nodes of class a then b, 4 a spelling then b n times, from 5 on choices.
abbrev pub form_by : List ℕ → (ℕ → ℕ → Form) → (n : ℕ) → Entry → (op : ℕ) → Form
form_by T go n e zero = never
form_by T go n e (suc zero) = one
form_by T go n e (suc (suc zero)) = spellings_then n e.w (go 1 e.b)
form_by T go n e (suc (suc (suc zero))) = nodes_then n e.a e.w (go 1 e.b)
form_by T go n e (suc (suc (suc (suc zero)))) = both (word e.w) (go n e.b)
form_by T go n e (suc (suc (suc (suc (suc k))))) = choose e.w 0 (leads T go e k)

-- Form f to so many steps, its first done n times.
abbrev pub form_of : List ℕ → (steps n f : ℕ) → Form
form_of T zero n f = never
form_of T (suc d) n f = form_by T (λ m g. form_of T d m g) n (entry_at T f) (entry_at T f).op

-- The node table that words are.
abbrev pub grammar_of : List ℕ → Grammar
grammar_of T =
    record {
      tag_width = λ c. (class_at T c).w;
      row = λ c t. one_of (listed T (λ f. form_of T (steps_of T) 1 f) (class_at T c).a (class_at T c).b) t;
    }

-- No width of the words is more than can be put or taken.
pub record Narrow (T : List ℕ) : Type 0 where
  pub at : (f : ℕ) → (entry_at T f).w ≤ widest
  pub tag : (c : ℕ) → (class_at T c).w ≤ widest

-- ---- What the code reads off the words

-- An entry as the code has it.
abbrev pub entry_of : Row → Entry
entry_of r = entry r.op r.w r.a r.b

-- The code has read an entry.
pub record IsRow (e : Entry) (r : Row) : Type 0 where
  pub is : entry_of r ≡ e
  pub wide : r.w < table_most
  pub from : r.a < table_most
  pub next : r.b < table_most

-- Where the number t leads among the forms that a row lists.
pub record Lists (T : List ℕ) (r : Row) (t : ℕ) (j : Jump) : Type 0 where
  pub is : (d : ℕ) → one_of (listed T (λ g. form_of T d 1 g) r.a r.b) t ≡ form_of T d j.n j.form
  pub form : j.form < table_most
  pub once : j.n ≡ 1

-- Where the number t of a choice leads.
pub record Jumps (T : List ℕ) (r : Row) (t : ℕ) (j : Jump) : Type 0 where
  pub is : (d : ℕ) → leads T (λ m g. form_of T d m g) (entry_of r) (r.op - 5) t ≡ form_of T d j.n j.form
  pub form : j.form < table_most
  pub few : j.n < table_most

-- ---- The words of our node table, over the width c of a count

-- The words of entries, and then others.
abbrev pub words_of : List Entry → List ℕ → List ℕ
words_of [] ws = ws
words_of (e ∷ es) ws = let r = words_of es ws in e.op ∷ e.w ∷ e.a ∷ e.b ∷ r

-- The forms by number.
abbrev pub form_entries : (c : ℕ) → List Entry
form_entries c =
    entry 0 14 7 86  -- 0 never; the steps of the longest form, the classes, the forms
    ∷ entry 5 6 344 26  -- 1 class 0: a type
    ∷ entry 5 6 370 26  -- 2 class 1: an element of a tuple
    ∷ entry 5 6 396 26  -- 3 class 2: under a rest
    ∷ entry 5 6 422 26  -- 4 class 3: under a name
    ∷ entry 5 0 448 1  -- 5 class 4: a type parameter
    ∷ entry 5 0 449 1  -- 6 class 5: a parameter
    ∷ entry 5 3 450 5  -- 7 class 6: a member of an object type
    ∷ entry 1 0 0 0  -- 8 no more
    ∷ entry 3 0 0 8  -- 9 types
    ∷ entry 5 1 455 2  -- 10 opt type
    ∷ entry 6 c 0 9  -- 11 args: how many
    ∷ entry 5 1 457 2  -- 12 opt args
    ∷ entry 2 16 0 12  -- 13 names, opt args
    ∷ entry 6 c 1 13  -- 14 1, 17: how many names
    ∷ entry 5 4 459 13  -- 15 2: which keyword
    ∷ entry 4 16 0 8  -- 16 a spelling
    ∷ entry 5 3 472 7  -- 17 3: which literal
    ∷ entry 6 c 1 9  -- 18 5, 6: how many parts
    ∷ entry 3 0 0 9  -- 19 8: two types
    ∷ entry 3 0 0 19  -- 20 three types
    ∷ entry 3 0 0 20  -- 21 9: four types
    ∷ entry 4 16 0 10  -- 22 10: a name, opt type
    ∷ entry 5 2 479 3  -- 23 11: which operator, a type
    ∷ entry 3 0 5 9  -- 24 parameters, the return
    ∷ entry 6 c 0 24  -- 25 how many parameters
    ∷ entry 3 0 0 25  -- 26 the type of this
    ∷ entry 5 1 482 2  -- 27 opt type of this
    ∷ entry 5 1 484 2  -- 28 the bit of this
    ∷ entry 3 0 4 28  -- 29 type parameters, this
    ∷ entry 6 c 0 29  -- 30 how many type parameters
    ∷ entry 5 1 486 2  -- 31 12: opt type parameters
    ∷ entry 3 0 4 25  -- 32 type parameters, parameters
    ∷ entry 6 c 0 32  -- 33 how many type parameters
    ∷ entry 5 1 488 2  -- 34 opt type parameters
    ∷ entry 7 1 0 34  -- 35 13: the abstract bit
    ∷ entry 5 2 490 4  -- 36 which `?`, opt type
    ∷ entry 3 0 0 36  -- 37 the name type
    ∷ entry 5 1 494 2  -- 38 opt name type
    ∷ entry 3 0 0 38  -- 39 the constraint
    ∷ entry 4 16 0 39  -- 40 the key
    ∷ entry 5 2 496 4  -- 41 14: which readonly
    ∷ entry 3 16 0 8  -- 42 types, each with a spelling
    ∷ entry 4 16 0 42  -- 43 the first spelling
    ∷ entry 6 c 0 43  -- 44 15: how many types
    ∷ entry 5 1 500 2  -- 45 a type that is needed
    ∷ entry 4 16 0 45  -- 46 a name, a type
    ∷ entry 5 1 502 2  -- 47 the bit of this: a type
    ∷ entry 5 1 504 2  -- 48 the bit of this: opt type
    ∷ entry 5 1 506 2  -- 49 16: the asserts bit
    ∷ entry 6 c 0 13  -- 50 how many names
    ∷ entry 4 16 0 50  -- 51 the source
    ∷ entry 7 1 0 51  -- 52 18: the typeof bit
    ∷ entry 3 0 1 8  -- 53 elements
    ∷ entry 6 c 0 53  -- 54 19: how many elements
    ∷ entry 3 0 2 8  -- 55 21: what is under a rest
    ∷ entry 3 0 3 8  -- 56 what is under a name
    ∷ entry 7 1 0 56  -- 57 the `?` bit
    ∷ entry 4 16 0 57  -- 58 22: a name
    ∷ entry 3 0 0 10  -- 59 a type, opt type
    ∷ entry 5 1 508 2  -- 60 opt type, opt type
    ∷ entry 4 16 0 60  -- 61 a type parameter: its name
    ∷ entry 7 1 0 10  -- 62 the `?` bit, opt type
    ∷ entry 4 16 0 62  -- 63 the name
    ∷ entry 7 1 0 63  -- 64 a parameter: the rest bit
    ∷ entry 3 0 6 8  -- 65 members
    ∷ entry 6 c 0 65  -- 66 25: how many members
    ∷ entry 5 2 510 3  -- 67 which key, its spelling, the `?` bit, opt type
    ∷ entry 7 1 0 67  -- 68 0 property: the readonly bit
    ∷ entry 3 0 5 10  -- 69 parameters, opt return
    ∷ entry 6 c 0 69  -- 70 how many parameters
    ∷ entry 3 0 0 70  -- 71 the type of this
    ∷ entry 5 1 513 2  -- 72 opt type of this
    ∷ entry 5 1 515 2  -- 73 the bit of this
    ∷ entry 3 0 4 73  -- 74 type parameters, this
    ∷ entry 6 c 0 74  -- 75 how many type parameters
    ∷ entry 5 1 517 2  -- 76 2 call signature: opt type parameters
    ∷ entry 7 1 0 76  -- 77 the `?` bit, what a call signature has
    ∷ entry 4 16 0 77  -- 78 the spelling of a key
    ∷ entry 5 2 519 3  -- 79 1 method: which key
    ∷ entry 3 0 4 70  -- 80 type parameters, parameters
    ∷ entry 6 c 0 80  -- 81 how many type parameters
    ∷ entry 5 1 522 2  -- 82 3 construct signature: opt type parameters
    ∷ entry 4 16 0 19  -- 83 the name of a parameter, two types
    ∷ entry 5 1 524 2  -- 84 opt parameter, a type
    ∷ entry 7 1 0 84  -- 85 4 index signature: the readonly bit
    ∷ []

-- The numbers of the forms that choices lead to, from word 344 on.
abbrev pub form_lists : List ℕ
form_lists =
    0 ∷ 14 ∷ 15 ∷ 17 ∷ 9 ∷ 18 ∷ 18 ∷ 9 ∷ 19 ∷ 21 ∷ 22 ∷ 23 ∷ 31 ∷ 35 ∷ 41 ∷ 44 ∷ 49 ∷ 14 ∷ 52 ∷ 54 ∷ 0 ∷ 0 ∷ 0 ∷ 9 ∷ 9 ∷ 66  -- from 1
    ∷ 0 ∷ 14 ∷ 15 ∷ 17 ∷ 9 ∷ 18 ∷ 18 ∷ 9 ∷ 19 ∷ 21 ∷ 22 ∷ 23 ∷ 31 ∷ 35 ∷ 41 ∷ 44 ∷ 49 ∷ 14 ∷ 52 ∷ 54 ∷ 9 ∷ 55 ∷ 58 ∷ 9 ∷ 9 ∷ 66  -- from 2
    ∷ 0 ∷ 14 ∷ 15 ∷ 17 ∷ 9 ∷ 18 ∷ 18 ∷ 9 ∷ 19 ∷ 21 ∷ 22 ∷ 23 ∷ 31 ∷ 35 ∷ 41 ∷ 44 ∷ 49 ∷ 14 ∷ 52 ∷ 54 ∷ 0 ∷ 0 ∷ 58 ∷ 9 ∷ 9 ∷ 66  -- from 3
    ∷ 0 ∷ 14 ∷ 15 ∷ 17 ∷ 9 ∷ 18 ∷ 18 ∷ 9 ∷ 19 ∷ 21 ∷ 22 ∷ 23 ∷ 31 ∷ 35 ∷ 41 ∷ 44 ∷ 49 ∷ 14 ∷ 52 ∷ 54 ∷ 9 ∷ 55 ∷ 0 ∷ 9 ∷ 9 ∷ 66  -- from 4
    ∷ 61  -- from 5
    ∷ 64  -- from 6
    ∷ 68 ∷ 79 ∷ 76 ∷ 82 ∷ 85  -- from 7
    ∷ 8 ∷ 9  -- from 10
    ∷ 8 ∷ 11  -- from 12
    ∷ 8 ∷ 8 ∷ 8 ∷ 8 ∷ 8 ∷ 8 ∷ 8 ∷ 8 ∷ 8 ∷ 8 ∷ 8 ∷ 8 ∷ 8  -- from 15
    ∷ 16 ∷ 16 ∷ 16 ∷ 8 ∷ 8 ∷ 16 ∷ 16  -- from 17
    ∷ 9 ∷ 9 ∷ 9  -- from 23
    ∷ 25 ∷ 26  -- from 27
    ∷ 25 ∷ 27  -- from 28
    ∷ 28 ∷ 30  -- from 31
    ∷ 25 ∷ 33  -- from 34
    ∷ 10 ∷ 10 ∷ 10 ∷ 10  -- from 36
    ∷ 36 ∷ 37  -- from 38
    ∷ 40 ∷ 40 ∷ 40 ∷ 40  -- from 41
    ∷ 0 ∷ 9  -- from 45
    ∷ 46 ∷ 45  -- from 47
    ∷ 22 ∷ 10  -- from 48
    ∷ 47 ∷ 48  -- from 49
    ∷ 10 ∷ 59  -- from 60
    ∷ 63 ∷ 63 ∷ 63  -- from 67
    ∷ 70 ∷ 71  -- from 72
    ∷ 70 ∷ 72  -- from 73
    ∷ 73 ∷ 75  -- from 76
    ∷ 78 ∷ 78 ∷ 78  -- from 79
    ∷ 70 ∷ 81  -- from 82
    ∷ 9 ∷ 83  -- from 84
    ∷ []

-- The node table's words.
unfoldable pub table_words : (c : ℕ) → List ℕ
table_words c = words_of (form_entries c) form_lists
