-- Trees as bare values, the forms that fields take, and the writing and the taking of a value by its form (01, The key; Refusal numbers).
use Rattle.std.specs.Prelude.{Bool, true, false, List, [], ◌∷◌, ◌++◌, ℕ, zero, suc, ◌+◌, ◌-◌, ◌^◌, ◌≤◌, ◌<◌, max, leb, length}
use Rattle.keys.specs.Limits.{too_tall, no_room, bad_key, no_space}
use Rattle.keys.specs.Bits.{Bits, bits_of, Field, short, field, take_field, bits_of_bytes, Row, cut, row, take_bytes}

-- A value, positions aside: nothing, a spelling's bytes, a choice with what it leads to, two values, a node with its tag. Flags, opt bits and counts are choices.
pub data Value : Type 0 where
  nothing : Value
  spelt : List ℕ → Value
  choice : ℕ → Value → Value
  pair : Value → Value → Value
  node : ℕ → Value → Value

-- A form: no value at all; nothing; a spelling whose length has w bits; w bits that choose the form after them, with some to spare in the store; two forms; a node of a class.
pub data Form : Type 0 where
  never : Form
  one : Form
  word : ℕ → Form
  choose : (wide spare : ℕ) → (ℕ → Form) → Form
  both : Form → Form → Form
  child : ℕ → Form

-- A node table: the width of a class's tag, and the row that a class has under a tag.
pub record Grammar : Type 0 where
  pub tag_width : ℕ → ℕ
  pub row : ℕ → ℕ → Form

-- ---- The parts of a form

-- The width of a form's own field in the key: of a spelling's length, or of a choice.
abbrev pub width : Form → ℕ
width never = 0
width one = 0
width (word w) = w
width (choose w x fs) = w
width (both f g) = 0
width (child c) = 0

-- A width and so many bits more.
abbrev pub wider : ℕ → ℕ → ℕ
wider w zero = w
wider w (suc x) = suc (wider w x)

-- The width of a choice in the store.
abbrev pub store_width : Form → ℕ
store_width never = 0
store_width one = 0
store_width (word w) = 0
store_width (choose w x fs) = wider w x
store_width (both f g) = 0
store_width (child c) = 0

-- The form that a choice leads to.
abbrev pub branch : Form → ℕ → Form
branch never k = never
branch one k = never
branch (word w) k = never
branch (choose w x fs) k = fs k
branch (both f g) k = never
branch (child c) k = never

-- The first of two forms.
abbrev pub left : Form → Form
left never = never
left one = never
left (word w) = never
left (choose w x fs) = never
left (both f g) = f
left (child c) = never

-- The second of two forms.
abbrev pub right : Form → Form
right never = never
right one = never
right (word w) = never
right (choose w x fs) = never
right (both f g) = g
right (child c) = never

-- The class of a node.
abbrev pub class : Form → ℕ
class never = 0
class one = 0
class (word w) = 0
class (choose w x fs) = 0
class (both f g) = 0
class (child c) = c

-- Is it the form that no value has?
abbrev pub is_never : Form → Bool
is_never never = true
is_never one = false
is_never (word w) = false
is_never (choose w x fs) = false
is_never (both f g) = false
is_never (child c) = false

-- ---- The measures of a value

-- A node's height is one more than the greatest among its children, a leaf's is 1 (Refusal numbers).
abbrev pub height : Value → ℕ
height nothing = 0
height (spelt s) = 0
height (choice k v) = height v
height (pair a b) = max (height a) (height b)
height (node t v) = suc (height v)

-- How many nodes it has; parameters and type parameters are nodes too (Refusal numbers).
abbrev pub nodes : Value → ℕ
nodes nothing = 0
nodes (spelt s) = 0
nodes (choice k v) = nodes v
nodes (pair a b) = nodes a + nodes b
nodes (node t v) = suc (nodes v)

-- Its spellings in the key's order.
abbrev pub names : Value → List (List ℕ)
names nothing = []
names (spelt s) = s ∷ []
names (choice k v) = names v
names (pair a b) = names a ++ names b
names (node t v) = names v

-- How many bytes its spellings have together.
abbrev pub letters : Value → ℕ
letters nothing = 0
letters (spelt s) = length s
letters (choice k v) = letters v
letters (pair a b) = letters a + letters b
letters (node t v) = letters v

-- Every number of the row is a byte.
abbrev pub Bytes : List ℕ → Type 0
Bytes [] = Unit {0}
Bytes (b ∷ s) = (b < 2 ^ 8) × Bytes s

-- ---- Writing and fitting, by a node table
module _ (G : Grammar) where
  -- The bits of a value of a form: a spelling's length and bytes, a choice and what it leads to, one value after the other, a node's tag and its row (The key).
  abbrev pub write : Form → Value → Bits
  write f nothing = []
  write f (spelt s) = bits_of (width f) (length s) ++ bits_of_bytes s
  write f (choice k v) = bits_of (width f) k ++ write (branch f k) v
  write f (pair a b) = write (left f) a ++ write (right f) b
  write f (node t v) = bits_of (G.tag_width (class f)) t ++ write (G.row (class f) t) v

  -- A value of a form: spellings have at least one byte, every number fits its field, every tag has a row in its class (The key).
  pub data Fits : Form → Value → Type 0 where
    fits_one : Fits one nothing
    fits_word : {w : ℕ} {s : List ℕ} → 1 ≤ length s → length s < 2 ^ w → Bytes s → Fits (word w) (spelt s)
    fits_choose : {w x : ℕ} {fs : ℕ → Form} {k : ℕ} {v : Value} → k < 2 ^ w → Fits (fs k) v → Fits (choose w x fs) (choice k v)
    fits_both : {f g : Form} {a b : Value} → Fits f a → Fits g b → Fits (both f g) (pair a b)
    fits_child : {c t : ℕ} {v : Value} → t < 2 ^ G.tag_width c → Fits (G.row c t) v → Fits (child c) (node t v)

-- ---- Taking

-- What is left while a key is taken: room for nodes, for names and for bytes of text, and the bits not yet taken.
pub record State : Type 0 where
  pub nodes_left : ℕ
  pub names_left : ℕ
  pub text_left : ℕ
  pub bits : Bits

-- What is left, by its four parts.
abbrev pub state : ℕ → ℕ → ℕ → Bits → State
state n k m bs = record { nodes_left = n; names_left = k; text_left = m; bits = bs }

-- What taking comes to: a value and what is left; or a refusal, its number and how many bits were left at its place.
pub data Result : Type 0 where
  got : Value → State → Result
  stop : ℕ → ℕ → Result

-- Refused here, under a number: the place is the first bit not yet taken.
abbrev pub stop_at : ℕ → State → Result
stop_at number s = stop number (length s.bits)

-- What was got, made into a larger value.
abbrev pub into : (Value → Value) → Result → Result
into f (got v s) = got (f v) s
into f (stop n l) = stop n l

-- What comes after what was got; a refusal stands.
abbrev pub and_then : Result → (Value → State → Result) → Result
and_then (got v s) k = k v s
and_then (stop n l) k = stop n l

-- A number that leads to no form is 10, and the place is its field (Refusal numbers).
abbrev pub allowed : State → (ℕ → Bits → Result) → ℕ → Bits → Bool → Result
allowed s k t r true = stop_at bad_key s
allowed s k t r false = k t r

-- A field cut short is 10 at its first bit (Refusal numbers).
abbrev pub if_whole : State → (ℕ → Form) → (ℕ → Bits → Result) → Field → Result
if_whole s fs k short = stop_at bad_key s
if_whole s fs k (field t r) = allowed s k t r (is_never (fs t))

-- A field of w bits that chooses among forms, and what is done with its number and the bits after it.
abbrev pub take_choice : ℕ → (ℕ → Form) → State → (ℕ → Bits → Result) → Result
take_choice w fs s k = if_whole s fs k (take_field w s.bits)

-- A spelling that is whole is kept where there is room for its bytes and its name, else it is 11 (Refusal numbers).
abbrev pub keep : State → List ℕ → Bits → Bool → ℕ → Result
keep s t r false k = stop_at no_space s
keep s t r true zero = stop_at no_space s
keep s t r true (suc k) = got (spelt t) (state s.nodes_left k (s.text_left - length t) r)

-- A spelling's bytes: 10 at its first bit where they are cut short.
abbrev pub take_letters : State → Row → Result
take_letters s cut = stop_at bad_key s
take_letters s (row t r) = keep s t r (leb (length t) s.text_left) s.names_left

-- A spelling's length: 10 where it is cut short or 0; length and bytes are one field.
abbrev pub take_length : State → Field → Result
take_length s short = stop_at bad_key s
take_length s (field zero r) = stop_at bad_key s
take_length s (field (suc n) r) = take_letters s (take_bytes (suc n) r)

-- A spelling whose length has w bits.
abbrev pub take_spelling : ℕ → State → Result
take_spelling w s = take_length s (take_field w s.bits)

-- A node takes one of the nodes left, and 8 is met where there is none (Refusal numbers).
abbrev pub take_room : State → ℕ → (ℕ → Result) → ℕ → Result
take_room s t k zero = stop_at no_room s
take_room s t k (suc n) = into (node t) (k n)

-- A value of a form, its fields in order, by a way to take nodes.
abbrev pub take_form : (ℕ → State → Result) → Form → State → Result
take_form X never s = stop_at bad_key s
take_form X one s = got nothing s
take_form X (word w) s = take_spelling w s
take_form X (choose w x fs) s =
    take_choice w fs s λ k r. into (choice k) (take_form X (fs k) (state s.nodes_left s.names_left s.text_left r))
take_form X (both f g) s = and_then (take_form X f s) λ a q. into (pair a) (take_form X g q)
take_form X (child c) s = X c s

-- A node of a class, with room for h nodes one above the other: it meets 10 at its tag, 6, 8, then its fields in order (Refusal numbers).
abbrev pub take_node : Grammar → ℕ → ℕ → State → Result
take_node G zero c s = take_choice (G.tag_width c) (G.row c) s λ t r. stop_at too_tall s
take_node G (suc h) c s =
    take_choice (G.tag_width c) (G.row c) s
    λ t r. take_room s t (λ n. take_form (take_node G h) (G.row c t) (state n s.names_left s.text_left r)) s.nodes_left
