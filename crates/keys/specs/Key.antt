-- The key of a tree, and what taking a key back comes to (01, The two calls; Refusal numbers; The key).
use Rattle.std.specs.Prelude.{Bool, true, false, List, [], ◌∷◌, ◌++◌, ◌≡◌, ℕ, zero, suc, ◌-◌, ◌/◌, ◌%◌, ◌≤◌, leb, eqb, length, replicate}
use Rattle.keys.specs.Bits.{Bits, bits_of_bytes, Row, cut, row, take_bytes}
use Rattle.keys.specs.Form.{Value, nothing, spelt, choice, pair, node, Form, Grammar, height, nodes, names, letters, write, Fits, State, state, Result, got, stop, take_form, take_node}
use Rattle.keys.specs.Limits.{longest_key, tallest, Edition, numbered, newest, too_tall, no_room, bad_key, no_space}
use Rattle.keys.specs.Table.{table, key_form, type}

-- ---- A key's last bits

-- How many bits n bits lack to the byte.
abbrev pub gap : ℕ → ℕ
gap n = (8 - n % 8) % 8

-- Bits, filled up with zeros until they make whole bytes (The key).
abbrev pub padded : Bits → Bits
padded bs = bs ++ replicate (gap (length bs)) false

-- The bytes of a row that was taken.
abbrev pub bytes_in : Row → List ℕ
bytes_in cut = []
bytes_in (row s r) = s

-- Bits as bytes, padded.
abbrev pub bytes_of : Bits → List ℕ
bytes_of bs = bytes_in (take_bytes (length (padded bs) / 8) (padded bs))

-- After the tree: k bits to the byte, a set one is 10 at itself; then no byte, one left over is 10 at its first bit (Refusal numbers).
abbrev pub padding : Value → ℕ → Bits → Result
padding v k [] = got v (state 0 0 0 [])
padding v zero (b ∷ bs) = stop bad_key (length (b ∷ bs))
padding v (suc k) (true ∷ bs) = stop bad_key (length (true ∷ bs))
padding v (suc k) (false ∷ bs) = padding v k bs

-- What was got stands if the bits left are padding.
abbrev pub closed : Result → Result
closed (got v s) = padding v (length s.bits % 8) s.bits
closed (stop n l) = stop n l

-- ---- The outcome of taking back

-- A tree, or a refusal's number and place.
pub data Taken : Type 0 where
  taken : Value → Taken
  refused : ℕ → ℕ → Taken

-- A refusal's place is its bit; that of 11 is 0 (Refusal numbers).
abbrev pub refusal_place : Bool → ℕ → ℕ
refusal_place true bit = 0
refusal_place false bit = bit

-- The tree of a whole key, which is its edition and a tree.
abbrev pub tree_in : Value → Value
tree_in nothing = nothing
tree_in (spelt s) = nothing
tree_in (choice e t) = t
tree_in (pair a b) = nothing
tree_in (node t v) = nothing

-- The outcome, where a key has so many bits in all.
abbrev pub outcome : ℕ → Result → Taken
outcome all (got v s) = taken (tree_in v)
outcome all (stop n l) = refused n (refusal_place (eqb n no_space) (all - l))

-- ---- Keys by any node table, form of the whole and greatest height

-- The bits of a value, padded, as bytes.
abbrev pub bytes_by : Grammar → Form → Value → List ℕ
bytes_by G K v = bytes_of (write G K v)

-- A value at most so high, and then padding.
abbrev pub take_whole : Grammar → Form → ℕ → State → Result
take_whole G K high s = closed (take_form (take_node G high) K s)

-- ---- Keys of an edition
module _ (e : Edition) where
  -- The key of a tree: the edition, then the tree, then zeros to a whole byte (The key).
  abbrev pub key_under : Value → List ℕ
  key_under t = bytes_by (table e) (key_form e) (choice (numbered e) t)

  -- Taking back by whether the key is short enough: too long is 10 at 0 (Refusal numbers).
  abbrev pub take_within : Bool → ℕ → ℕ → ℕ → List ℕ → Taken
  take_within false n k m key = refused bad_key 0
  take_within true n k m key = outcome (length (bits_of_bytes key)) (take_whole (table e) (key_form e) tallest (state n k m (bits_of_bytes key)))

  -- Taking a key back, where there is room for n nodes, k names and m bytes of text (The two calls).
  abbrev pub take_under : ℕ → ℕ → ℕ → List ℕ → Taken
  take_under n k m key = take_within (leb (length key) longest_key) n k m key

-- ---- Our keys, of the newest edition

-- The node table.
abbrev pub node_table : Grammar
node_table = table newest

-- The key of a tree.
abbrev pub key_of : Value → List ℕ
key_of = key_under newest

-- Taking a key back.
abbrev pub take_key : ℕ → ℕ → ℕ → List ℕ → Taken
take_key = take_under newest

-- ---- What the theorems speak of

-- A tree of an edition's node table within the limits.
pub record IsTreeUnder (e : Edition) (t : Value) : Type 0 where
  pub fits : Fits (table e) type t
  pub tall : height t ≤ tallest
  pub short : length (key_under e t) ≤ longest_key

-- A tree of our node table within the limits.
abbrev pub IsTree : Value → Type 0
IsTree = IsTreeUnder newest

-- Room for the nodes, the names and the spellings of a tree.
pub record HasRoom (n k m : ℕ) (t : Value) : Type 0 where
  pub for_nodes : nodes t ≤ n
  pub for_names : length (names t) ≤ k
  pub for_text : letters t ≤ m

-- The bytes are the key, in an edition, of a tree for which there is room.
pub record IsKeyUnder (e : Edition) (n k m : ℕ) (t : Value) (key : List ℕ) : Type 0 where
  pub is_tree : IsTreeUnder e t
  pub has_room : HasRoom n k m t
  pub is : key ≡ key_under e t

-- The same of our keys.
abbrev pub IsKey : ℕ → ℕ → ℕ → Value → List ℕ → Type 0
IsKey = IsKeyUnder newest

-- A refusal that taking back may meet, where the key has so many bits: 6, 8 or 10 at one of them or at their end, 11 at 0.
pub data IsRefusal (all : ℕ) : ℕ → ℕ → Type 0 where
  is_too_tall : {p : ℕ} → p ≤ all → IsRefusal all too_tall p
  is_no_room : {p : ℕ} → p ≤ all → IsRefusal all no_room p
  is_bad_key : {p : ℕ} → p ≤ all → IsRefusal all bad_key p
  is_no_space : IsRefusal all no_space 0
