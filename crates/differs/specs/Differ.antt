-- The call that says what differs between two keys, whole: its answer and the final content of the list it is lent (02, W9).
use Rattle.std.specs.Prelude.{Bool, true, false, List, [], ◌∷◌, ℕ, suc, ◌*◌, ◌/◌, ◌≤◌, leb, length}
use Rattle.keys.specs.Form.{Value, Grammar}
use Rattle.keys.specs.Key.{Taken, taken, refused, node_table, take_key}
use Rattle.keys.specs.Store.{filled}
use Rattle.differs.specs.Content.{Content, chooses, spells, enters, content_of, Pair, differences}

-- ---- Is it a key?

-- Taking back with room enough: a node and a name have a bit at least, and a letter has eight.
abbrev pub checked : List ℕ → Taken
checked key = take_key (length key * 8) (length key * 8) (length key) key

-- ---- The list

-- The words of a pair.
abbrev pub pair_words : ℕ
pair_words = 2

-- Pairs as words: left bit, right bit.
abbrev pub words_of : List Pair → List ℕ
words_of [] = []
words_of (p ∷ l) = p.0 ∷ p.1 ∷ words_of l

-- ---- The call

-- 29: more pairs than the list has room for.
abbrev pub many_differences : ℕ
many_differences = 29

-- The side of a refusal that is neither key's.
abbrev pub no_side : ℕ
no_side = 0

-- The side of the left key's refusal.
abbrev pub left_side : ℕ
left_side = 1

-- The side of the right key's.
abbrev pub right_side : ℕ
right_side = 2

-- What the call answers: how many pairs there are; or a refusal's number, side and bit.
pub data Answer : Type 0 where
  found : ℕ → Answer
  no : (number side bit : ℕ) → Answer

-- The answer and the final content of the lent list.
pub record Differed : Type 0 where
  pub answer : Answer
  pub list : List ℕ

-- With a list of n words. After a refusal all of it is zero.
module _ (n : ℕ) where
  -- A refusal.
  abbrev pub declined : (number side bit : ℕ) → Differed
  declined number side bit = record { answer = no number side bit; list = filled n [] }

  -- The pairs where there is room for all, else 29.
  abbrev pub reported : Bool → List Pair → Differed
  reported true l = record { answer = found (length l); list = filled n (words_of l) }
  reported false l = declined many_differences no_side 0

  -- The pairs of two trees, each in a key of its own edition.
  abbrev pub compared : (G H : Grammar) (t u : Value) → Differed
  compared G H t u =
      let l = differences (content_of G t) (content_of H u) in
      reported (leb (length l) (n / pair_words)) l

  -- The left key is a tree's; then the right key.
  abbrev pub besides : Value → Taken → Differed
  besides t (taken u) = compared node_table node_table t u
  besides t (refused number bit) = declined number right_side bit

  -- The left key first.
  abbrev pub begins : Taken → (right : List ℕ) → Differed
  begins (taken t) right = besides t (checked right)
  begins (refused number bit) right = declined number left_side bit

  -- What differs between two keys.
  abbrev pub differ : (left right : List ℕ) → Differed
  differ left right = begins (checked left) right

-- ---- What the theorems speak of

-- Pairs with their sides exchanged.
abbrev pub turned : List Pair → List Pair
turned [] = []
turned (p ∷ l) = (p.1, p.0) ∷ turned l

-- The pairs rise strictly on both sides, from bits a and b on, and keep below e and g.
pub data Rises : (a b : ℕ) → List Pair → (e g : ℕ) → Type 0 where
  no_more : {a b e g : ℕ} → a ≤ e → b ≤ g → Rises a b [] e g
  one_more : {a b x y e g : ℕ} {l : List Pair} → a ≤ x → b ≤ y → Rises (suc x) (suc y) l e g → Rises a b ((x, y) ∷ l) e g

-- A bit at which a spelling or a node of a content begins, or one of a node inside it.
pub data Place (x : ℕ) : Content → Type 0 where
  at_spelling : {s : List ℕ} {c : Content} → Place x (spells x s c)
  at_node : {u c : Content} → Place x (enters x u c)
  in_node : {a : ℕ} {u c : Content} → Place x u → Place x (enters a u c)
  past_choice : {k : ℕ} {c : Content} → Place x c → Place x (chooses k c)
  past_spelling : {a : ℕ} {s : List ℕ} {c : Content} → Place x c → Place x (spells a s c)
  past_node : {a : ℕ} {u c : Content} → Place x c → Place x (enters a u c)

-- Each pair is of a place of the left content and one of the right.
pub data Places (c d : Content) : List Pair → Type 0 where
  no_place : Places c d []
  one_place : {x y : ℕ} {l : List Pair} → Place x c → Place y d → Places c d l → Places c d ((x, y) ∷ l)
