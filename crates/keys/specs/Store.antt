-- What the lent words hold of a tree, and the whole call that takes a key back (01, The two calls).
use Rattle.std.specs.Prelude.{◌≡◌, List, [], ◌∷◌, ◌++◌, ℕ, ◌+◌, ◌-◌, ◌*◌, ◌/◌, ◌%◌, ◌^◌, length, take, drop, replicate}
use Rattle.keys.specs.Form.{Value, nothing, spelt, choice, pair, node, Form, Grammar, store_width, branch, left, right, class, nodes, names, letters}
use Rattle.keys.specs.Limits.{record_words, half_word}
use Rattle.keys.specs.Table.{type}
use Rattle.keys.specs.Placed.{Placed, void, said, pick, join, tree, laid}
use Rattle.keys.specs.Key.{Taken, taken, refused, take_key, node_table, IsKey}

-- ---- A node as the run of what it holds

-- What a node holds in the key's order: a choice and its width there, a name with its start and bytes, a child with its first and end byte.
pub data Run : Type 0 where
  done : Run
  chose : (wide number : ℕ) → Run → Run
  name : (start : ℕ) → List ℕ → Run → Run
  kid : (first end : ℕ) → Run → Run → Run

infixr 5 ◌⊕◌
-- A run and then another.
abbrev pub ◌⊕◌ : Run → Run → Run
done ⊕ r = r
chose w k a ⊕ r = chose w k (a ⊕ r)
name x s a ⊕ r = name x s (a ⊕ r)
kid first end b a ⊕ r = kid first end b (a ⊕ r)

module _ (G : Grammar) where
  -- What a value of a form puts into its node, before the run r; a node's first choice is its tag.
  abbrev pub plant : Form → Placed → Run → Run
  plant f void r = r
  plant f (said x s) r = name x s r
  plant f (pick k p) r = chose (store_width f) k (plant (branch f k) p r)
  plant f (join a b) r = plant (left f) a (plant (right f) b r)
  plant f (tree t first end p) r = kid first end (chose (G.tag_width (class f)) t (plant (G.row (class f) t) p done)) r

-- How many nodes stand under a node.
abbrev pub under : Run → ℕ
under done = 0
under (chose w k r) = under r
under (name x s r) = under r
under (kid first end a r) = under a + 1 + under r

-- How many names stand in a node and under it.
abbrev pub called : Run → ℕ
called done = 0
called (chose w k r) = called r
called (name x s r) = 1 + called r
called (kid first end a r) = called a + called r

-- ---- A node's record of four words

-- How many bits a node's own choices have.
abbrev pub span : Run → ℕ
span done = 0
span (chose w k a) = w + span a
span (name x s a) = span a
span (kid first end b a) = span a

-- A node's own choices in one word, the first lowest.
abbrev pub packed : Run → ℕ
packed done = 0
packed (chose w k r) = k + 2 ^ w * packed r
packed (name x s r) = packed r
packed (kid first end a r) = packed r

-- The number of the first child, where the children's nodes are numbered from b; `none` where there is no child.
abbrev pub first_kid : Run → ℕ → ℕ → ℕ
first_kid done b none = none
first_kid (chose w k r) b none = first_kid r b none
first_kid (name x s r) b none = first_kid r b none
first_kid (kid first end a r) b none = b + under a

-- A node's record: its choices; its first and end byte; its first child and its first name m; its next sibling.
abbrev pub record_of : (first end : ℕ) → Run → (b m next : ℕ) → List ℕ
record_of first end a b m next = packed a ∷ (first + half_word * end) ∷ (first_kid a b 0 + half_word * m) ∷ next ∷ []

-- The records under a node in postorder, numbered from b, their names from m; next is the last child's next sibling.
abbrev pub records : Run → (b m next : ℕ) → List ℕ
records done b m next = []
records (chose w k r) b m next = records r b m next
records (name x s r) b m next = records r b (m + 1) next
records (kid first end a r) b m next =
    (records a b m 0 ++ record_of first end a b m (first_kid r (b + under a + 1) next)) ++ records r (b + under a + 1) (m + called a) next

-- A name's word: the start and the length of a spelling.
abbrev pub name_of : ℕ → List ℕ → ℕ
name_of start s = start * half_word + length s

-- The names in a node and under it.
abbrev pub names_in : Run → List ℕ
names_in done = []
names_in (chose w k r) = names_in r
names_in (name x s r) = name_of x s ∷ names_in r
names_in (kid first end a r) = names_in a ++ names_in r

-- ---- The content of the outputs

-- A type as a run with that one child.
abbrev pub run_of : Placed → Run
run_of p = plant node_table type p done

-- The node words of a type: records numbered from 0, the root last.
abbrev pub nodes_of : Placed → List ℕ
nodes_of p = records (run_of p) 0 0 0

-- The name words of a type.
abbrev pub names_of : Placed → List ℕ
names_of p = names_in (run_of p)

-- Its spellings, one after the other.
abbrev pub text_of : Value → List ℕ
text_of nothing = []
text_of (spelt s) = s
text_of (choice k v) = text_of v
text_of (pair a b) = text_of a ++ text_of b
text_of (node t v) = text_of v

-- n bytes of a text.
abbrev pub part : List ℕ → ℕ → ℕ → List ℕ
part text start n = take n (drop start text)

-- The bytes of a text at which a name's word points.
abbrev pub pointed : List ℕ → ℕ → List ℕ
pointed text w = take (w % half_word) (drop (w / half_word) text)

-- The spellings at which name words point.
abbrev pub all_pointed : List ℕ → List ℕ → List (List ℕ)
all_pointed text [] = []
all_pointed text (w ∷ ws) = pointed text w ∷ all_pointed text ws

-- ---- The visits of a tree, for a program that prints it

-- The kind of a visit to a node.
abbrev pub node_visit : ℕ
node_visit = 1

-- The kind of a visit to a choice; a node's first is its tag.
abbrev pub choice_visit : ℕ
choice_visit = 2

-- The kind of a visit to a name.
abbrev pub name_visit : ℕ
name_visit = 3

-- A visit's words: its kind; the number of the node, of the choice, or of the name; how many nodes it stands under.
abbrev pub visit : (kind number depth : ℕ) → List ℕ
visit kind number depth = kind ∷ number ∷ depth ∷ []

-- The visits of what a node holds, in the key's order: nodes are numbered from b, names from m; under a node the depth is one more.
abbrev pub visits : Run → (b m depth : ℕ) → List ℕ
visits done b m depth = []
visits (chose w k r) b m depth = visit choice_visit k depth ++ visits r b m depth
visits (name x s r) b m depth = visit name_visit m depth ++ visits r b (m + 1) depth
visits (kid first end a r) b m depth =
    (visit node_visit (b + under a) depth ++ visits a b m (depth + 1)) ++ visits r (b + under a + 1) (m + called a) depth

-- The visits of a type: first its root, at depth 0.
abbrev pub visits_of : Placed → List ℕ
visits_of p = visits (run_of p) 0 0 0

-- ---- The call

-- What the call answers: the nodes, names and bytes of text used; or a refusal's number and place.
pub data Answer : Type 0 where
  back : (nodes names letters : ℕ) → Answer
  no : (number place : ℕ) → Answer

-- The answer and the final content of each lent output.
pub record TakenBack : Type 0 where
  pub answer : Answer
  pub node_words : List ℕ
  pub name_words : List ℕ
  pub text : List ℕ

-- n words: the part used, then x.
abbrev pub filled_with : {X : Type 0} → X → ℕ → List X → List X
filled_with x n used = used ++ replicate (n - length used) x

-- An output of n words: the part used, then zeros.
abbrev pub filled : ℕ → List ℕ → List ℕ
filled n used = filled_with 0 n used

-- The outputs of a words for nodes, b words for names and c bytes of text: a tree with positions 0 and its spellings copied in order; all zeros on a refusal.
abbrev pub lent : ℕ → ℕ → ℕ → Taken → TakenBack
lent a b c (taken t) =
    record {
      answer = back (nodes t) (length (names t)) (letters t);
      node_words = filled a (nodes_of (laid t 0));
      name_words = filled b (names_of (laid t 0));
      text = filled c (text_of t);
    }
lent a b c (refused n p) = record { answer = no n p; node_words = filled a []; name_words = filled b []; text = filled c [] }

-- Taking back a key: a node needs four words, a name one.
abbrev pub take_back : List ℕ → ℕ → ℕ → ℕ → TakenBack
take_back key a b c = lent a b c (take_key (a / record_words) b c key)

-- ---- What the theorems speak of

-- Every output is as long as it was lent.
pub record Kept (a b c : ℕ) (r : TakenBack) : Type 0 where
  pub nodes_kept : length r.node_words ≡ a
  pub names_kept : length r.name_words ≡ b
  pub text_kept : length r.text ≡ c

-- The bytes are the key of a tree for which there is room, and that tree is what the call leaves.
pub record Left (key : List ℕ) (a b c : ℕ) (r : TakenBack) : Type 0 where
  pub tree : Value
  pub is_key : IsKey (a / record_words) b c tree key
  pub leaves : r ≡ lent a b c (taken tree)
