-- Laws of names that stand in the text.
use mathlib.Core.Path.{◌≡◌, refl, sym, ap, ap₂, ◌∙◌}
use mathlib.Core.Bool.{Bool, true, false}
use mathlib.Core.List.{List, [], ◌∷◌, ◌++◌, append_assoc, append-nil}
use Prim.Native.Nat.{ℕ, ◌+◌, ◌*◌, ◌/◌, ◌%◌, ◌^◌, ◌<◌}
use native.Mathlib.Omega.{arith}
use lib.Dec.{eqb}
use lib.ListN.{length, take, drop}
use Rattle.words.specs.Test.{among, test}
use Rattle.words.specs.Kind.{True, False, This}
use Rattle.words.specs.Word.{start, size}
use Rattle.words.specs.Cursor.{word_at}
use Rattle.words.specs.Check.{part}
use Rattle.keys.specs.Form.{Form, Grammar, names, left, right, branch, class}
use Rattle.keys.specs.Key.{node_table}
use Rattle.keys.specs.Table.{type}
use Rattle.keys.specs.Placed as node
use Rattle.keys.specs.Placed.{Placed, void, said, pick, join, tree, bare, entries, optional_if, as_element, Spelling, absent, present}
use Rattle.keys.specs.Store.{Run, done, plant, name_of, names_in, names_of, pointed, all_pointed}
use Rattle.rules.specs.State.{Given, State, spelling, stands}
use Rattle.rules.specs.Function.{subject}
use Rattle.rules.specs.Told.{Told}
use Rattle.rules.proofs.TokenLaws.{Checked, text_few, word_inside, word_sized}

-- ---- The spelling of a token

pointed_part : (text : List ℕ) (x n : ℕ) → length (part text x n) ≡ n → n < 2 ^ 32 → pointed text (name_of x (part text x n)) ≡ part text x n
pointed_part text x n e h =
    let low : (x * 2 ^ 32 + length (part text x n)) % 2 ^ 32 ≡ n = omega (arith, e) in
    let high : (x * 2 ^ 32 + length (part text x n)) / 2 ^ 32 ≡ x = omega (arith, e) in
    ap₂ (λ (a b : ℕ). take a (drop b text)) low high

pub told_here : (g : Given) → Checked g → (s : State) → Told g.text (node.spell (spelling g s))
told_here g c s =
    let w = word_at g.words s.at in
    pointed_part g.text (start w) (size w) (word_sized g.text g.words c.start c.sound s.at)
    (omega (arith, word_inside g.text g.words c.start c.sound s.at, text_few g.text g.words c.start c.sound))

pub told_subject : (g : Given) → Checked g → (s : State) → Told g.text (node.subject_of (subject g s))
told_subject g c s = by (stands g This s)
  where
    by : (b : Bool) → Told g.text (node.subject_of (test b (λ _. absent) (λ _. present (spelling g s))))
    by true = tt
    by false = told_here g c s

pub told_literal : (g : Given) → Checked g → (s : State) (k : ℕ) → Told g.text (node.literal_spelling (test (among (True ∷ False ∷ []) k) (λ _. absent) (λ _. present (spelling g s))))
told_literal g c s k = by (among (True ∷ False ∷ []) k)
  where
    by : (b : Bool) → Told g.text (node.literal_spelling (test b (λ _. absent) (λ _. present (spelling g s))))
    by true = tt
    by false = told_here g c s

-- ---- Lists and elements

pub told_more : (text : List ℕ) (l : List Placed) (t : Placed) → Told text (entries l) → Told text t → Told text (entries (l ++ (t ∷ [])))
told_more text [] t a b = (b, tt)
told_more text (u ∷ l) t a b = (a.0, told_more text l t a.1 b)

pub told_names : (text : List ℕ) (l : List Spelling) (x : Spelling) → Told text (node.listed_names l) → Told text (node.spell x) → Told text (node.listed_names (l ++ (x ∷ [])))
told_names text [] x a b = (b, tt)
told_names text (y ∷ l) x a b = (a.0, told_names text l x a.1 b)

pub told_element : (text : List ℕ) (p : Placed) → Told text p → Told text (as_element p)
told_element text void a = a
told_element text (said x s) a = a
told_element text (pick k p) a = a
told_element text (join p q) a = a
told_element text (tree t first end p) a = by (eqb t 24)
  where
    by : (b : Bool) → Told text (optional_if b (tree t first end p))
    by true = a
    by false = a

-- ---- The names of a tree

pointed_append : (text xs ys : List ℕ) → all_pointed text (xs ++ ys) ≡ all_pointed text xs ++ all_pointed text ys
pointed_append text [] ys = refl
pointed_append text (x ∷ xs) ys = ap (λ (l : List (List ℕ)). pointed text x ∷ l) (pointed_append text xs ys)

planted : (text : List ℕ) (G : Grammar) (f : Form) (p : Placed) (r : Run) → Told text p → all_pointed text (names_in (plant G f p r)) ≡ names (bare p) ++ all_pointed text (names_in r)
planted text G f void r h = refl
planted text G f (said x s) r h = ap (λ (u : List ℕ). u ∷ all_pointed text (names_in r)) h
planted text G f (pick k p) r h = planted text G (branch f k) p r h
planted text G f (join a b) r h =
    planted text G (left f) a (plant G (right f) b r) h.0
    ∙ ap (λ (l : List (List ℕ)). names (bare a) ++ l) (planted text G (right f) b r h.1)
    ∙ sym (append_assoc (names (bare a)) (names (bare b)) (all_pointed text (names_in r)))
planted text G f (tree t first end p) r h =
    pointed_append text (names_in (plant G (G.row (class f) t) p done)) (names_in r)
    ∙ ap (λ (l : List (List ℕ)). l ++ all_pointed text (names_in r)) (planted text G (G.row (class f) t) p done h ∙ append-nil (names (bare p)))

-- The name words of a tree point at its spellings, in order.
pub names_told : (text : List ℕ) (p : Placed) → Told text p → all_pointed text (names_of p) ≡ names (bare p)
names_told text p h = planted text node_table type p done h ∙ append-nil (names (bare p))
