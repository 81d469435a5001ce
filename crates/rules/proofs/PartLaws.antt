-- Laws of what rules make nodes of: how many nodes is in it, what it weighs, and that it is of the node table.
use mathlib.Core.Path.{◌≡◌, refl, ap, subst}
use mathlib.Core.Bool.{Bool, true, false, not}
use mathlib.Core.List.{List, [], ◌∷◌, ◌++◌}
use Prim.Native.Nat.{ℕ, zero, suc, ◌+◌, ◌≤◌, ◌<◌}
use mathlib.Core.Logic.{⊎_elim}
use native.Mathlib.Nat.{eq-or-lt_of_le}
use native.Mathlib.Omega.{arith}
use borrow.Author.Tests.{leb-true}
use lib.Dec.{eqb, leb}
use lib.ListN.{length}
use Rattle.words.specs.Test.{◌and◌, ◌or◌, between, among, test}
use Rattle.words.specs.Kind.{NumberLiteral, BigIntLiteral, Str, Dot, Any, Unknown, True, False, Null, This, Void}
use Rattle.keys.specs.Form.{Value, node as nodeValue, Fits, fits_child}
use Rattle.keys.specs.Table.{type, element, under_name}
use Rattle.keys.specs.Placed as node
use Rattle.keys.specs.Placed.{Placed, void, said, pick, join, tree, bare, Spelling, Opt, absent, present, optional_if, as_element}
use Rattle.keys.specs.Key.{node_table}
use Rattle.keys.proofs.Fitting.{Is, IsSpelling, Each, IfAny}
use Rattle.keys.proofs.Makers as makers
use Rattle.rules.specs.State.{Given, State, kind, kind_after, stands, first, end, spelling}
use Rattle.rules.specs.List.{position}
use Rattle.rules.specs.Function.{subject}
use Rattle.rules.specs.Object.{key_sort}
use Rattle.rules.specs.Primary.{keywords, literals, negated, is_keyword}
use Rattle.rules.proofs.TokenLaws.{both_true, among_each}
use Rattle.rules.proofs.Gives.{size_of, weight_of}

-- ---- Sizes

-- Names are no nodes.
pub names_size : (l : List Spelling) → size_of (node.listed_names l) ≡ 0
names_size [] = refl
names_size (x ∷ l) = omega (arith, names_size l)

pub subject_size : (o : Opt Spelling) → size_of (node.subject_of o) ≡ 0
subject_size absent = refl
subject_size (present x) = refl

-- ---- Weights

-- One name more.
pub names_weight : (l : List Spelling) (x : Spelling) → weight_of (node.listed_names (l ++ (x ∷ []))) ≡ weight_of (node.listed_names l) + (2 + length x.1)
names_weight [] x = omega arith
names_weight (y ∷ l) x = omega (arith, names_weight l x)

-- A predicate's subject weighs no more than if it were a name.
pub subject_weight : (g : Given) (s : State) → weight_of (node.subject_of (subject g s)) ≤ 4 + length (spelling g s).1
subject_weight g s = by (stands g This s)
  where
    by : (b : Bool) → weight_of (node.subject_of (test b (λ _. absent) (λ _. present (spelling g s)))) ≤ 4 + length (spelling g s).1
    by true = omega arith
    by false = omega arith

-- A literal weighs no more than if it kept its spelling.
pub literal_weight : (k : ℕ) (x : Spelling) → weight_of (node.literal_spelling (test (among (True ∷ False ∷ []) k) (λ _. absent) (λ _. present x))) ≤ 2 + length x.1
literal_weight k x = by (among (True ∷ False ∷ []) k)
  where
    by : (b : Bool) → weight_of (node.literal_spelling (test b (λ _. absent) (λ _. present x))) ≤ 2 + length x.1
    by true = omega arith
    by false = omega arith

-- ---- Keys

-- A key is of one of three sorts.
pub key_sort_lem : (k : ℕ) → key_sort k < 3
key_sort_lem k = by (eqb k Str) (eqb k NumberLiteral)
  where
    by : (a b : Bool) → test a (λ _. 1) (λ _. test b (λ _. 2) (λ _. 0)) < 3
    by true b = omega arith
    by false true = omega arith
    by false false = omega arith

-- ---- Elements and pieces

-- An element has the height, the nodes and the weight of the type that it comes from.
pub element_size : (m : Value → ℕ) → ((t u : ℕ) (v : Value) → m (nodeValue t v) ≡ m (nodeValue u v)) → (p : Placed) → m (bare (as_element p)) ≡ m (bare p)
element_size m e void = refl
element_size m e (said x y) = refl
element_size m e (pick k q) = refl
element_size m e (join a b) = refl
element_size m e (tree t first end q) = by (eqb t 24)
  where
    by : (b : Bool) → m (bare (optional_if b (tree t first end q))) ≡ m (nodeValue t (bare q))
    by true = e 20 t (bare q)
    by false = refl

-- An element that comes from a type may stand under a name.
pub as_under_name : (p : Placed) → Is type p → Is under_name (as_element p)
as_under_name void i = makers.type_under_name i
as_under_name (said x y) i = makers.type_under_name i
as_under_name (pick k q) i = makers.type_under_name i
as_under_name (join a b) i = makers.type_under_name i
as_under_name (tree t first end q) i = by (eqb t 24) (makers.as_element_is (tree t first end q) i)
  where
    inner : {v : Value} → Fits node_table element (nodeValue 20 v) → Fits node_table type v
    inner (fits_child a b) = b

    by : (b : Bool) → Is element (optional_if b (tree t first end q)) → Is under_name (optional_if b (tree t first end q))
    by true j = makers.optional_under_name first end (record { fits = inner j.fits })
    by false j = makers.type_under_name i

pub pieces_more : (l : List (Placed × Spelling)) (p : Placed × Spelling) → node.pieces (l ++ (p ∷ [])) ≡ node.pieces l ++ (join p.0 (node.spell p.1) ∷ [])
pieces_more [] p = refl
pieces_more (x ∷ l) p = ap (λ (r : List Placed). join x.0 (node.spell x.1) ∷ r) (pieces_more l p)

-- ---- Keywords, literals, predicates

-- n numbers from a on.
abbrev from : ℕ → ℕ → List ℕ
from a zero = []
from a (suc n) = a ∷ from (suc a) n

-- What holds of each of them holds of any number in their range.
range_each : (P : ℕ → Type 0) (n a k : ℕ) → Each P (from a n) → a ≤ k → k < a + n → P k
range_each P zero a k h l m = absurd (omega arith)
range_each P (suc n) a k h l m = ⊎_elim (λ e. subst P e h.0) (λ i. range_each P n (suc a) k h.1 i (omega arith)) (eq-or-lt_of_le l)

pub keyword_below : (g : Given) (s : State) → is_keyword g s ≡ true → position (kind g s) keywords < 13
keyword_below g s e = by (between Any Unknown (kind g s)) refl e
  where
    by : (b : Bool) → between Any Unknown (kind g s) ≡ b → ((b and not (eqb (kind_after g 1 s) Dot)) or among (Null ∷ Void ∷ []) (kind g s)) ≡ true
        → position (kind g s) keywords < 13
    by true i j =
        let k = kind g s in
        let ends = both_true (leb Any k) (leb k Unknown) i in
        range_each (λ (k : ℕ). position k keywords < 13) 10 Any k
        (omega arith, (omega arith, (omega arith, (omega arith, (omega arith, (omega arith, (omega arith, (omega arith, (omega arith, (omega arith, tt))))))))))
        (leb-true Any k ends.0) (omega (arith, leb-true k Unknown ends.1))
    by false i j = among_each (λ (k : ℕ). position k keywords < 13) (Null ∷ Void ∷ []) (kind g s) (omega arith, (omega arith, tt)) j

pub literal_size : (k : ℕ) (x : Spelling) → size_of (node.literal_spelling (test (among (True ∷ False ∷ []) k) (λ _. absent) (λ _. present x))) ≡ 0
literal_size k x = by (among (True ∷ False ∷ []) k)
  where
    by : (b : Bool) → size_of (node.literal_spelling (test b (λ _. absent) (λ _. present x))) ≡ 0
    by true = refl
    by false = refl

pub literal_fits : (b e k : ℕ) {x : Spelling} → IsSpelling x → among literals k ≡ true
    → Is type (node.literal b e (position k literals) (test (among (True ∷ False ∷ []) k) (λ _. absent) (λ _. present x)))
literal_fits b e k {x} h i =
    among_each (λ (k : ℕ). Is type (node.literal b e (position k literals) (test (among (True ∷ False ∷ []) k) (λ _. absent) (λ _. present x)))) literals k (
      makers.literal_is b e 0 (omega arith) refl h,
      (
        makers.literal_is b e 1 (omega arith) refl h,
        (
          makers.literal_is b e 2 (omega arith) refl h,
          (makers.truth_is b e 3 (omega arith) refl, (makers.truth_is b e 4 (omega arith) refl, tt)),
        ),
      ),
    )
    i

pub negative_fits : (b e k : ℕ) {x : Spelling} → IsSpelling x → among (NumberLiteral ∷ BigIntLiteral ∷ []) k ≡ true → Is type (node.literal b e (negated k) (present x))
negative_fits b e k {x} h i =
    among_each (λ (k : ℕ). Is type (node.literal b e (negated k) (present x))) (NumberLiteral ∷ BigIntLiteral ∷ []) k
    (makers.literal_is b e 5 (omega arith) refl h, (makers.literal_is b e 6 (omega arith) refl h, tt)) i

pub asserted : (b e : ℕ) (x : Opt Spelling) (t : Opt Placed) → IfAny IsSpelling x → IfAny (Is type) t → Is type (node.predicate b e true x t)
asserted b e x absent h i = makers.asserts_is b e x h
asserted b e x (present t) h i = makers.predicate_is b e true x h i
