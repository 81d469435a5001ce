-- A token that is a whole type is all that an intersection reads there.
use mathlib.Core.Path.{◌≡◌, refl, sym, ap, ◌∙◌}
use mathlib.Core.Bool.{Bool, true, false, not}
use mathlib.Core.List.{List, [], ◌∷◌}
use Prim.Native.Nat.{ℕ, ◌+◌}
use native.Mathlib.Omega.{arith}
use borrow.Author.Tests.{not-true}
use lib.Dec.{eqb, leb, ltb}
use Rattle.words.specs.Limits.{tallest}
use Rattle.words.specs.Test.{◌and◌, ◌or◌, between, among, test}
use Rattle.words.specs.Kind.{Word, NumberLiteral, BigIntLiteral, Str, LBrack, LAngle, ShiftLeft, LtEq, ShiftLeftEq, Amp, Question, Dot, Bang, Any, Unknown, Infer, Minus, NoSubstitutionTemplate, False, Null, This, True, Void}
use Rattle.words.proofs.Tests.{both_true, among_next}
use Rattle.keys.specs.Form.{height}
use Rattle.keys.specs.Placed as node
use Rattle.keys.specs.Placed.{Placed, Spelling, absent, bare, join, listed_names, maybe_list}
use Rattle.rules.specs.State.{Given, State, Result, Reader, read, refuse, next, kind, kind_after, stands, on_line, first, end, spelling, overlong, make}
use Rattle.rules.specs.Union.{joined, intersection}
use Rattle.rules.specs.Operator.{operators, operator, operator_from, operand}
use Rattle.rules.specs.Postfix.{suffixed, postfix_from, postfix}
use Rattle.rules.specs.Names.{name, dots_from, dotted}
use Rattle.rules.specs.Arguments.{opens, arguments, named}
use Rattle.rules.specs.Primary.{literals, is_keyword, keyword, literal, primary, worded, enclosed, reference}
use Rattle.rules.proofs.KeysOnly.{not_kind, every, every_among}
use Rattle.marks.specs.Laid.{name_run, Shape}
use Rattle.primaries.specs.Lone.{word_types, whole_types, onward_kinds, is_lone}
use Rattle.primaries.specs.Onward.{literal_at}
use Rattle.primaries.specs.Primary.{is_literal}

-- ---- Tests

-- A test of two parts fails where its second does.
and_not : (a : Bool) {b : Bool} → b ≡ false → a and b ≡ false
and_not true e = e
and_not false e = refl

-- ---- Where a reading ends

-- If it reads, it ends at a token that stands whole.
abbrev pub EndsAt : ℕ → Result Placed → Type 0
EndsAt i (read t q) = (q.at ≡ i) × (q.half ≡ 0)
EndsAt i (refuse n j h) = Unit {0}

pub make_ends : (g : Given) (l : List ℕ) (t : Placed) (q : State) → q.half ≡ 0 → EndsAt q.at (make g l t q)
unfolding make
make_ends g l t q w = by (overlong l) (ltb tallest (height (bare t))) (leb g.room q.nodes)
  where
    by : (x y z : Bool)
        → EndsAt q.at (test x (λ _. refuse 7 q.at q.half) λ _. test y (λ _. refuse 6 q.at q.half) λ _. test z (λ _. refuse 8 q.at q.half) λ _.
        read t (record { at = q.at; half = q.half; nodes = q.nodes + 1; notes = q.notes; tally = q.tally }))
    by true y z = tt
    by false true z = tt
    by false false true = tt
    by false false false = (refl, w)

module _ (g : Given) (T : Reader) (s : State) (lone : is_lone (kind g s) (kind_after g 1 s) ≡ true) where
  whole : among whole_types (kind g s) ≡ true
  whole = (both_true (among whole_types (kind g s)) _ lone).0

  behind : among onward_kinds (kind_after g 1 s) ≡ false
  behind = not-true _ (both_true (among whole_types (kind g s)) _ lone).1

  -- A whole type is of no other kind.
  is_not : (k : ℕ) → every (λ n. not (eqb n k)) whole_types ≡ true → stands g k s ≡ false
  is_not k e = not-true _ (every_among (λ n. not (eqb n k)) whole_types (kind g s) e whole)

  -- Behind it stands nothing that goes on.
  module _ (q : State) (e : q.at ≡ s.at + 1) (w : q.half ≡ 0) where
    next_kind_lem : kind g q ≡ kind_after g 1 s
    next_kind_lem = rw (e, w)

    next_not : (k : ℕ) → among onward_kinds k ≡ true → stands g k q ≡ false
    next_not k i = ap (λ n. eqb n k) next_kind_lem ∙ not_kind (among onward_kinds) k (kind_after g 1 s) i behind

    not_suffixed : suffixed g q ≡ false
    not_suffixed = and_not (on_line g q) (rw (next_not Bang refl, next_not Question refl, next_not LBrack refl))

    not_opened : opens g q ≡ false
    not_opened = and_not (on_line g q) (and_not (eqb q.half 0) (rw (next_not LAngle refl, next_not ShiftLeft refl, next_not LtEq refl, next_not ShiftLeftEq refl)))

  -- What a primary type comes to there is what an intersection does.
  pub lone_is : (on : Bool) (x : Result Placed) → primary g T s ≡ x → EndsAt (s.at + 1) x → intersection g T on s ≡ x
  unfolding intersection joined operator operator_from operand postfix postfix_from
  lone_is on (refuse n i h) e w = rw (is_not Amp refl, no_operator, is_not Infer refl, e)
    where
      no_operator : among operators (kind g s) ≡ false
      no_operator = not-true _ (every_among (λ n. not (among operators n)) whole_types (kind g s) refl whole)
  lone_is on (read t q) e w = rw (is_not Amp refl, no_operator, is_not Infer refl, e, not_suffixed q w.0 w.1, next_not q w.0 w.1 Amp refl)
    where
      no_operator : among operators (kind g s) ≡ false
      no_operator = not-true _ (every_among (λ n. not (among operators n)) whole_types (kind g s) refl whole)

  -- ---- A keyword

  pub lone_keyword : (on : Bool) → among word_types (kind g s) ≡ true → intersection g T on s ≡ keyword g s
  unfolding primary keyword
  lone_keyword on k = lone_is on (keyword g s) (rw is) (make_ends g [] _ (next s) refl)
    where
      no_dot : eqb (kind_after g 1 s) Dot ≡ false
      no_dot = not_kind (among onward_kinds) Dot (kind_after g 1 s) refl behind

      by : (a b : Bool) → a or b ≡ true → (a and true) or b ≡ true
      by true b e = refl
      by false b e = e

      is : is_keyword g s ≡ true
      is =
          rw no_dot (by (between Any Unknown (kind g s)) (among (Null ∷ Void ∷ []) (kind g s))
          (every_among (λ n. between Any Unknown n or among (Null ∷ Void ∷ []) n) word_types (kind g s) refl k))

  -- ---- A literal

  pub lone_literal : (on : Bool) → among literals (kind g s) ≡ true → intersection g T on s ≡ literal_at g s
  unfolding primary literal literal_at
  lone_literal on l = lone_is on (literal_at g s) (rw (not_range, not_null, off This refl, l, off NoSubstitutionTemplate refl, off Minus refl)) (rw (off NoSubstitutionTemplate refl, off Minus refl) (make_ends g [] _ (next s) refl))
    where
      off : (k : ℕ) → every (λ n. not (eqb n k)) literals ≡ true → stands g k s ≡ false
      off k e = not-true _ (every_among (λ n. not (eqb n k)) literals (kind g s) e l)

      not_range : between Any Unknown (kind g s) ≡ false
      not_range = not-true _ (every_among (λ n. not (between Any Unknown n)) literals (kind g s) refl l)

      not_null : among (Null ∷ Void ∷ []) (kind g s) ≡ false
      not_null = not-true _ (every_among (λ n. not (among (Null ∷ Void ∷ []) n)) literals (kind g s) refl l)

  pub literal_here : among literals (kind g s) ≡ true → is_literal g s ≡ true
  literal_here l = rw l

  -- ---- A reference of one name

  pub lone_name : (on : Bool) → kind g s ≡ Word → intersection g T on s ≡ make g [] (node.reference (first g s) (end g (next s)) (spelling g s ∷ []) absent) (next s)
  unfolding primary worded enclosed reference named dotted name dots_from arguments make
  lone_name on k = lone_is on (make g [] one (next s)) (rw (k, no_dot, not_opened (next s) refl refl)) (make_ends g [] one (next s) refl)
    where
      one : Placed
      one = node.reference (first g s) (end g (next s)) (spelling g s ∷ []) absent

      no_dot : eqb (kind_after g 1 s) Dot ≡ false
      no_dot = not_kind (among onward_kinds) Dot (kind_after g 1 s) refl behind

-- Its node.
pub shape_name : (x : Spelling) → Shape 0 1 (join (listed_names (x ∷ [])) (maybe_list absent)) (name_run x) 65
shape_name x = record { same = refl; choices_are = omega arith; allowed_is = tt }

-- ---- What is left by kind

-- It is a keyword if it is neither a name nor a literal.
pub lone_word : (k n : ℕ) → is_lone k n ≡ true → (k ≡ Word → ⊥) → among literals k ≡ false → among word_types k ≡ true
lone_word k n l w h =
    let rest : among whole_types k ≡ among word_types k
    = among_next Word (NumberLiteral ∷ BigIntLiteral ∷ Str ∷ True ∷ False ∷ word_types) k w
    ∙ rw (not_kind (among literals) NumberLiteral k refl h, not_kind (among literals) BigIntLiteral k refl h, not_kind (among literals) Str k refl h, not_kind (among literals) True k refl h, not_kind (among literals) False k refl h) in
    sym rest ∙ (both_true (among whole_types k) _ l).0
