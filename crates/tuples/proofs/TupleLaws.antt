-- The rules of tuples by the steps in which they are read: an element is what stands before its type, the type, and what it comes to.
use mathlib.Core.Path.{◌≡◌, refl, sym, ap, ◌∙◌}
use mathlib.Core.Bool.{Bool, true, false}
use mathlib.Core.List.{List, [], ◌∷◌, ◌++◌}
use Prim.Native.Nat.{ℕ, ◌+◌, ◌*◌}
use native.Mathlib.Omega.{arith}
use borrow.Author.Tests.{eqb-true}
use lib.Dec.{eqb, leb-zero}
use lib.ListN.{length}
use Rattle.keys.specs.Limits.{tags}
use Rattle.words.specs.Test.{◌and◌, ◌or◌, test}
use Rattle.words.specs.Kind.{LBrack, RBrack, Question, Colon, Dot3}
use Rattle.words.specs.Class as class
use Rattle.words.specs.Cursor.{whole_kind}
use Rattle.keys.specs.Placed as node
use Rattle.keys.specs.Placed.{Placed, Opt, present, listed}
use Rattle.rules.specs.Refusal.{unexpected}
use Rattle.rules.specs.State.{Given, State, Result, Reader, read, refuse, refused, then, next, kind, kind_after, stands, first, end, past, make, turns}
use Rattle.rules.specs.List.{list_from}
use Rattle.rules.specs.List as rule
use Rattle.rules.specs.Tuple as tuple
use Rattle.marks.specs.Laid.{runs, AllNodes, Shape}
use Rattle.marks.proofs.ShapeLaws.{shape_list}
use Rattle.marks.proofs.Answers.{then_read_lem, then_refused, then_then}
use Rattle.tuples.specs.Tuple.{element_start, element_after}

-- ---- Elements

-- Where a label stands its colon stands, behind a `?` or not.
pub label_colon : (g : Given) (s : State) → tuple.labelled g s ≡ true → stands g Colon (past g Question (next s)) ≡ true
label_colon g s = by (class.name (kind g s)) (eqb (kind_after g 1 s) Colon) refl (eqb (kind_after g 1 s) Question) refl
  where
    two : s.at + 2 ≡ s.at + 1 + 1
    two = omega arith

    by : (n c : Bool) → eqb (kind_after g 1 s) Colon ≡ c → (q : Bool) → eqb (kind_after g 1 s) Question ≡ q
        → (n and (c or (q and eqb (kind_after g 2 s) Colon))) ≡ true → stands g Colon (test q (λ _. next (next s)) (λ _. next s)) ≡ true
    by false c i q j h = absurd (let z : ◌≡◌ {A = ℕ} 0 1 = cc in omega arith)
    by true true i true j h = absurd (omega (arith, eqb-true (kind_after g 1 s) Colon i, eqb-true (kind_after g 1 s) Question j))
    by true true i false j h = i
    by true false i true j h = ap (λ (n : ℕ). eqb (whole_kind g.words n) Colon) (sym two) ∙ h
    by true false i false j h = absurd (let z : ◌≡◌ {A = ℕ} 0 1 = cc in omega arith)

module _ (g : Given) (T : Reader) (s : State) where
  -- Where the label of an element would stand.
  abbrev label : State
  label = past g Dot3 s

  -- Where its colon would stand.
  abbrev colon : State
  colon = past g Question (next label)

  -- What a member comes to.
  abbrev behind_member : Placed → State → Result Placed
  behind_member e q = test (stands g Dot3 s) (λ _. tuple.rest_of g T s e q) λ _. read e q

  -- What a type comes to behind a label, and behind none.
  abbrev member_of : Placed → State → Result Placed
  member_of t q = tuple.member_node g T label (next colon) (stands g Question (next label)) t q

  abbrev type_of : Placed → State → Result Placed
  type_of t q = test (stands g Dot3 s) (λ _. make g [] (node.rest (first g s) (end g q) t) q) λ _. read (node.as_element t) q

  -- An element is its start, its type, and what it comes to then.
  pub element_is : tuple.element g T s ≡ then (T true (element_start g s)) (element_after g T s)
  unfolding tuple.element tuple.labelled_element tuple.member
  element_is = by (tuple.labelled g label) refl
    where
      by : (b : Bool) → tuple.labelled g label ≡ b
          → test b (λ _. tuple.labelled_element g T s) (λ _. then (T true label) type_of)
          ≡ then (T true (test b (λ _. past g Dot3 (next colon)) (λ _. label))) (λ t q. test b (λ _. then (member_of t q) behind_member) (λ _. type_of t q))
      by true e =
          ap (λ (c : Bool). then (test c (λ _. then (T true (past g Dot3 (next colon))) member_of) (λ _. refused unexpected colon)) behind_member) (label_colon g label e)
          ∙ then_then (T true (past g Dot3 (next colon))) member_of behind_member
      by false e = refl

module _ (g : Given) (T : Reader) (l : List Placed) (s : State) where
  -- What is reported of an element.
  abbrev behind_element : Placed → State → Result Placed
  behind_element = tuple.report_required g (tuple.latest_optional l)

  -- An element is read, and diagnostic 4 may follow.
  checked_is : tuple.checked_element g T l s ≡ then (tuple.element g T s) behind_element
  unfolding tuple.checked_element
  checked_is = refl

  -- It was read, and the diagnostic reported or not; or either was refused.
  pub checked_read : {e : Placed} {q p : State} → tuple.element g T s ≡ read e q → behind_element e q ≡ read e p → tuple.checked_element g T l s ≡ read e p
  checked_read i k = checked_is ∙ then_read_lem behind_element i ∙ k

  pub checked_full : {e : Placed} {q : State} {n i h : ℕ} → tuple.element g T s ≡ read e q → behind_element e q ≡ refuse n i h → tuple.checked_element g T l s ≡ refuse n i h
  checked_full i k = checked_is ∙ then_read_lem behind_element i ∙ k

  pub checked_refused : {n i h : ℕ} → tuple.element g T s ≡ refuse n i h → tuple.checked_element g T l s ≡ refuse n i h
  checked_refused i = checked_is ∙ then_refused behind_element i

-- The latest optional one of two lists, one behind the other.
pub latest_behind : (o : Opt Placed) (l m : List Placed) → tuple.latest_from o (l ++ m) ≡ tuple.latest_from (tuple.latest_from o l) m
latest_behind o [] m = refl
latest_behind o (t ∷ l) m = latest_behind (test (tuple.is_optional_element t) (λ _. present t) (λ _. o)) l m

-- ---- The tuple

-- At its bracket: its elements, and its node.
pub tuple_is : (g : Given) (T : Reader) (s : State) → kind g s ≡ LBrack
    → tuple.tuple g T s ≡ then (list_from g RBrack (tuple.checked_element g T) (turns g) [] (next s)) λ l q. make g (length l ∷ []) (node.tuple (first g s) (end g q) l) q
unfolding tuple.tuple rule.list
tuple_is g T s e = rw e

-- The node of a tuple has the count of its elements for its choice.
pub tuple_shape : (l : List Placed) → AllNodes 1 l → Shape 0 19 (listed l) (runs 1 l) (19 + tags * length l)
tuple_shape l a = shape_list 19 1 0 l refl tt (leb-zero (length l)) a
