-- Tuples and their elements (01, "Reading rules": tuple element, Diagnostics 4 to 7; 02, W6; types.rs, parse_tuple_element).
use Rattle.std.specs.Prelude.{Bool, true, not, List, [], ◌∷◌, eqb, length}
use Rattle.words.specs.Test.{◌and◌, ◌or◌, test}
use Rattle.words.specs.Kind.{LBrack, RBrack, Question, Colon, Dot3}
use Rattle.words.specs.Class as class
use Rattle.keys.specs.Placed as node
use Rattle.keys.specs.Placed.{Placed, Opt, absent, present, first_of, end_of, is_optional, is_rest, is_named_asked, is_asked, as_element}
use Rattle.rules.specs.Notes.{note, note_both, required_after_optional, rest_after_label, asked_after_label, optional_and_rest}
use Rattle.rules.specs.State.{Given, State, Result, read, Reader, then, next, kind, kind_after, stands, first, end, spelling, past, expect, make, report_if}
use Rattle.rules.specs.List.{list}

-- an optional element, with or without a label
abbrev pub is_optional_element : Placed → Bool
is_optional_element t = is_optional t or is_named_asked t

-- the latest optional one of an earlier one and the elements from here on
abbrev pub latest_from : Opt Placed → List Placed → Opt Placed
latest_from o [] = o
latest_from o (t ∷ l) = latest_from (test (is_optional_element t) (λ _. present t) (λ _. o)) l

-- the latest optional one among the elements
abbrev pub latest_optional : List Placed → Opt Placed
latest_optional l = latest_from absent l

-- diagnostic 4 for e where it is neither optional nor a rest, at it and at the latest optional one before it
abbrev pub report_required : Given → Opt Placed → Placed → State → Result Placed
report_required g absent e s = read e s
report_required g (present o) e s =
    report_if (not (is_optional_element e) and not (is_rest e)) g (note_both required_after_optional (first_of e) (end_of e) (first_of o) (end_of o)) s (read e)

-- tuple element: a label stands here, with its colon or question mark and colon
abbrev pub labelled : Given → State → Bool
labelled g s =
    class.name (kind g s) and (eqb (kind_after g 1 s) Colon or (eqb (kind_after g 1 s) Question and eqb (kind_after g 2 s) Colon))

module _ (g : Given) (T : Reader) where
  -- tuple element: the node of a member whose type t stood from `type` to q; diagnostics 5 and 6 for dots and `?` there
  unfoldable pub member_node : State → State → Bool → Placed → State → Result Placed
  member_node label type question t q =
      then (make g [] (node.named (first g label) (end g q) (spelling g label) question (as_element t)) q) λ e q.
      report_if (stands g Dot3 type) g (note rest_after_label (first g type) (end g q)) q λ q.
      report_if (is_asked t) g (note asked_after_label (first g type) (end g q)) q λ q.
      read e q

  -- tuple element: a label and its type; dots before the type leave no node
  unfoldable pub member : State → Result Placed
  member s =
      expect g Colon (past g Question (next s)) λ p.
      then (T true (past g Dot3 p)) λ t q.
      member_node s p (stands g Question (next s)) t q

  -- tuple element: a member as a rest; diagnostic 7 if it is optional too
  unfoldable pub rest_of : State → Placed → State → Result Placed
  rest_of s e q =
      report_if (stands g Question (next (next s))) g (note optional_and_rest (first g s) (end g q)) q λ q.
      make g [] (node.rest (first g s) (end g q) e) q

  -- tuple element: a member, or a rest about one
  unfoldable pub labelled_element : State → Result Placed
  labelled_element s =
      then (member (past g Dot3 s)) λ e q.
      test (stands g Dot3 s) (λ _. rest_of s e q) λ _.
      read e q

  -- tuple element: a member, a rest about a type, or a type, of which a `?` node is an optional element
  unfoldable pub element : State → Result Placed
  element s =
      test (labelled g (past g Dot3 s)) (λ _. labelled_element s) λ _.
      then (T true (past g Dot3 s)) λ t q.
      test (stands g Dot3 s) (λ _. make g [] (node.rest (first g s) (end g q) t) q) λ _.
      read (as_element t) q

  -- tuple element: one behind those of l, which may have to be reported
  unfoldable pub checked_element : List Placed → State → Result Placed
  checked_element l s =
      then (element s) λ e q.
      report_required g (latest_optional l) e q

  -- tuple: its elements in square brackets
  unfoldable pub tuple : State → Result Placed
  tuple s =
      expect g LBrack s λ q.
      then (list g RBrack checked_element q) λ l q.
      make g (length l ∷ []) (node.tuple (first g s) (end g q) l) q
