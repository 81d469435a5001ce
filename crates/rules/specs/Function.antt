-- Function types (01, "Reading rules": Function).
use Rattle.std.specs.Prelude.{ℕ, zero, suc, ◌+◌, Bool, true, false, not, List, [], ◌∷◌, ◌++◌, eqb, length}
use Rattle.words.specs.Test.{◌and◌, test}
use Rattle.words.specs.Kind.{LParen, RParen, Question, Colon, Comma, Dot3, Arrow, Eq, Abstract, Is, New, This}
use Rattle.words.specs.Class as class
use Rattle.words.specs.Cursor.{word_at}
use Rattle.words.specs.Ahead.{modifies}
use Rattle.keys.specs.Placed as node
use Rattle.keys.specs.Placed.{Placed, Spelling, Opt, absent, present}
use Rattle.rules.specs.Refusal.{unexpected, parameter_modifier, default_value, misplaced_this, rest_not_last}
use Rattle.rules.specs.Notes.{note, this_on_constructor}
use Rattle.rules.specs.State.{Given, State, Result, read, Reader, refused, then, next, kind, kind_after, stands, next_on_line, first, end, spelling, turns, past, expect, optional, make, report}
use Rattle.rules.specs.Names.{binding_word}
use Rattle.rules.specs.List.{count}
use Rattle.rules.specs.TypeParameters.{type_parameters}

-- the `this` of a parameter list, which is no node: its first and end byte, its type
pub record ThisParameter : Type 0 where
  pub first : ℕ
  pub end : ℕ
  pub type : Opt Placed

-- parameters: an optional `this`, and the others
pub record Parameters : Type 0 where
  pub this : Opt ThisParameter
  pub list : List Placed

-- parameters by their two parts
abbrev pub parameters_of : Opt ThisParameter → List Placed → Parameters
parameters_of t l = record { this = t; list = l }

-- the type of a `this`, as the node table has it
abbrev pub this_type : Opt ThisParameter → Opt (Opt Placed)
this_type absent = absent
this_type (present t) = present t.type

-- Function: a parameter with a modifier word begins here
abbrev pub modified : Given → State → Bool
modified g s = modifies (word_at g.words s.at) (word_at g.words (s.at + 1))

-- Function: the return type begins as a predicate, with some name and `is` on one line
abbrev pub predicates : Given → State → Bool
predicates g s = class.name (kind g s) and eqb (kind_after g 1 s) Is and next_on_line g s

-- whose predicate it is: a name's, or this
abbrev pub subject : Given → State → Opt Spelling
subject g s = test (stands g This s) (λ _. absent) (λ _. present (spelling g s))

-- what a constructor's `this` took is free again, its diagnostics stay
abbrev pub freed : Bool → State → State → State
freed true s q = record { at = q.at; half = q.half; nodes = s.nodes; notes = q.notes; tally = q.tally }
freed false s q = q

-- after a parameter the list ends or goes on; a default, and a comma that follows a rest, are refused
abbrev pub separated : {A : Type 0} → Given → Bool → State → (State → Result A) → (State → Result A) → Result A
separated g is_rest s close on =
    test (stands g Eq s) (λ _. refused default_value s) λ _.
    test (stands g RParen s) (λ _. close (next s)) λ _.
    test (is_rest and stands g Comma s) (λ _. refused rest_not_last s) λ _.
    expect g Comma s on

-- diagnostic 3 for a constructor's `this`
abbrev pub report_this : {A : Type 0} → Given → Opt ThisParameter → State → (State → Result A) → Result A
report_this g absent s on = on s
report_this g (present t) s on = report g (note this_on_constructor t.first t.end) s on

module _ (g : Given) (T : Reader) where
  -- Function: one parameter, of which only its name must be there
  unfoldable pub parameter : State → Result Placed
  parameter s =
      test (stands g Dot3 s and stands g This (past g Dot3 s)) (λ _. refused misplaced_this (past g Dot3 s)) λ _.
      then (binding_word g (past g Dot3 s)) λ x q.
      then (optional g Colon (T true) (past g Question q)) λ t p.
      make g [] (node.parameter (first g s) (end g p) (stands g Dot3 s) x (stands g Question q) t) p

  -- Function: the parameters from here to the `)`, where l stand before; no modifier words, and no `this` any more
  unfoldable pub parameters_from : Opt ThisParameter → ℕ → List Placed → State → Result Parameters
  parameters_from this zero l s = refused unexpected s
  parameters_from this (suc n) l s =
      test (stands g RParen s) (λ _. read (parameters_of this l) (next s)) λ _.
      test (modified g s) (λ _. refused parameter_modifier s) λ _.
      test (stands g This s) (λ _. refused misplaced_this s) λ _.
      then (parameter s) λ t q.
      separated g (stands g Dot3 s) q (read (parameters_of this (l ++ (t ∷ [])))) λ p. parameters_from this n (l ++ (t ∷ [])) p

  -- Function: a list whose first parameter is `this`; the nodes of a constructor's are given back
  unfoldable pub this_first : Bool → State → Result Parameters
  this_first isNew s =
      then (optional g Colon (T true) (next s)) λ t q.
      let this = present (record { first = first g s; end = end g q; type = t }) in
      separated g false (freed isNew s q) (read (parameters_of this [])) λ p. parameters_from this (turns g) [] p

  -- Function: the whole list in its brackets
  unfoldable pub parameters : Bool → State → Result Parameters
  parameters isNew s =
      expect g LParen s λ q.
      test (stands g This q) (λ _. this_first isNew q) λ _.
      parameters_from absent (turns g) [] q

  -- Function: the return type, which may be a predicate; conditionals are on
  unfoldable pub return_type : State → Result Placed
  return_type s =
      test (not (predicates g s)) (λ _. T true s) λ _.
      then (T true (next (next s))) λ t q.
      make g [] (node.predicate (first g s) (end g q) false (subject g s) (present t)) q

  -- Function: the node, which has no `this` if it is a constructor's
  unfoldable pub function_node : ℕ → Bool → Bool → Opt (List Placed) → Parameters → Placed → State → Result Placed
  function_node b isNew isAbstract ts ps r s =
      let lengths = count ts ∷ length ps.list ∷ [] in
      test (not isNew) (λ _. make g lengths (node.function b (end g s) ts (this_type ps.this) ps.list r) s) λ _.
      report_this g ps.this s λ q.
      make g lengths (node.constructor b (end g q) isAbstract ts ps.list r) q

  -- Function: all its parts in order; type parameters are handed the flag, the others are read with conditionals on
  unfoldable pub function : Reader
  function on s =
      let p = past g Abstract s in
      then (type_parameters g T on (past g New p)) λ ts q.
      then (parameters (stands g New p) q) λ ps q.
      expect g Arrow q λ q.
      then (return_type q) λ r q.
      function_node (first g s) (stands g New p) (stands g Abstract s) ts ps r q
