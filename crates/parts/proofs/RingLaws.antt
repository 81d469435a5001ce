-- What each rule is once its tests are known, in the steps in which the readers take it.
use mathlib.Core.Path.{◌≡◌, refl, sym}
use mathlib.Core.Bool.{Bool, true, false, not}
use mathlib.Core.List.{List, [], ◌∷◌, ◌++◌}
use Prim.Native.Nat.{ℕ, zero, suc, ◌-◌}
use native.Mathlib.Omega.{arith}
use lib.ListN.{length}
use Rattle.words.specs.Test.{◌and◌, ◌or◌, test}
use Rattle.words.specs.Kind.{LAngle, RAngle, Question, Colon, Dot3, Arrow, Eq, Pipe, Amp, Abstract, Is, Extends, New, This, Infer, TemplateHead, TemplateMiddle, TemplateTail}
use Rattle.words.specs.Ahead.{function_start}
use Rattle.keys.specs.Placed as node
use Rattle.keys.specs.Placed.{Placed, Spelling, Opt, absent, present}
use Rattle.rules.specs.Refusal.{unexpected, too_deep}
use Rattle.rules.specs.Notes.{note, empty_type_parameters, empty_arguments}
use Rattle.rules.specs.State.{Given, State, Result, Reader, read, refused, then, next, kind, stands, on_line, first, end, spelling, turns, entering, past, expect, optional, make, report_if}
use Rattle.rules.specs.List.{no_entry, list_from, list}
use Rattle.rules.specs.Names as names
use Rattle.rules.specs.TypeParameters as types
use Rattle.rules.specs.Function as function
use Rattle.rules.specs.Function.{Parameters}
use Rattle.rules.specs.Union as union
use Rattle.rules.specs.Operator as operator
use Rattle.rules.specs.Infer as infer
use Rattle.rules.specs.Postfix as postfix
use Rattle.rules.specs.Arguments as arguments
use Rattle.rules.specs.Template as template
use Rattle.rules.specs.TypeRule as type
use Rattle.rules.specs.Reading.{read_type}
use Rattle.marks.specs.Names.{one_name}
use Rattle.functions.specs.Function.{type_parameter_head, parameter_head}
use Rattle.primaries.specs.Onward.{behind_colon, behind_question, signature, subject_at, predicate}
use Rattle.marks.proofs.Answers.{then_then}

-- ---- A mark that is due, an optional part

pub expect_yes : {A : Type 0} (g : Given) (k : ℕ) (s : State) (on : State → Result A) → stands g k s ≡ true → expect g k s on ≡ on (next s)
expect_yes g k s on e = rw e

pub expect_no : {A : Type 0} (g : Given) (k : ℕ) (s : State) (on : State → Result A) → stands g k s ≡ false → expect g k s on ≡ refused unexpected s
expect_no g k s on e = rw e

pub optional_none : (g : Given) (k : ℕ) (part : State → Result Placed) (s : State) → stands g k s ≡ false → optional g k part s ≡ read absent s
optional_none g k part s e = rw e

pub optional_some : (g : Given) (k : ℕ) (part : State → Result Placed) (s : State) → stands g k s ≡ true → optional g k part s ≡ then (part (next s)) (λ t q. read (present t) q)
optional_some g k part s e = rw e

-- ---- Type

module _ (g : Given) where
  pub type_none : (n : ℕ) (on : Bool) (s : State) → n ≡ 0 → read_type g n on s ≡ refused too_deep s
  unfolding read_type
  type_none n on s e = rw e

  -- Each is counted before its tests: p is where it stands then.
  pub type_function : (n : ℕ) (on : Bool) (s : State) {p : State} → p ≡ entering s → (n ≡ 0 → ⊥) → type.begins (function_start g.words s.at s.half) ≡ true
      → read_type g n on s ≡ function.function g (read_type g (n - 1)) on p
  unfolding read_type type.type
  type_function zero on s w h e = absurd (h refl)
  type_function (suc n) on s w h e = rw (e, (let z : suc n - 1 ≡ n = omega arith in z), w)

  pub type_other : (n : ℕ) (on : Bool) (s : State) {p : State} → p ≡ entering s → (n ≡ 0 → ⊥) → type.begins (function_start g.words s.at s.half) ≡ false
      → read_type g n on s ≡ type.union_or_conditional g (read_type g (n - 1)) on p
  unfolding read_type type.type
  type_other zero on s w h e = absurd (h refl)
  type_other (suc n) on s w h e = rw (e, (let z : suc n - 1 ≡ n = omega arith in z), w)

  module _ (T : Reader) where
    -- Whether a union goes on as a conditional.
    abbrev pub goes_on : Bool → State → Bool
    goes_on on q = on and on_line g q and stands g Extends q

    abbrev pub or_conditional : Bool → State → Placed → State → Result Placed
    or_conditional on s t q = test (goes_on on q) (λ _. type.conditional g T (first g s) t q) (λ _. read t q)

    pub union_or : (on : Bool) (s : State) → type.union_or_conditional g T on s ≡ then (union.union g T on s) (or_conditional on s)
    unfolding type.union_or_conditional
    union_or on s = refl

    pub conditional_is : (b : ℕ) (t : Placed) (s : State) → type.conditional g T b t s ≡ then (T false (next s)) (λ x q. expect g Question q (behind_question g T b t x))
    unfolding type.conditional behind_question behind_colon
    conditional_is b t s = refl

    pub question_is : (b : ℕ) (t x : Placed) (s : State) → behind_question g T b t x s ≡ then (T true s) (λ y q. expect g Colon q (behind_colon g T b t x y))
    unfolding behind_question
    question_is b t x s = refl

    pub colon_is : (b : ℕ) (t x y : Placed) (s : State) → behind_colon g T b t x y s ≡ then (T true s) (λ z q. make g [] (node.conditional b (end g q) t x y z) q)
    unfolding behind_colon
    colon_is b t x y s = refl

    -- ---- Function

    pub function_is : (on : Bool) (s : State) → function.function g T on s
        ≡ then (types.type_parameters g T on (past g New (past g Abstract s))) (signature g T (first g s) (stands g New (past g Abstract s)) (stands g Abstract s))
    unfolding function.function signature
    function_is on s = refl

    abbrev pub behind_parameters : ℕ → Bool → Bool → Opt (List Placed) → Parameters → State → Result Placed
    behind_parameters b isNew isAbstract ts ps q = expect g Arrow q λ q. then (function.return_type g T q) λ r q. function.function_node g T b isNew isAbstract ts ps r q

    pub signature_is : (b : ℕ) (isNew isAbstract : Bool) (ts : Opt (List Placed)) (s : State)
        → signature g T b isNew isAbstract ts s ≡ then (function.parameters g T isNew s) (behind_parameters b isNew isAbstract ts)
    unfolding signature
    signature_is b isNew isAbstract ts s = refl

    -- ---- Type parameters

    -- The end of a list of type parameters.
    abbrev pub end_types : ℕ → List Placed → State → Result (Opt (List Placed))
    end_types b l q = report_if (no_entry l) g (note empty_type_parameters b (end g q)) q λ q. read (present l) q

    pub types_none : (on : Bool) (s : State) → stands g LAngle s ≡ false → types.type_parameters g T on s ≡ read absent s
    unfolding types.type_parameters
    types_none on s e = rw e

    pub types_some : (on : Bool) (s : State) → stands g LAngle s ≡ true
        → types.type_parameters g T on s ≡ then (list_from g RAngle (λ l. types.type_parameter g T on) (turns g) [] (next s)) (end_types (first g s))
    unfolding types.type_parameters list
    types_some on s e = rw e

    pub type_parameter_lem : (on : Bool) (s : State) → types.type_parameter g T on s
        ≡ then (type_parameter_head g s) (λ x q. then (optional g Extends (T on) q) (λ t q. then (optional g Eq (T on) q) (λ d q. make g [] (node.type_parameter (first g s) (end g q) x t d) q)))
    unfolding types.type_parameter
    type_parameter_lem on s = by (types.varies g s) refl
      where
        by : (b : Bool) → types.varies g s ≡ b → types.type_parameter g T on s
            ≡ then (type_parameter_head g s) (λ x q. then (optional g Extends (T on) q) (λ t q. then (optional g Eq (T on) q) (λ d q. make g [] (node.type_parameter (first g s) (end g q) x t d) q)))
        by true e = rw e
        by false e = rw e

    -- ---- Parameters

    pub parameter_is : (s : State) → function.parameter g T s
        ≡ then (parameter_head g s) (λ x q. then (optional g Colon (T true) q) (λ t p. make g [] (node.parameter (first g s) (end g p) (stands g Dot3 s) x.0 x.1 t) p))
    unfolding function.parameter names.binding_word
    parameter_is s = by (stands g Dot3 s and stands g This (past g Dot3 s)) refl
      where
        by : (b : Bool) → (stands g Dot3 s and stands g This (past g Dot3 s)) ≡ b → function.parameter g T s
            ≡ then (parameter_head g s) (λ x q. then (optional g Colon (T true) q) (λ t p. make g [] (node.parameter (first g s) (end g p) (stands g Dot3 s) x.0 x.1 t) p))
        by true e = rw e
        by false e = rw e (sym (then_then (one_name 0 g (past g Dot3 s)) (λ x q. read (x, stands g Question q) (past g Question q))
            (λ x q. then (optional g Colon (T true) q) (λ t p. make g [] (node.parameter (first g s) (end g p) (stands g Dot3 s) x.0 x.1 t) p))))

    -- ---- Predicates

    pub predicate_is : (asserts : Bool) (s : State) → predicate g T asserts s
        ≡ then (optional g Is (T true) (next (subject_at asserts s))) (λ t q. make g [] (node.predicate (first g s) (end g q) asserts (function.subject g (subject_at asserts s)) t) q)
    unfolding predicate
    predicate_is asserts s = refl

    -- ---- Unions and intersections

    abbrev pub behind_part : ℕ → (ℕ → ℕ → List Placed → Placed) → (State → Result Placed) → State → Placed → State → Result Placed
    behind_part mark make' part s t q =
        test (not (stands g mark s or stands g mark q)) (λ _. read t q) λ _.
        then (union.parts_from g mark part (turns g) (t ∷ []) q) λ l q.
        make g (length l ∷ []) (make' (first g s) (end g q) l) q

    pub union_is : (on : Bool) (s : State) → union.union g T on s ≡ then (union.intersection g T on (past g Pipe s)) (behind_part Pipe node.union (union.intersection g T on) s)
    unfolding union.union union.joined
    union_is on s = refl

    pub intersection_is : (on : Bool) (s : State) → union.intersection g T on s ≡ then (operator.operator g T on (past g Amp s)) (behind_part Amp node.intersection (operator.operator g T on) s)
    unfolding union.intersection union.joined
    intersection_is on s = refl

    -- ---- Operators

    pub operand_infer : (on : Bool) (s : State) → stands g Infer s ≡ true → operator.operand g T on s ≡ infer.infer g T on s
    unfolding operator.operand
    operand_infer on s e = rw e

    pub operand_postfix : (on : Bool) (s : State) → stands g Infer s ≡ false → operator.operand g T on s ≡ postfix.postfix g T s
    unfolding operator.operand
    operand_postfix on s e = rw e

    -- ---- Arguments

    abbrev pub end_arguments : ℕ → List Placed → State → Result (Opt (List Placed))
    end_arguments b l q = report_if (no_entry l) g (note empty_arguments b (end g q)) q λ q. read (present l) q

    pub arguments_none : (s : State) → arguments.opens g s ≡ false → arguments.arguments g T s ≡ read absent s
    unfolding arguments.arguments
    arguments_none s e = rw e

    pub arguments_some : (s : State) → arguments.opens g s ≡ true
        → arguments.arguments g T s ≡ then (list_from g RAngle (λ l. T true) (turns g) [] (arguments.opened g s)) (end_arguments (first g s))
    unfolding arguments.arguments list
    arguments_some s e = rw e

    -- ---- Templates

    abbrev pub end_template : State → List (Placed × Spelling) → State → Result Placed
    end_template s l q = make g (length l ∷ []) (node.template (first g s) (end g q) (spelling g s) l) q

    pub template_is : (s : State) → kind g s ≡ TemplateHead → template.template g T s ≡ then (template.pieces_from g T (turns g) [] (next s)) (end_template s)
    unfolding template.template template.pieces
    template_is s e = rw e

    abbrev pub behind_piece : ℕ → List (Placed × Spelling) → Placed → State → Result (List (Placed × Spelling))
    behind_piece n l t q =
        test (stands g TemplateMiddle q) (λ _. template.pieces_from g T n (l ++ ((t, spelling g q) ∷ [])) (next q)) λ _.
        test (stands g TemplateTail q) (λ _. read (l ++ ((t, spelling g q) ∷ [])) (next q)) λ _.
        refused unexpected q

    pub pieces_is : (n : ℕ) (l : List (Placed × Spelling)) (s : State) → template.pieces_from g T (suc n) l s ≡ then (T true s) (behind_piece n l)
    unfolding template.pieces_from
    pieces_is n l s = refl

  pub parts_more : (mark : ℕ) (part : State → Result Placed) (n : ℕ) (l : List Placed) (s : State) → stands g mark s ≡ true
      → union.parts_from g mark part (suc n) l s ≡ then (part (next s)) (λ t q. union.parts_from g mark part n (l ++ (t ∷ [])) q)
  unfolding union.parts_from
  parts_more mark part n l s e = rw e

  pub parts_end : (mark : ℕ) (part : State → Result Placed) (n : ℕ) (l : List Placed) (s : State) → stands g mark s ≡ false → union.parts_from g mark part (suc n) l s ≡ read l s
  unfolding union.parts_from
  parts_end mark part n l s e = rw e
