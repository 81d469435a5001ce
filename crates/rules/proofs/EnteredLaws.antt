-- One law for each rule: tokens pay for the type rules that it enters, but for what is owed for a trial that was put back (02, W4).
use mathlib.Core.Path.{◌≡◌, refl, ap}
use mathlib.Core.Bool.{Bool, true, false, not}
use mathlib.Core.List.{List, [], ◌∷◌, ◌++◌}
use Prim.Native.Nat.{ℕ, zero, suc, ◌+◌, ◌*◌, ◌≤◌, ◌<◌}
use native.Mathlib.Nat.{mul-le-mul_left}
use native.Mathlib.Omega.{arith}
use borrow.Author.Tests.{not-false, leb-false}
use lib.Dec.{leb, eqb}
use lib.ListN.{length}
use Rattle.words.specs.Limits.{most_open, most_trials}
use Rattle.words.specs.Test.{◌and◌, ◌or◌, among, test}
use Rattle.words.specs.Class as class
use Rattle.words.specs.Kind.{Eof, ShiftLeft, LtEq, ShiftLeftEq, Str, NoSubstitutionTemplate, TemplateHead, TemplateMiddle, TemplateTail, LCurly, RCurly, LBrack, RBrack, LParen, RParen, LAngle, RAngle, Pipe, Amp, Question, Colon, Comma, Semicolon, Dot, Dot3, Arrow, Eq, Bang, Minus, Plus, Star, Abstract, As, Infer, Is, Readonly, Extends, Import, In, New, This, Typeof}
use Rattle.words.specs.Cursor.{second_half, left, whole_kind}
use Rattle.words.specs.Ahead.{starter, mapped_start, function_start, property_key, index_start}
use Rattle.keys.specs.Placed as node
use Rattle.keys.specs.Placed.{Placed, Spelling, PropertyKey, Opt, absent, present, is_literal, is_no_index, is_rest, is_asked}
use Rattle.keys.proofs.BitsLaws.{clash}
use Rattle.rules.specs.Notes.{note, asked_after_label}
use Rattle.rules.specs.State.{Given, Tally, State, Result, Reader, read, begin, then, next, tallied, kind, stands, on_line, first, end, spelling, turns, past, entering, make, report_if}
use Rattle.rules.specs.Names.{name, binding_word, reserved, bound, dots_from, dotted}
use Rattle.rules.specs.List.{no_entry, list_from, list}
use Rattle.rules.specs.Arguments.{opens, opened, arguments, named, import_from, import_type}
use Rattle.rules.specs.TypeParameters.{varies, type_parameter, type_parameters}
use Rattle.rules.specs.Function.{ThisParameter, Parameters, parameters_of, modified, predicates, freed, separated, report_this, parameter, parameters_from, this_first, parameters, return_type, function_node, function}
use Rattle.rules.specs.Mapped.{modifier, mapped}
use Rattle.rules.specs.Tuple.{latest_optional, report_required, is_optional_element, labelled, member_node, member as namedMember, rest_of, labelled_element, element, checked_element, tuple}
use Rattle.rules.specs.Template.{pieces_from, pieces, template}
use Rattle.rules.specs.Object.{Signature, of_method, of_call, of_construct, is_construct, signature_node, IndexParameters, no_index, one_index, several_index, with_one, has_one, kept, key_here, signs, constructs, is_readonly, unsupported_here, member_end, this_noted, report_index, signature, index_type, index_parameter, index_from, index, property, with_key, behind_readonly, member as objectMember, members_from, object}
use Rattle.rules.specs.Primary.{literals, is_keyword, is_negative, is_assertion, keyword, literal, negative, this, assertion, query, curly, brackets, reference, enclosed, worded, primary}
use Rattle.rules.specs.Postfix.{bracketed, suffix, postfix_from, postfix}
use Rattle.rules.specs.Operator.{operators, operand, operator_from, operator}
use Rattle.rules.specs.Union.{parts_from, joined, intersection, union}
use Rattle.rules.specs.Infer.{kept as keptTrial, dropped, opened as openedTrial, trial, infer}
use Rattle.rules.specs.TypeRule.{begins, conditional, union_or_conditional, type}
use Rattle.rules.specs.Reading.{read_type, reading}
use Rattle.rules.specs.Like.{Like}
use Rattle.rules.proofs.TokenLaws.{both_true, no_end, whole_end}
use Rattle.rules.proofs.LikeLaws.{reread}
use Rattle.rules.proofs.Owing.{Comes, KeysOnly}
use Rattle.rules.proofs.Spending.{rate, rate_twice, rate_whole, Paid, Owing, Fare, paid, owes, Ends, reads, stops, nothing, broken, own, broken_own, Goes, Takes, paid_self, paid_first, paid_next, paid_past, paid_opened, no_mark, fare_then, fare_freed, fare_tallied, fare_raised, entering_here, entering_ends, fare_past, fare_here, fare_grows, fare_later, fare_by, fare_may, sure, ends_then, pays_then, ends_by, ends_test, ends_must, out, ends_if, ends_after, ends_less, ends_may, pays_any, goes_on_lem, takes_on, fare_if, fare_test, fare_mark, fare_report, fare_report_if, fare_make, optional_by, optional_on}

module _ (g : Given) {a : ℕ} where
  -- ---- Lists

  module _ (close : ℕ) (ok : eqb Extends close ≡ false) (entry : List Placed → State → Result Placed) (goes : (l : List Placed) → Goes g a broken (entry l)) where
    list_from_lem : (fuel : ℕ) (l : List Placed) → Goes g a nothing (list_from g close entry fuel l)
    unfolding list_from
    list_from_lem zero l s h = stops
    list_from_lem (suc fuel) l s h =
        ends_test (stands g close s) (λ _ _. reads (paid (paid_next (paid_self h)))) λ _ _.
        ends_then (goes l s h) λ t q b.
        fare_test close ok q b (λ p _. reads (paid p)) λ b _.
        fare_mark Comma refl q b out λ p _.
        goes_on_lem (next q) p (list_from_lem fuel (l ++ (t ∷ [])))

    list_goes : Goes g a nothing (list g close entry)
    unfolding list
    list_goes s h = list_from_lem (turns g) [] s h

  -- ---- Names

  name_takes : Takes g a nothing (name g)
  unfolding name
  name_takes s h = ends_must (class.name (kind g s)) out λ _ _. reads (paid (paid_first h))

  binding_takes : Takes g a nothing (binding_word g)
  unfolding binding_word
  binding_takes s h = ends_must (class.binding_word (kind g s)) out λ _ _. reads (paid (paid_first h))

  bound_takes : Takes g a nothing (bound g)
  unfolding bound
  bound_takes s h =
      ends_then (binding_takes s h) λ x q b.
      fare_report_if (reserved (kind g s)) _ q (read x) b λ q b.
      reads b

  dots_go : (fuel : ℕ) (l : List Spelling) → Goes g a nothing (dots_from g fuel l)
  unfolding dots_from
  dots_go zero l s h = stops
  dots_go (suc fuel) l s h =
      ends_test (stands g Dot s) (λ _ _. pays_then (takes_on (next s) (paid_next (paid_self h)) name_takes) λ x q p. goes_on_lem q p (dots_go fuel (l ++ (x ∷ [])))) λ _ _.
      reads (paid (paid_self h))

  dotted_takes : Takes g a nothing (dotted g)
  unfolding dotted
  dotted_takes s h =
      pays_then (name_takes s h) λ x q p.
      goes_on_lem q p (dots_go (turns g) (x ∷ []))

  -- ---- Rules that read types

  module _ (T : Reader) (types : (on : Bool) → Goes g a broken (T on)) where
    -- ---- Arguments

    arguments_go : Goes g a nothing (arguments g T)
    unfolding arguments
    arguments_go s h =
        ends_test (not (opens g s)) (λ _ _. reads (paid (paid_self h))) λ _ _.
        ends_then (goes_on_lem (opened g s) (paid_opened g s (paid_self h)) (list_goes RAngle refl (λ l. T true) λ l. types true)) λ l q b.
        fare_report_if (no_entry l) _ q (read (present l)) b λ q b.
        reads b

    named_takes : (node : ℕ → ℕ → List Spelling → Opt (List Placed) → Placed) (b : ℕ) → Takes g a nothing (named g T node b)
    unfolding named
    named_takes node b s h =
        pays_then (dotted_takes s h) λ l q p.
        ends_then (goes_on_lem q p arguments_go) λ ts q b.
        fare_make _ _ q b

    import_from_lem : (b : ℕ) (isTypeof : Bool) (x : Spelling) → Goes g a nothing (import_from g T b isTypeof x)
    unfolding import_from
    import_from_lem b isTypeof x s h =
        ends_test (stands g Comma s) out λ _ _.
        ends_must (stands g RParen s) out λ _ _.
        pays_then (goes_on_lem (next s) (paid_next (paid_self h)) (dots_go (turns g) [])) λ l q p.
        ends_then (goes_on_lem q p arguments_go) λ ts q b.
        fare_make _ _ q b

    import_takes : (b : ℕ) (isTypeof : Bool) → Takes g a nothing (import_type g T b isTypeof)
    unfolding import_type
    import_takes b isTypeof s h =
        ends_must (stands g Import s) out λ _ _.
        ends_must (stands g LParen (next s)) out λ _ _.
        let q = next (next s) in
        ends_must (stands g Str q) out λ _ _.
        goes_on_lem (next q) (paid_next (paid_next (paid_first h))) (import_from_lem b isTypeof (spelling g q))

    -- ---- Type parameters

    type_parameter_lem : (on : Bool) → Takes g a broken (type_parameter g T on)
    unfolding type_parameter
    type_parameter_lem on s h =
        ends_test (varies g s) out λ _ _.
        pays_then (bound_takes s h) λ x q p.
        ends_then (optional_by Extends q (T on) (types on) p) λ t q b.
        ends_then (optional_on Eq refl q (T on) (types on) b) λ d q b.
        fare_make _ _ q b

    type_parameters_lem : (on : Bool) → Goes g a nothing (type_parameters g T on)
    unfolding type_parameters
    type_parameters_lem on s h =
        ends_test (not (stands g LAngle s)) (λ _ _. reads (paid (paid_self h))) λ _ _.
        ends_then (goes_on_lem (next s) (paid_next (paid_self h)) (list_goes RAngle refl (λ l. type_parameter g T on) λ l s h. ends_less (type_parameter_lem on s h))) λ l q b.
        fare_report_if (no_entry l) _ q (read (present l)) b λ q b.
        reads b

    -- ---- Function

    parameter_takes : Takes g a broken (parameter g T)
    unfolding parameter
    parameter_takes s h =
        let p = past g Dot3 s in
        let dots = paid_past g Dot3 s (paid_self h) in
        ends_test (stands g Dot3 s and stands g This p) out λ _ _.
        pays_then (ends_after dots (binding_takes p dots.here)) λ x q b.
        ends_then (optional_by Colon (past g Question q) (T true) (types true) (paid_past g Question q b)) λ t r b.
        fare_make _ _ r b

    module _ {D D' : ℕ → Bool → Type 0} {m i m' i' : ℕ} {c c' : Tally} {A : Type 0} where
      separated_on : (is_rest : Bool) (q : State) (close on : State → Result A) → Fare g a D m i c q → (Paid a m i c (q.at + 1) q.tally → Ends g a D' m' i' c' (close (next q)))
          → (Paid a m i c (q.at + 1) q.tally → Ends g a D' m' i' c' (on (next q))) → Ends g a D' m' i' c' (separated g is_rest q close on)
      separated_on is_rest q close on b f k =
          ends_test (stands g Eq q) out λ _ _.
          fare_test RParen refl q b (λ p _. f p) λ b _.
          ends_test (is_rest and stands g Comma q) out λ _ _.
          fare_mark Comma refl q b out λ p _. k p

      this_on : (o : Opt ThisParameter) (q : State) (on : State → Result A) → Fare g a D m i c q → ((q : State) → Fare g a D m i c q → Ends g a D' m' i' c' (on q))
          → Ends g a D' m' i' c' (report_this g o q on)
      this_on absent q on b f = f q b
      this_on (present t) q on b f = fare_report _ q on b f

    parameters_from_lem : (this : Opt ThisParameter) (fuel : ℕ) (l : List Placed) → Goes g a nothing (parameters_from g T this fuel l)
    unfolding parameters_from
    parameters_from_lem this zero l s h = stops
    parameters_from_lem this (suc fuel) l s h =
        ends_test (stands g RParen s) (λ _ _. reads (paid (paid_next (paid_self h)))) λ _ _.
        ends_test (modified g s) out λ _ _.
        ends_test (stands g This s) out λ _ _.
        ends_then (ends_less (parameter_takes s h)) λ t q b.
        separated_on (stands g Dot3 s) q (read (parameters_of this (l ++ (t ∷ [])))) (parameters_from g T this fuel (l ++ (t ∷ []))) b (λ p. reads (paid p)) λ p.
        goes_on_lem (next q) p (parameters_from_lem this fuel (l ++ (t ∷ [])))

    this_first_lem : (isNew : Bool) → Goes g a nothing (this_first g T isNew)
    unfolding this_first
    this_first_lem isNew s h =
        ends_then (optional_by Colon (next s) (T true) (types true) (paid_next (paid_self h))) λ t q b.
        let this : Opt ThisParameter = present (record { first = first g s; end = end g q; type = t }) in
        let r = freed isNew s q in
        separated_on false r (read (parameters_of this [])) (parameters_from g T this (turns g) []) (fare_freed isNew s q b) (λ p. reads (paid p)) λ p.
        goes_on_lem (next r) p (parameters_from_lem this (turns g) [])

    parameters_take : (isNew : Bool) → Takes g a nothing (parameters g T isNew)
    unfolding parameters
    parameters_take isNew s h =
        ends_must (stands g LParen s) out λ _ _.
        ends_test (stands g This (next s)) (λ _ _. goes_on_lem (next s) (paid_first h) (this_first_lem isNew)) λ _ _.
        goes_on_lem (next s) (paid_first h) (parameters_from_lem absent (turns g) [])

    return_goes : Goes g a broken (return_type g T)
    unfolding return_type
    return_goes s h =
        ends_test (not (predicates g s)) (λ _ _. types true s h) λ _ _.
        ends_then (goes_on_lem (next (next s)) (paid_next (paid_next (paid_self h))) (types true)) λ t q b.
        fare_make _ _ q b

    function_node_lem : {D : ℕ → Bool → Type 0} {m i : ℕ} {c : Tally} (b : ℕ) (isNew isAbstract : Bool) (ts : Opt (List Placed)) (ps : Parameters) (r : Placed) (q : State) → Fare g a D m i c q
        → Ends g a D m i c (function_node g T b isNew isAbstract ts ps r q)
    unfolding function_node
    function_node_lem b isNew isAbstract ts ps r q f =
        ends_test (not isNew) (λ _ _. fare_make _ _ q f) λ _ _.
        this_on ps.this q _ f λ q f.
        fare_make _ _ q f

    function_takes : (on : Bool) → Takes g a broken (function g T on)
    unfolding function
    function_takes on s h =
        let p = past g Abstract s in
        let start = paid_past g New p (paid_past g Abstract s (paid_self h)) in
        pays_then (goes_on_lem (past g New p) start (type_parameters_lem on)) λ ts q x.
        ends_then (ends_after x (parameters_take (stands g New p) q x.here)) λ ps q b.
        fare_mark Arrow refl q b out λ x _.
        ends_then (goes_on_lem (next q) x return_goes) λ r q b.
        function_node_lem (first g s) (stands g New p) (stands g Abstract s) ts ps r q b

    -- ---- Mapped

    modifier_goes : (k : ℕ) → Goes g a nothing (modifier g k)
    unfolding modifier
    modifier_goes k s h =
        ends_test (stands g k s) (λ _ _. reads (paid (paid_next (paid_self h)))) λ _ _.
        ends_test (stands g Plus s) (λ _ _. ends_must (stands g k (next s)) out λ _ _. reads (paid (paid_next (paid_next (paid_self h))))) λ _ _.
        ends_test (stands g Minus s) (λ _ _. ends_must (stands g k (next s)) out λ _ _. reads (paid (paid_next (paid_next (paid_self h))))) λ _ _.
        reads (paid (paid_self h))

    mapped_takes : Takes g a nothing (mapped g T)
    unfolding mapped
    mapped_takes s h =
        ends_must (stands g LCurly s) out λ _ _.
        ends_then (goes_on_lem (next s) (paid_first h) (modifier_goes Readonly)) λ readonly q b.
        fare_mark LBrack refl q b out λ p _.
        ends_then (takes_on (next q) p binding_takes) λ key q b.
        fare_mark In refl q b out λ p _.
        ends_then (goes_on_lem (next q) p (types true)) λ c q b.
        ends_then (optional_on As refl q (T true) (types true) b) λ n q b.
        fare_mark RBrack refl q b out λ p _.
        pays_then (goes_on_lem (next q) p (modifier_goes Question)) λ question q p.
        ends_then (optional_by Colon q (T true) (types true) p) λ t q b.
        let r = past g Semicolon q in
        fare_mark RCurly refl r (fare_past Semicolon refl q b) out λ p _.
        fare_make _ _ (next r) (paid p)

    -- ---- Tuple

    member_node_lem : {D : ℕ → Bool → Type 0} {m i : ℕ} {c : Tally} (label type : State) (question : Bool) (t : Placed) (q : State) → Fare g a D m i c q
        → Ends g a D m i c (member_node g T label type question t q)
    unfolding member_node
    member_node_lem label type question t q b =
        ends_then (fare_make _ _ q b) λ e q b.
        fare_report_if (stands g Dot3 type) _ q (λ q. report_if (is_asked t) g (note asked_after_label (first g type) (end g q)) q (read e)) b λ q b.
        fare_report_if (is_asked t) _ q (read e) b λ q b.
        reads b

    named_member : Takes g a broken (namedMember g T)
    unfolding namedMember
    named_member s h =
        let asked = paid_past g Question (next s) (paid_first h) in
        let p = next (past g Question (next s)) in
        ends_must (stands g Colon (past g Question (next s))) out λ _ _.
        ends_then (goes_on_lem (past g Dot3 p) (paid_past g Dot3 p (paid_next asked)) (types true)) λ t q b.
        member_node_lem s p (stands g Question (next s)) t q b

    labelled_takes : Takes g a broken (labelled_element g T)
    unfolding labelled_element rest_of
    labelled_takes s h =
        let dots = paid_past g Dot3 s (paid_self h) in
        ends_then (ends_after dots (named_member (past g Dot3 s) dots.here)) λ e q b.
        ends_test (stands g Dot3 s)
        (λ _ _. fare_report_if (stands g Question (next (next s))) _ q (λ q. make g [] (node.rest (first g s) (end g q) e) q) b λ q b. fare_make _ _ q b) λ _ _.
        reads b

    element_goes : Goes g a broken (element g T)
    unfolding element
    element_goes s h =
        ends_test (labelled g (past g Dot3 s)) (λ _ _. ends_less (labelled_takes s h)) λ _ _.
        ends_then (goes_on_lem (past g Dot3 s) (paid_past g Dot3 s (paid_self h)) (types true)) λ t q b.
        ends_test (stands g Dot3 s) (λ _ _. fare_make _ _ q b) λ _ _.
        reads b

    checked_goes : (l : List Placed) → Goes g a broken (checked_element g T l)
    unfolding checked_element
    checked_goes l s h =
        ends_then (element_goes s h) λ e q b.
        required (latest_optional l) e q b
      where
        required : (o : Opt Placed) (e : Placed) (q : State) → Fare g a broken 0 s.at s.tally q → Ends g a broken 0 s.at s.tally (report_required g o e q)
        required absent e q b = reads b
        required (present o) e q b = fare_report_if (not (is_optional_element e) and not (is_rest e)) _ q (read e) b λ q b. reads b

    tuple_takes : Takes g a nothing (tuple g T)
    unfolding tuple
    tuple_takes s h =
        ends_must (stands g LBrack s) out λ _ _.
        ends_then (goes_on_lem (next s) (paid_first h) (list_goes RBrack refl (checked_element g T) checked_goes)) λ l q b.
        fare_make _ _ q b

    -- ---- Template

    pieces_from_lem : (fuel : ℕ) (l : List (Placed × Spelling)) → Goes g a nothing (pieces_from g T fuel l)
    unfolding pieces_from
    pieces_from_lem zero l s h = stops
    pieces_from_lem (suc fuel) l s h =
        ends_then (types true s h) λ t q b.
        fare_test TemplateMiddle refl q b (λ p _. goes_on_lem (next q) p (pieces_from_lem fuel (l ++ ((t, spelling g q) ∷ [])))) λ b _.
        fare_mark TemplateTail refl q b out λ p _.
        reads (paid p)

    template_takes : Takes g a nothing (template g T)
    unfolding template pieces
    template_takes s h =
        ends_then (ends_test (stands g NoSubstitutionTemplate s) (λ _ _. reads (paid (paid_first h))) λ _ _. goes_on_lem (next s) (paid_first h) (pieces_from_lem (turns g) [])) λ l q b.
        fare_make _ _ q b

    -- ---- Object

    module _ {D D' : ℕ → Bool → Type 0} {m i m' i' : ℕ} {c c' : Tally} {A : Type 0} where
      index_on : (b : ℕ) (ps : IndexParameters) (q : State) (on : State → Result A) → Fare g a D m i c q → ((q : State) → Fare g a D m i c q → Ends g a D' m' i' c' (on q))
          → Ends g a D' m' i' c' (report_index g b ps q on)
      index_on b no_index q on x f = fare_report _ q on x f
      index_on b (several_index p) q on x f = fare_report _ q on x f
      index_on b (one_index p) q on x f =
          ends_test (is_literal p.type) (λ _ _. fare_report _ q on x f) λ _ _.
          fare_report_if (is_no_index p.type) _ q on x f

    -- A member's end, and its node by where that ends.
    end_make : {D : ℕ → Bool → Type 0} {m i : ℕ} {c : Tally} (l : List ℕ) (made : ℕ → Placed) (q : State) → Fare g a D m i c q → Ends g a D m i c (member_end g q λ q. make g l (made (end g q)) q)
    end_make l made q b =
        fare_if (among (Comma ∷ Semicolon ∷ [])) refl q b (λ p _. fare_make _ _ (next q) (paid (paid_next p))) λ b _.
        ends_must (stands g RCurly q or not (on_line g q)) out λ _ _. fare_make _ _ q b

    signature_takes : (b : ℕ) (x : Signature) → Takes g a broken (signature g T b x)
    unfolding signature
    signature_takes b x s h =
        pays_then (type_parameters_lem true s h) λ ts q p.
        ends_then (ends_after p (parameters_take (is_construct x) q p.here)) λ ps q f.
        this_on (this_noted x ps.this) q _ f λ q f.
        ends_then (optional_by Colon q (return_type g T) return_goes (sure f)) λ r q f.
        end_make _ (λ e. signature_node b e x ts ps r) q f

    index_parameter_lem : Takes g a broken (index_parameter g T)
    unfolding index_parameter index_type
    index_parameter_lem s h =
        ends_then (binding_takes s h) λ x q b.
        fare_report_if (stands g Question q) _ q (index_type g T (first g s) x) b λ q b.
        let r = past g Question q in
        fare_mark Colon refl r (fare_past Question refl q b) out λ p _.
        ends_then (goes_on_lem (next r) p (types true)) λ t q b.
        reads b

    index_from_lem : (fuel : ℕ) (ps : IndexParameters) → Goes g a nothing (index_from g T fuel ps)
    unfolding index_from
    index_from_lem zero ps s h = stops
    index_from_lem (suc fuel) ps s h =
        ends_test (stands g RBrack s) (λ _ _. reads (paid (paid_self h))) λ _ _.
        ends_then (ends_less (index_parameter_lem s h)) λ x q b.
        let r = freed (has_one ps) s q in
        fare_if (λ k. eqb k RBrack) refl r (fare_freed (has_one ps) s q b) (λ p _. reads (paid p)) λ b _.
        fare_mark Comma refl r b out λ p _.
        fare_report_if {D = nothing} (stands g RBrack (next r)) _ (next r) (index_from g T fuel (with_one ps x)) (paid p) λ q b.
        goes_on_lem q (sure b) (index_from_lem fuel (with_one ps x))

    index_takes : (b : ℕ) (readonly : Bool) → Takes g a broken (index g T b readonly)
    unfolding index
    index_takes b readonly s h =
        ends_then (goes_on_lem (next s) (paid_first h) (index_from_lem (turns g) no_index)) λ ps q f.
        fare_mark RBrack refl q f out λ p _.
        index_on {D = nothing} b ps (next q) _ (paid p) λ q f.
        fare_mark Colon refl q f out λ p _.
        ends_then (goes_on_lem (next q) p (types true)) λ t q f.
        end_make _ (λ e. node.index_signature b e readonly (kept ps) t) q f

    property_goes : (b : ℕ) (readonly : Bool) (k : PropertyKey) (question : Bool) → Goes g a broken (property g T b readonly k question)
    unfolding property
    property_goes b readonly k question s h =
        ends_then (optional_by Colon s (T true) (types true) (paid_self h)) λ t q f.
        end_make _ (λ e. node.property b e readonly k question t) q f

    keyed_takes : (b : ℕ) (readonly : Bool) → Takes g a broken (with_key g T b readonly)
    unfolding with_key
    keyed_takes b readonly s h =
        let q = past g Question (next s) in
        let p = paid_past g Question (next s) (paid_first h) in
        let question = stands g Question (next s) in
        ends_test (not (property_key (kind g s))) out λ _ _.
        ends_test (signs (kind g q)) (λ _ _. takes_on q p (signature_takes b (of_method (key_here g s) question))) λ _ _.
        goes_on_lem q p (property_goes b readonly (key_here g s) question)

    readonly_takes : (b : ℕ) (readonly : Bool) → Takes g a broken (behind_readonly g T b readonly)
    unfolding behind_readonly
    readonly_takes b readonly s h =
        ends_test (unsupported_here g s) out λ _ _.
        ends_test (not (stands g LBrack s)) (λ _ _. keyed_takes b readonly s h) λ _ _.
        ends_must (index_start g.words s.at) out λ _ _. index_takes b readonly s h

    member_takes : Takes g a broken (objectMember g T)
    unfolding objectMember
    member_takes s h =
        ends_test (signs (kind g s)) (λ _ _. signature_takes (first g s) of_call s h) λ _ _.
        ends_test (constructs g s) (λ _ _. takes_on (next s) (paid_first h) (signature_takes (first g s) of_construct)) λ _ _.
        ends_test (is_readonly g s) (λ _ _. takes_on (next s) (paid_first h) (readonly_takes (first g s) true)) λ _ _.
        readonly_takes (first g s) false s h

-- ---- Members

-- What is owed at an `extends` is paid by the keys from there on.
keys_pay : {g : Given} {a k m i j : ℕ} {l : List Placed} {c : Tally} {q : State} (o : Owing g a broken m i c q) (e : Comes g k j l q o.debt.tried.to) → Paid a m i c e.w.at e.w.tally
keys_pay {a = a} {q = q} o e =
    let x = o.debt in
    let t = x.tried in
    let w = e.w.at in
    let moved : t.to.at + 2 * q.at ≤ t.from.at + 2 * w = omega (arith, e.near, e.behind, t.behind) in
    rw e.tally
    (record {
      here = o.here;
      grows = o.grows;
      later = omega (arith, o.later, e.behind);
      price = omega (arith, o.price, mul-le-mul_left x.share moved, ap (λ (r : ℕ). r * w) x.twice, ap (λ (r : ℕ). r * q.at) x.twice);
    })

-- A list is like itself.
like_self : (g : Given) → Like g g
like_self g = record { many = refl; kinds = λ _. refl; lines = λ _. refl; bytes = λ _. refl; option = refl }

-- No `extends` is a half of a token.
extends_whole : (g : Given) (s : State) → stands g Extends s ≡ true → s.half ≡ 0
extends_whole g s e = by s.half e
  where
    none_half : (k : ℕ) → eqb (second_half k) Extends ≡ false
    none_half k = test_by (eqb k ShiftLeft) (eqb k LtEq) (eqb k ShiftLeftEq)
      where
        test_by : (a b c : Bool) → eqb (test a (λ _. LAngle) (λ _. test b (λ _. Eq) (λ _. test c (λ _. LtEq) (λ _. Eof)))) Extends ≡ false
        test_by true b c = refl
        test_by false true c = refl
        test_by false false true = refl
        test_by false false false = refl

    by : (h : ℕ) → eqb (left h (whole_kind g.words s.at)) Extends ≡ true → h ≡ 0
    by zero i = refl
    by (suc h) i = let z = none_half (whole_kind g.words s.at) in clash (cc)

module _ (g : Given) (keys : KeysOnly g) (n : ℕ) (types : (a : ℕ) (on : Bool) → Goes g a broken (read_type g n on)) where
  abbrev T : Reader
  T = read_type g n

  members_on : {a i most : ℕ} {c : Tally} → ((fuel : ℕ) → fuel ≤ most → (l : List Placed) → Goes g a nothing (members_from g T fuel l))
      → (fuel : ℕ) → fuel ≤ most → (l : List Placed) (q : State) → Fare g a broken 0 i c q → Ends g a nothing 0 i c (members_from g T fuel l q)
  members_on go fuel k l q (paid p) = goes_on_lem q p (go fuel k l)
  members_on go fuel k l q (owes o) =
      ends_if (members_from g T fuel l q) λ l' r e.
      let x = keys o.debt.level n q o.debt.tried o.debt.due fuel l l' r e in
      rw x.same (goes_on_lem x.w (keys_pay o x) (go x.turns (omega (arith, x.fewer, k)) x.list))

  members_more : {a most : ℕ} → ((fuel : ℕ) → fuel ≤ most → (l : List Placed) → Goes g a nothing (members_from g T fuel l))
      → (fuel : ℕ) → fuel ≤ suc most → (l : List Placed) → Goes g a nothing (members_from g T fuel l)
  unfolding members_from
  members_more go zero k l s h = stops
  members_more {a} go (suc fuel) k l s h =
      ends_test (stands g RCurly s) (λ _ _. reads (paid (paid_next (paid_self h)))) λ _ _.
      ends_then (ends_less (member_takes g T (types a) s h)) λ t q b.
      members_on go fuel (omega arith) (l ++ (t ∷ [])) q b

  members_none : {a : ℕ} (fuel : ℕ) → fuel ≤ 0 → (l : List Placed) → Goes g a nothing (members_from g T fuel l)
  unfolding members_from
  members_none zero k l s h = stops
  members_none (suc fuel) k l s h = absurd (omega arith)

  members_go : {a : ℕ} (most fuel : ℕ) → fuel ≤ most → (l : List Placed) → Goes g a nothing (members_from g T fuel l)
  members_go zero = members_none
  members_go (suc most) = members_more (members_go most)

  module _ {a : ℕ} where
    object_takes : Takes g a nothing (object g T)
    unfolding object
    object_takes s h =
        ends_must (stands g LCurly s) out λ _ _.
        ends_then (goes_on_lem (next s) (paid_first h) (members_go (turns g) (turns g) (omega arith) [])) λ l q b.
        fare_make _ _ q b

    -- ---- Primary

    keyword_takes : Takes g a nothing (keyword g)
    unfolding keyword
    keyword_takes s h = fare_make _ _ (next s) (paid (paid_first h))

    this_takes : Takes g a broken (this g T)
    unfolding this
    this_takes s h =
        ends_test (not (on_line g (next s) and stands g Is (next s))) (λ _ _. pays_any (keyword_takes s h)) λ _ _.
        ends_then (goes_on_lem (next (next s)) (paid_next (paid_first h)) (types a true)) λ t q b.
        fare_make _ _ q b

    assertion_takes : Takes g a broken (assertion g T)
    unfolding assertion
    assertion_takes s h =
        ends_then (optional_by Is (next (next s)) (T true) (types a true) (paid_next (paid_first h))) λ t q b.
        fare_make _ _ q b

    query_takes : Takes g a nothing (query g T)
    unfolding query
    query_takes s h =
        ends_test (stands g Import (next s)) (λ _ _. takes_on (next s) (paid_first h) (import_takes g T (types a) (first g s) true)) λ _ _.
        takes_on (next s) (paid_first h) (named_takes g T (types a) node.typeof (first g s))

    brackets_take : Takes g a nothing (brackets g T)
    unfolding brackets
    brackets_take s h =
        ends_then (goes_on_lem (next s) (paid_first h) (types a true)) λ t q b.
        fare_mark RParen refl q b out λ p _.
        ends_test g.parens (λ _ _. fare_make _ _ (next q) (paid p)) λ _ _.
        reads (paid p)

    enclosed_takes : Takes g a nothing (enclosed g T)
    unfolding enclosed curly reference
    enclosed_takes s h =
        ends_test (stands g LCurly s) (λ _ _. ends_test (mapped_start g.words s.at) (λ _ _. mapped_takes g T (types a) s h) λ _ _. object_takes s h) λ _ _.
        ends_test (stands g LBrack s) (λ _ _. tuple_takes g T (types a) s h) λ _ _.
        ends_test (stands g LParen s) (λ _ _. brackets_take s h) λ _ _.
        ends_test (among (NoSubstitutionTemplate ∷ TemplateHead ∷ []) (kind g s)) (λ _ _. template_takes g T (types a) s h) λ _ _.
        ends_test (class.binding_word (kind g s)) (λ _ _. named_takes g T (types a) node.reference (first g s) s h) λ _ _.
        ends_test (among (Question ∷ Bang ∷ Star ∷ []) (kind g s)) out out

    worded_takes : Takes g a broken (worded g T)
    unfolding worded
    worded_takes s h =
        ends_test (is_assertion g s) (λ _ _. assertion_takes s h) λ _ _.
        ends_test (stands g Typeof s) (λ _ _. pays_any (query_takes s h)) λ _ _.
        ends_test (stands g Import s) (λ _ _. pays_any (import_takes g T (types a) (first g s) false s h)) λ _ _.
        pays_any (enclosed_takes s h)

    primary_takes : Takes g a broken (primary g T)
    unfolding primary literal negative
    primary_takes s h =
        ends_test (is_keyword g s) (λ _ _. pays_any (keyword_takes s h)) λ _ _.
        ends_test (stands g This s) (λ _ _. this_takes s h) λ _ _.
        ends_test (among literals (kind g s)) (λ _ _. fare_make _ _ (next s) (paid (paid_first h))) λ _ _.
        ends_test (is_negative g s) (λ _ _. fare_make _ _ (next (next s)) (paid (paid_next (paid_first h)))) λ _ _.
        worded_takes s h

    -- ---- Postfix

    bracketed_goes : (b : ℕ) (t : Placed) → Goes g a nothing (bracketed g T b t)
    unfolding bracketed
    bracketed_goes b t s h =
        ends_test (not (starter g.words s.at)) (λ _ _. ends_must (stands g RBrack s) out λ _ _. fare_make _ _ (next s) (paid (paid_next (paid_self h)))) λ _ _.
        ends_then (types a true s h) λ x q f.
        fare_mark RBrack refl q f out λ p _.
        fare_make _ _ (next q) (paid p)

    suffix_goes : (b : ℕ) (t : Placed) → Goes g a nothing (suffix g T b t)
    unfolding suffix
    suffix_goes b t s h =
        let p = paid_next (paid_self h) in
        ends_test (stands g Bang s) (λ _ _. fare_make _ _ (next s) (paid p)) λ _ _.
        ends_test (stands g Question s) (λ _ _. fare_make _ _ (next s) (paid p)) λ _ _.
        goes_on_lem (next s) p (bracketed_goes b t)

    postfix_from_lem : {m i : ℕ} {c : Tally} (b fuel : ℕ) (t : Placed) (q : State) → Fare g a broken m i c q → Ends g a broken m i c (postfix_from g T b fuel t q)
    unfolding postfix_from
    postfix_from_lem b zero t q f = stops
    postfix_from_lem b (suc fuel) t q f =
        fare_if (λ k. on_line g q and (eqb k Bang or (eqb k Question and not (starter g.words (q.at + 1))) or eqb k LBrack)) (no_suffix (on_line g q)) q f
        (λ p _. ends_then (pays_any (goes_on_lem q p (suffix_goes b t))) λ u q f. postfix_from_lem b fuel u q f) λ f _.
        reads f
      where
        no_suffix : (x : Bool) → x and false ≡ false
        no_suffix true = refl
        no_suffix false = refl

    postfix_takes : Takes g a broken (postfix g T)
    unfolding postfix
    postfix_takes s h =
        ends_then (primary_takes s h) λ t q f.
        postfix_from_lem (first g s) (turns g) t q f

  -- ---- Infer

  -- What was tried is put back before a `?`, and owed.
  put_back : {a m i : ℕ} {c : Tally} {t : Placed} (q v : State) → Paid (suc a) m i c q.at q.tally → stands g Extends q ≡ true → T false (openedTrial true (next q)) ≡ read t v
      → stands g Question v ≡ true → Fare g a broken 0 (q.at + 1) (openedTrial true (next q)).tally v
      → Fare g (suc a) (own true n) m i c (tallied q v.tally.entered q.tally.trials)
  put_back {a} {t = t} q v p e f j (paid x) =
      owes (record {
        debt = record {
          level = n;
          tried = record { here = e; whole = extends_whole g q e; from = openedTrial true (next q); behind = refl; fresh = refl; tree = t; to = v; reads = f; asked = j };
          due = λ _. (refl, refl);
          share = rate a;
          twice = rate_twice a;
          few = p.here.few;
          forward = x.later;
          counts = x.grows;
          cost = omega (arith, x.price);
        };
        here = record { more = p.here.more; few = x.here.few };
        grows = omega (arith, p.grows, x.grows);
        later = p.later;
        told = omega arith;
        price = omega (arith, p.price, x.price);
      })
  put_back q v p e f j (owes o) = let z = no_mark (λ k. eqb k Question) refl o.debt in clash (cc)

  -- A trial, where one more may open.
  tries : (a : ℕ) {m i : ℕ} {c : Tally} (q : State) → Paid a m i c q.at q.tally → leb most_trials q.tally.trials ≡ false → stands g Extends q ≡ true
      → Ends g a (own true n) m i c (then (T false (openedTrial true (next q))) λ t v.
      test (stands g Question v) (λ _. read (dropped v.at) (tallied q v.tally.entered q.tally.trials)) λ _.
      read (keptTrial t) (tallied v v.tally.entered q.tally.trials))
  tries zero q p k e = absurd (omega (arith, p.here.more, leb-false most_trials q.tally.trials k))
  tries (suc a) q p k e =
      ends_by (types a false (openedTrial true (next q)) (record { more = omega (arith, p.here.more); few = p.here.few })) λ t v f r.
      ends_test (stands g Question v) (λ j _. reads (put_back q v p e f j r)) λ _ _.
      reads (fare_may broken_own (fare_then (paid_next p) (fare_raised v q.tally.trials (record { more = p.here.more; few = (fare_here r).few }) refl r)))

  module _ {a : ℕ} where
    trial_on : (on : Bool) {m i : ℕ} {c : Tally} (q : State) → Paid a m i c q.at q.tally → Ends g a (own on n) m i c (trial g T on q)
    unfolding trial
    trial_on true q p =
        ends_test (not (stands g Extends q)) (λ _ _. reads (paid p)) λ e _.
        ends_test (leb most_trials q.tally.trials) out λ k _.
        tries a q p k (not-false (stands g Extends q) e)
    trial_on false q p =
        ends_test (not (stands g Extends q)) (λ _ _. reads (paid p)) λ _ _.
        ends_then (goes_on_lem (next q) (paid_next p) (types a false)) λ t v f.
        reads (fare_may broken_own (fare_tallied v q.tally.trials (record { more = p.here.more; few = (fare_here f).few }) f))

    infer_takes : (on : Bool) → Takes g a (own on n) (infer g T on)
    unfolding infer
    infer_takes on s h =
        pays_then (takes_on (next s) (paid_first h) (bound_takes g)) λ x q p.
        ends_then (trial_on on q p) λ c q f.
        fare_make _ _ q f

    -- ---- Operator

    operator_from_lem : (on : Bool) (fuel : ℕ) → Takes g a (own on n) (operator_from g T on fuel)
    unfolding operator_from operand
    operator_from_lem on zero s h = stops
    operator_from_lem on (suc fuel) s h =
        ends_test (not (among operators (kind g s)))
        (λ _ _. ends_test (stands g Infer s) (λ _ _. infer_takes on s h) λ _ _. ends_may broken_own (postfix_takes s h)) λ _ _.
        ends_then (takes_on (next s) (paid_first h) (operator_from_lem on fuel)) λ t q f.
        fare_make _ _ q f

    -- ---- Union, intersection

    module _ (mark : ℕ) (ok : eqb Extends mark ≡ false) (D : ℕ → Bool → Type 0) (part : State → Result Placed) (takes : Takes g a D part) where
      parts_from_lem : {m i : ℕ} {c : Tally} (fuel : ℕ) (l : List Placed) (q : State) → Fare g a D m i c q → Ends g a D m i c (parts_from g mark part fuel l q)
      unfolding parts_from
      parts_from_lem zero l q f = stops
      parts_from_lem (suc fuel) l q f =
          fare_test mark ok q f (λ p _. ends_then (takes_on (next q) p takes) λ t q f. parts_from_lem fuel (l ++ (t ∷ [])) q f) λ f _.
          reads f

      joined_takes : (node : ℕ → ℕ → List Placed → Placed) → Takes g a D (joined g mark node part)
      unfolding joined
      joined_takes node s h =
          let leading = paid_past g mark s (paid_self h) in
          ends_then (ends_after leading (takes (past g mark s) leading.here)) λ t q f.
          ends_test (not (stands g mark s or stands g mark q)) (λ _ _. reads f) λ _ _.
          ends_then (parts_from_lem (turns g) (t ∷ []) q f) λ l q f.
          fare_make _ _ q f

    union_takes : (on : Bool) → Takes g a (own on n) (union g T on)
    unfolding union intersection operator
    union_takes on =
        joined_takes Pipe refl (own on n) (intersection g T on)
        (joined_takes Amp refl (own on n) (operator g T on) (operator_from_lem on (turns g)) node.intersection) node.union

    -- ---- Type

    -- What was tried is read again, and costs as much again.
    again : {m i : ℕ} {c : Tally} {x : Placed} (q v : State) → Owing g a (own true n) m i c q → on_line g q ≡ true → T false (next q) ≡ read x v → Fare g a broken 0 (q.at + 1) q.tally v
        → Paid a m i c v.at v.tally
    again q v o l e f =
        let d = o.debt in
        let t = d.tried in
        let same : read_type g n false t.from ≡ read t.tree t.to = rw (d.due l).1 at t.reads in
        let r = reread (like_self g) n false t.from (next q) t.behind t.fresh d.few o.here.few same e in
        record {
          here = fare_here f;
          grows = omega (arith, o.grows, fare_grows f);
          later = omega (arith, o.later, fare_later f);
          price = omega (
            arith,
            o.price,
            o.told,
            o.here.few,
            d.cost,
            r.entered.one,
            r.entered.other,
            mul-le-mul_left d.share d.forward,
            ap (λ (k : ℕ). d.share * k) t.behind,
            ap (λ (k : ℕ). d.share * k) r.at,
            ap (λ (k : ℕ). k * q.at) d.twice,
            ap (λ (k : ℕ). k * v.at) d.twice,
          );
        }

    tried_on : {m i : ℕ} {c : Tally} {x : Placed} (q v : State) → Fare g a (own true n) m i c q → on_line g q ≡ true → T false (next q) ≡ read x v → Fare g a broken 0 (q.at + 1) q.tally v
        → Fare g a broken m i c v
    tried_on q v (paid p) l e f = fare_then (paid_next p) f
    tried_on q v (owes o) l e f = paid (again q v o l e f)

    conditional_on : {m i : ℕ} {c : Tally} (b : ℕ) (t : Placed) (q : State) → Fare g a (own true n) m i c q → on_line g q ≡ true → Ends g a broken m i c (conditional g T b t q)
    unfolding conditional
    conditional_on b t q f l =
        ends_by (types a false (next q) (fare_here f)) λ x v e r.
        fare_mark Question refl v (tried_on q v f l e r) out λ p _.
        ends_then (goes_on_lem (next v) p (types a true)) λ y q f.
        fare_mark Colon refl q f out λ p _.
        ends_then (goes_on_lem (next q) p (types a true)) λ z q f.
        fare_make _ _ q f

    -- Where a type does not go on as a conditional, what is owed is owed behind a line break.
    ends_broken : {m i : ℕ} {c : Tally} (on : Bool) (q : State) → on and on_line g q and stands g Extends q ≡ false → Fare g a (own on n) m i c q → Fare g a broken m i c q
    ends_broken on q e f = fare_by (λ i l d. by (on_line g q) refl i d) f
      where
        by : (b : Bool) → on_line g q ≡ b → stands g Extends q ≡ true → {l : ℕ} → own on n l (on_line g q) → on_line g q ≡ false
        by true j i d = let z = (d j).0 in clash (cc)
        by false j i d = j

    type_takes : (on : Bool) → Takes g a broken (type g T on)
    unfolding type union_or_conditional
    type_takes on s h =
        ends_test (begins (function_start g.words s.at s.half)) (λ _ _. function_takes g T (types a) on s h) λ _ _.
        ends_then (union_takes on s h) λ t q f.
        ends_test (on and on_line g q and stands g Extends q) (λ e _. on_line_lem on t q e f) λ e _.
        reads (ends_broken on q e f)
      where
        on_line_lem : (on : Bool) (t : Placed) (q : State) → on and on_line g q and stands g Extends q ≡ true → Fare g a (own on n) (rate a) s.at s.tally q
            → Ends g a broken (rate a) s.at s.tally (conditional g T (first g s) t q)
        on_line_lem true t q e f = conditional_on (first g s) t q f (both_true (on_line g q) _ e).0
        on_line_lem false t q e f = clash (cc)

-- ---- All rules together

types_go : (g : Given) → KeysOnly g → (n a : ℕ) (on : Bool) → Goes g a broken (read_type g n on)
unfolding read_type
types_go g keys zero = λ a on s h. stops
types_go g keys (suc n) = λ a on s h. entering_ends s (type_takes g keys n (types_go g keys n) on (entering s) (entering_here s h))

-- A token that is no end stands in the list.
token_inside : (words : List ℕ) (i : ℕ) → (whole_kind words i ≡ Eof → ⊥) → i < length words
token_inside [] i h = absurd (h refl)
token_inside (w ∷ l) zero h = omega arith
token_inside (w ∷ l) (suc i) h = omega (arith, token_inside l i h)

asked_inside : (g : Given) (s : State) → stands g Question s ≡ true → s.at < length g.words
asked_inside g s e = token_inside g.words s.at (whole_end s.half (whole_kind g.words s.at) (no_end (λ k. eqb k Question) refl e))

-- A reading that ends in the list enters sixteen type rules for each token at most.
pub reading_few : (g : Given) → KeysOnly g → (i : ℕ) {t : Placed} {q : State} → reading g i ≡ read t q → q.at ≤ length g.words → q.tally.entered ≤ 16 * length g.words
unfolding reading
reading_few g keys i {t} {q} e inside = by (types_go g keys most_open most_trials true (begin i) (record { more = refl; few = omega arith })) e
  where
    fare : Fare g most_trials broken 0 i (begin i).tally q → q.tally.entered ≤ 16 * length g.words
    fare (paid x) = omega (arith, x.price, inside, ap (λ (r : ℕ). r * q.at) rate_whole)
    fare (owes o) =
        let d = o.debt in
        let eight : d.share ≡ 8 = omega (arith, d.twice, rate_whole) in
        omega (
          arith,
          o.price,
          inside,
          asked_inside g d.tried.to d.tried.asked,
          d.tried.behind,
          ap (λ (r : ℕ). r * q.at) rate_whole,
          ap (λ (r : ℕ). r * d.tried.from.at) eight,
          ap (λ (r : ℕ). r * d.tried.to.at) eight,
        )

    by : {r : Result Placed} → Ends g most_trials broken 0 i (begin i).tally r → r ≡ read t q → q.tally.entered ≤ 16 * length g.words
    by (reads {q = p} f) j = let same : p ≡ q = cc in fare (rw (← same) f)
    by stops j = clash (cc)
