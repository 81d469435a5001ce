-- One law for each rule: it closes what it opens, and nothing else; kinds alone decide, whatever the list.
use mathlib.Core.Path.{◌≡◌, refl, ap}
use mathlib.Core.Bool.{Bool, true, false, not}
use mathlib.Core.List.{List, [], ◌∷◌, ◌++◌}
use Prim.Native.Nat.{ℕ, zero, suc, ◌+◌}
use borrow.Author.Tests.{eqb-true, not-false}
use lib.Dec.{eqb, leb}
use lib.ListN.{length}
use Rattle.words.specs.Limits.{most_trials}
use Rattle.rules.specs.Notes.{Note, note, asked_after_label}
use Rattle.words.specs.Test.{◌and◌, ◌or◌, between, among, test}
use Rattle.words.specs.Class as class
use Rattle.words.specs.Kind.{ShiftLeft, LtEq, ShiftLeftEq, Str, NumberLiteral, BigIntLiteral, NoSubstitutionTemplate, TemplateHead, TemplateMiddle, TemplateTail, LCurly, RCurly, LBrack, RBrack, LParen, RParen, LAngle, RAngle, Pipe, Amp, Question, Colon, Comma, Semicolon, Dot, Dot3, Arrow, Eq, Bang, Minus, Plus, Star, Any, Unknown, Null, Void, Abstract, As, Asserts, Infer, Is, Readonly, Extends, Import, In, New, This, Typeof}
use Rattle.words.specs.Ahead.{starter, mapped_start, function_start, property_key, index_start}
use Rattle.words.specs.Cursor.{whole_kind}
use Rattle.keys.specs.Placed as node
use Rattle.keys.specs.Placed.{Placed, Spelling, Opt, absent, present, PropertyKey, is_literal, is_no_index, is_asked, is_rest}
use Rattle.keys.proofs.BitsLaws.{clash}
use Rattle.rules.specs.Refusal.{unexpected}
use Rattle.rules.specs.State.{Given, State, Result, Reader, read, refused, next, halved, kind, kind_after, stands, on_line, first, end, then, spelling, turns, past, expect, optional, make, report_if, entering}
use Rattle.rules.specs.Names.{name, binding_word, reserved, bound, dots_from, dotted}
use Rattle.rules.specs.List.{no_entry, count, list_from, list}
use Rattle.rules.specs.Arguments.{opens, opened, arguments, named, import_from, import_type}
use Rattle.rules.specs.TypeParameters.{varies, type_parameter, type_parameters}
use Rattle.rules.specs.Function.{ThisParameter, Parameters, parameters_of, modified, predicates, freed, separated, report_this, parameter, parameters_from, this_first, parameters, return_type, function_node, function}
use Rattle.rules.specs.Union.{parts_from, joined, intersection, union}
use Rattle.rules.specs.Operator.{operators, operand, operator_from, operator}
use Rattle.rules.specs.Infer.{opened as openedTrial, trial, infer}
use Rattle.rules.specs.Postfix.{suffixed, bracketed, suffix, postfix_from, postfix}
use Rattle.rules.specs.Primary.{literals, is_keyword, is_negative, is_assertion, keyword, literal, negative, this, assertion, query, curly, brackets, reference, enclosed, worded, primary}
use Rattle.rules.specs.Mapped.{modifier, mapped}
use Rattle.rules.specs.Object.{Signature, of_call, of_construct, is_construct, IndexParameters, no_index, one_index, several_index, with_one, has_one, kept, signature_node, signs, constructs, is_readonly, unsupported_here, member_end, this_noted, report_index, signature, index_type, index_parameter, index_from, index, property, with_key, behind_readonly, member as objectMember, members_from, object}
use Rattle.rules.specs.Tuple.{latest_optional, report_required, is_optional_element, labelled, member_node, member as namedMember, rest_of, labelled_element, element as elementRule, checked_element, tuple}
use Rattle.rules.specs.Template.{pieces_from, pieces, template}
use Rattle.rules.specs.TypeRule.{begins, conditional, union_or_conditional, type as typeRule}
use Rattle.rules.specs.Reading.{read_type}
use Rattle.rules.proofs.TokenLaws.{both_true, among_each}
use Rattle.rules.proofs.Balance.{times, Opener, Closer, curly_opens, brack_opens, paren_opens, angle_opens, head_opens, curly_closes, brack_closes, paren_closes, angle_closes, tail_closes, Level, Shut, Balanced, Opened, level_here, flat, flat_next, flat_past, open_next, close_next, open_half, round, Ends, ends, stops, Even, Behind, Keeps, KeepsIf, Closes, ends_then, ends_round, noted, ends_test, stopped, ends_report, ends_report_if, ends_make}

module _ (g : Given) where
  -- ---- Marks

  -- A mark that is no bracket and must stand here.
  mark_keeps : {A : Type 0} {P : ℕ → ℕ → Type 0} {i h : ℕ} (k : ℕ) → flat (λ j. eqb j k) ≡ true → (s : State) {x y : Unit {0} → Result A} → Level g.words 0 i h s.at s.half
      → (stands g k s ≡ false → (u : Unit {0}) → Ends P (y u)) → (Level g.words 0 i h (s.at + 1) 0 → (u : Unit {0}) → Ends P (x u)) → Ends P (test (stands g k s) x y)
  mark_keeps k e s b f h = ends_test (stands g k s) (λ i u. h (flat_next g (λ j. eqb j k) e s i b) u) f

  -- A bracket that must stand here and opens.
  open_keeps : {A : Type 0} {P : ℕ → ℕ → Type 0} (k : ℕ) → Opener k → (s : State) {x y : Unit {0} → Result A}
      → (stands g k s ≡ false → (u : Unit {0}) → Ends P (y u)) → (Opened g s (next s) → (u : Unit {0}) → Ends P (x u)) → Ends P (test (stands g k s) x y)
  open_keeps k o s f h = ends_test (stands g k s) (λ i u. h (open_next g k o s i) u) f

  -- A bracket that must stand here and closes.
  close_keeps : {A : Type 0} {P : ℕ → ℕ → Type 0} {i h : ℕ} (k : ℕ) → Closer k → (s : State) {x y : Unit {0} → Result A} → Level g.words 0 i h s.at s.half
      → (stands g k s ≡ false → (u : Unit {0}) → Ends P (y u)) → (Shut g.words i h (s.at + 1) 0 → (u : Unit {0}) → Ends P (x u)) → Ends P (test (stands g k s) x y)
  close_keeps k c s b f h = ends_test (stands g k s) (λ i u. h (close_next g k c s i b) u) f

  -- ---- Lists

  module _ (close : ℕ) (closes : Closer close) (entry : List Placed → State → Result Placed) (keeps : (l : List Placed) → Keeps g (entry l)) where
    list_from_lem : (fuel : ℕ) (l : List Placed) → Closes g (list_from g close entry fuel l)
    unfolding list_from
    list_from_lem zero l o s b = stops
    list_from_lem (suc fuel) l o s b =
        close_keeps close closes s b
        (λ _ _.
        ends_then (keeps l o s b) λ t q d.
        close_keeps close closes q d (λ _ _. mark_keeps Comma refl q d stopped λ e _. list_from_lem fuel _ o (next q) e) λ e _. ends e) λ e _. ends e

    list_closes : Closes g (list g close entry)
    unfolding list
    list_closes o s b = list_from_lem (turns g) [] o s b

  -- ---- Names

  word_keeps : (f : ℕ → Bool) → flat f ≡ true → Keeps g (λ s. test (f (kind g s)) (λ _. read (spelling g s) (next s)) (λ _. refused unexpected s))
  word_keeps f e o s b = ends_test (f (kind g s)) (λ i _. ends (flat_next g f e s i b)) stopped

  name_keeps : Keeps g (name g)
  unfolding name
  name_keeps = word_keeps class.name refl

  binding_keeps : Keeps g (binding_word g)
  unfolding binding_word
  binding_keeps = word_keeps class.binding_word refl

  bound_keeps : Keeps g (bound g)
  unfolding bound
  bound_keeps o s b =
      ends_then (binding_keeps o s b) λ x q d.
      ends_report_if (reserved (kind g s)) g _ q (read x) λ _. ends d

  dots_keep : (fuel : ℕ) (l : List Spelling) → Keeps g (dots_from g fuel l)
  unfolding dots_from
  dots_keep zero l o s b = stops
  dots_keep (suc fuel) l o s b =
      mark_keeps Dot refl s b (λ _ _. ends b) λ d _.
      ends_then (name_keeps o (next s) d) λ x q e.
      dots_keep fuel _ o q e

  dotted_keeps : Keeps g (dotted g)
  unfolding dotted
  dotted_keeps o s b =
      ends_then (name_keeps o s b) λ x q d.
      dots_keep (turns g) _ o q d

  -- A part after a mark.
  optional_keeps : (k : ℕ) → flat (λ j. eqb j k) ≡ true → (part : State → Result Placed) → Keeps g part → Keeps g (optional g k part)
  optional_keeps k e part keeps o s b =
      mark_keeps k e s b (λ _ _. ends b) λ d _.
      ends_then (keeps o (next s) d) λ t q f. ends f

  -- ---- Rules that read types

  module _ (T : Reader) (h : (on : Bool) → Keeps g (T on)) where
    -- ---- Arguments

    -- Behind the `<` that opens arguments, be it a half.
    pub opened_opens : (s : State) → opens g s ≡ true → Opened g s (opened g s)
    unfolding times
    opened_opens s e = by (stands g LAngle s) refl
      where
        tests : (eqb s.half 0 ≡ true) × (among (LAngle ∷ ShiftLeft ∷ LtEq ∷ ShiftLeftEq ∷ []) (kind g s) ≡ true)
        tests = both_true (eqb s.half 0) _ (both_true (on_line g s) _ e).1

        whole : s.half ≡ 0
        whole = eqb-true s.half 0 tests.0

        Half : ℕ → Type 0
        Half k = kind g s ≡ k → Level g.words 1 s.at 0 s.at 1

        kinds : kind g s ≡ whole_kind g.words s.at
        kinds = ap (λ (j : ℕ). kind g (record { at = s.at; half = j; nodes = s.nodes; notes = s.notes; tally = s.tally })) whole

        by : (b : Bool) → stands g LAngle s ≡ b → Opened g s (test b (λ _. next s) (λ _. halved s))
        by true i = open_next g LAngle angle_opens s i
        by false i =
            rw whole
            (among_each Half (ShiftLeft ∷ LtEq ∷ ShiftLeftEq ∷ []) (kind g s)
            (λ k. open_half g.words s.at ShiftLeft (rw kinds at k) refl refl refl, (λ k. open_half g.words s.at LtEq (rw kinds at k) refl refl refl, (λ k. open_half g.words s.at ShiftLeftEq (rw kinds at k) refl refl refl, tt)))
            (rw i at tests.1) refl)

    pub arguments_close : (s : State) → opens g s ≡ true → Ends (Behind g (opened g s)) (arguments g T s)
    unfolding arguments
    arguments_close s e =
        ends_test (not (opens g s)) (λ i _. clash (cc)) λ _ _.
        ends_then (list_closes RAngle angle_closes (λ l. T true) (λ l. h true) (opened g s) (opened g s) level_here) λ l q d.
        ends_report_if (no_entry l) g _ q (read (present l)) λ _. ends d

    arguments_keep : Keeps g (arguments g T)
    unfolding arguments
    arguments_keep o s b = by (opens g s) refl
      where
        absent_keeps : opens g s ≡ false → Ends (Even g o) (arguments g T s)
        absent_keeps e = ends_test (not (opens g s)) (λ _ _. ends b) λ i _. clash (cc)

        by : (c : Bool) → opens g s ≡ c → Ends (Even g o) (arguments g T s)
        by true e = ends_round b (opened_opens s e) (arguments_close s e)
        by false e = absent_keeps e

    named_keeps : (make : ℕ → ℕ → List Spelling → Opt (List Placed) → Placed) (n : ℕ) → Keeps g (named g T make n)
    unfolding named
    named_keeps make n o s b =
        ends_then (dotted_keeps o s b) λ l q d.
        ends_then (arguments_keep o q d) λ ts p e.
        ends_make g _ _ p e

    -- From behind its source on, an import ends its brackets.
    import_from_lem : (n : ℕ) (isTypeof : Bool) (x : Spelling) (o a p s : State) → Balanced g o a → Opened g a p → Balanced g p s → Ends (Even g o) (import_from g T n isTypeof x s)
    unfolding import_from
    import_from_lem n isTypeof x o a p s k r b =
        ends_test (stands g Comma s) stopped λ _ _.
        close_keeps RParen paren_closes s b stopped λ d _.
        ends_then (dots_keep (turns g) [] o (next s) (round k r d)) λ l q e.
        ends_then (arguments_keep o q e) λ ts v f.
        ends_make g _ _ v f

    import_keeps : (n : ℕ) (isTypeof : Bool) → Keeps g (import_type g T n isTypeof)
    unfolding import_type
    import_keeps n isTypeof o s b =
        mark_keeps Import refl s b stopped λ d _.
        open_keeps LParen paren_opens (next s) stopped λ r _.
        let q = next (next s) in
        ends_test (stands g Str q) (λ i _. import_from_lem n isTypeof (spelling g q) o (next s) q (next q) d r (flat_next g (λ j. eqb j Str) refl q i level_here)) stopped

    -- ---- Type parameters

    type_parameter_lem : (on : Bool) → Keeps g (type_parameter g T on)
    unfolding type_parameter
    type_parameter_lem on o s b =
        ends_test (varies g s) stopped λ _ _.
        ends_then (bound_keeps o s b) λ x q d.
        ends_then (optional_keeps Extends refl (T on) (h on) o q d) λ t p e.
        ends_then (optional_keeps Eq refl (T on) (h on) o p e) λ u r f.
        ends_make g _ _ r f

    pub type_parameters_close : (on : Bool) (s : State) → stands g LAngle s ≡ true → Ends (Behind g (next s)) (type_parameters g T on s)
    unfolding type_parameters
    type_parameters_close on s e =
        ends_test (not (stands g LAngle s)) (λ i _. clash (cc)) λ _ _.
        ends_then (list_closes RAngle angle_closes (λ l. type_parameter g T on) (λ l. type_parameter_lem on) (next s) (next s) level_here) λ l q d.
        ends_report_if (no_entry l) g _ q (read (present l)) λ _. ends d

    type_parameters_lem : (on : Bool) → Keeps g (type_parameters g T on)
    unfolding type_parameters
    type_parameters_lem on o s b = by (stands g LAngle s) refl
      where
        absent_keeps : stands g LAngle s ≡ false → Ends (Even g o) (type_parameters g T on s)
        absent_keeps e = ends_test (not (stands g LAngle s)) (λ _ _. ends b) λ i _. clash (cc)

        by : (c : Bool) → stands g LAngle s ≡ c → Ends (Even g o) (type_parameters g T on s)
        by true e = ends_round b (open_next g LAngle angle_opens s e) (type_parameters_close on s e)
        by false e = absent_keeps e

    -- ---- Function

    parameter_keeps : Keeps g (parameter g T)
    unfolding parameter
    parameter_keeps o s b =
        ends_test (stands g Dot3 s and stands g This (past g Dot3 s)) stopped λ _ _.
        ends_then (binding_keeps o (past g Dot3 s) (flat_past g Dot3 refl s b)) λ x q d.
        ends_then (optional_keeps Colon refl (T true) (h true) o (past g Question q) (flat_past g Question refl q d)) λ t p e.
        ends_make g _ _ p e

    module _ {A : Type 0} {P : ℕ → ℕ → Type 0} {i j : ℕ} where
      separated_keeps : (rest : Bool) (s : State) (close on : State → Result A) → Level g.words 0 i j s.at s.half
          → (Shut g.words i j (s.at + 1) 0 → Ends P (close (next s))) → (Level g.words 0 i j (s.at + 1) 0 → Ends P (on (next s))) → Ends P (separated g rest s close on)
      separated_keeps rest s close on b f k =
          ends_test (stands g Eq s) stopped λ _ _.
          close_keeps RParen paren_closes s b (λ _ _. ends_test (rest and stands g Comma s) stopped λ _ _. mark_keeps Comma refl s b stopped λ d _. k d) λ d _. f d

    parameters_from_lem : (this : Opt ThisParameter) (fuel : ℕ) (l : List Placed) → Closes g (parameters_from g T this fuel l)
    unfolding parameters_from
    parameters_from_lem thisOne zero l o s b = stops
    parameters_from_lem thisOne (suc fuel) l o s b =
        close_keeps RParen paren_closes s b
        (λ _ _.
        ends_test (modified g s) stopped λ _ _.
        ends_test (stands g This s) stopped λ _ _.
        ends_then (parameter_keeps o s b) λ t q d.
        separated_keeps (stands g Dot3 s) q (read (parameters_of thisOne (l ++ (t ∷ [])))) (parameters_from g T thisOne fuel (l ++ (t ∷ []))) d (λ e. ends e) λ e. parameters_from_lem thisOne fuel (l ++ (t ∷ [])) o (next q) e) λ d _. ends d

    -- What is free again changes no cursor.
    freed_same : {i j : ℕ} (isNew : Bool) (s q : State) → Level g.words 0 i j q.at q.half → Level g.words 0 i j (freed isNew s q).at (freed isNew s q).half
    freed_same true s q b = b
    freed_same false s q b = b

    parameters_in : (isNew : Bool) (s : State) → Ends (Behind g s) (test (stands g This s) (λ _. this_first g T isNew s) λ _. parameters_from g T absent (turns g) [] s)
    unfolding this_first
    parameters_in isNew s =
        mark_keeps This refl s level_here (λ _ _. parameters_from_lem absent (turns g) [] s s level_here) λ b _.
        ends_then (optional_keeps Colon refl (T true) (h true) s (next s) b) λ t q d.
        let one = present (record { first = first g s; end = end g q; type = t }) in
        separated_keeps false (freed isNew s q) (read (parameters_of one [])) (parameters_from g T one (turns g) []) (freed_same isNew s q d) (λ e. ends e) λ e.
        parameters_from_lem one (turns g) [] s (next (freed isNew s q)) e

    pub parameters_close : (isNew : Bool) (s : State) → Ends (Behind g (next s)) (parameters g T isNew s)
    unfolding parameters
    parameters_close isNew s = open_keeps LParen paren_opens s stopped λ _ _. parameters_in isNew (next s)

    parameters_keep : (isNew : Bool) → Keeps g (parameters g T isNew)
    unfolding parameters
    parameters_keep isNew o s b = open_keeps LParen paren_opens s stopped λ r _. ends_round b r (parameters_in isNew (next s))

    return_keeps : Keeps g (return_type g T)
    unfolding return_type
    return_keeps o s b =
        ends_test (not (predicates g s)) (λ _ _. h true o s b) λ i _.
        let p = both_true (class.name (kind g s)) _ (not-false (predicates g s) i) in
        let d = flat_next g class.name refl s p.0 b in
        let e = flat_next g (λ k. eqb k Is) refl (next s) (both_true (eqb (kind_after g 1 s) Is) _ p.1).0 d in
        ends_then (h true o (next (next s)) e) λ t q f.
        ends_make g _ _ q f

    pub this_noted_lem : {A : Type 0} {P : ℕ → ℕ → Type 0} (t : Opt ThisParameter) (s : State) (on : State → Result A) → ((l : List Note) → Ends P (on (noted s l))) → Ends P (report_this g t s on)
    this_noted_lem absent s on f = f s.notes
    this_noted_lem (present t) s on f = ends_report g _ s on f

    function_node_lem : (n : ℕ) (isNew isAbstract : Bool) (ts : Opt (List Placed)) (ps : Parameters) (r : Placed) → Keeps g (function_node g T n isNew isAbstract ts ps r)
    unfolding function_node
    function_node_lem n isNew isAbstract ts ps r o s b =
        ends_test (not isNew) (λ _ _. ends_make g _ _ s b) λ _ _.
        this_noted_lem ps.this s (λ q. make g (count ts ∷ length ps.list ∷ []) (node.constructor n (end g q) isAbstract ts ps.list r) q) λ l. ends_make g _ _ (noted s l) b

    function_keeps : (on : Bool) → Keeps g (function g T on)
    unfolding function
    function_keeps on o s b =
        let p = past g Abstract s in
        ends_then (type_parameters_lem on o (past g New p) (flat_past g New refl p (flat_past g Abstract refl s b))) λ ts q d.
        ends_then (parameters_keep (stands g New p) o q d) λ ps r e.
        mark_keeps Arrow refl r e stopped λ f _.
        ends_then (return_keeps o (next r) f) λ t v k.
        function_node_lem (first g s) (stands g New p) (stands g Abstract s) ts ps t o v k

    -- ---- Mapped

    modifier_keeps : (k : ℕ) → flat (λ j. eqb j k) ≡ true → Keeps g (modifier g k)
    unfolding modifier
    modifier_keeps k e o s b =
        mark_keeps k e s b
        (λ _ _. mark_keeps Plus refl s b (λ _ _. mark_keeps Minus refl s b (λ _ _. ends b) λ d _. mark_keeps k e (next s) d stopped λ f _. ends f) λ d _. mark_keeps k e (next s) d stopped λ f _. ends f) λ d _. ends d

    mapped_keeps : Keeps g (mapped g T)
    unfolding mapped
    mapped_keeps o s b =
        open_keeps LCurly curly_opens s stopped λ r _.
        ends_then (modifier_keeps Readonly refl (next s) (next s) level_here) λ _ q d.
        open_keeps LBrack brack_opens q stopped λ u _.
        ends_then (binding_keeps (next q) (next q) level_here) λ _ v e.
        mark_keeps In refl v e stopped λ f _.
        ends_then (h true (next q) (next v) f) λ _ w i.
        ends_then (optional_keeps As refl (T true) (h true) (next q) w i) λ _ x j.
        close_keeps RBrack brack_closes x j stopped λ k _.
        ends_then (modifier_keeps Question refl (next s) (next x) (round d u k)) λ _ y l.
        ends_then (optional_keeps Colon refl (T true) (h true) (next s) y l) λ _ z m.
        close_keeps RCurly curly_closes (past g Semicolon z) (flat_past g Semicolon refl z m) stopped λ n _.
        ends_make g _ _ (next (past g Semicolon z)) (round b r n)

    -- ---- Tuple

    member_node_lem : (label stood : State) (question : Bool) (t : Placed) → Keeps g (member_node g T label stood question t)
    unfolding member_node
    member_node_lem label stood question t o s b =
        ends_then (ends_make {P = Even g o} g _ _ s b) λ e q d.
        ends_report_if (stands g Dot3 stood) g _ q (λ q. report_if (is_asked t) g (note asked_after_label (first g stood) (end g q)) q (read e)) λ l.
        ends_report_if (is_asked t) g _ (noted q l) (read e) λ _. ends d

    named_member : KeepsIf g (λ s. class.name (kind g s)) (namedMember g T)
    unfolding namedMember
    named_member o s e b =
        let d = flat_next g class.name refl s e b in
        let p = past g Question (next s) in
        mark_keeps Colon refl p (flat_past g Question refl (next s) d) stopped λ f _.
        ends_then (h true o (past g Dot3 (next p)) (flat_past g Dot3 refl (next p) f)) λ t q i.
        member_node_lem s (next p) (stands g Question (next s)) t o q i

    labelled_keeps : KeepsIf g (λ s. labelled g (past g Dot3 s)) (labelled_element g T)
    unfolding labelled_element rest_of
    labelled_keeps o s e b =
        let p = past g Dot3 s in
        ends_then (named_member o p (both_true (class.name (kind g p)) _ e).0 (flat_past g Dot3 refl s b)) λ x q d.
        ends_test (stands g Dot3 s) (λ _ _. ends_report_if (stands g Question (next (next s))) g _ q (λ q. make g [] (node.rest (first g s) (end g q) x) q) λ l. ends_make g _ _ (noted q l) d) λ _ _.
        ends d

    element_keeps : Keeps g (elementRule g T)
    unfolding elementRule
    element_keeps o s b =
        ends_test (labelled g (past g Dot3 s)) (λ e _. labelled_keeps o s e b) λ _ _.
        ends_then (h true o (past g Dot3 s) (flat_past g Dot3 refl s b)) λ t q d.
        ends_test (stands g Dot3 s) (λ _ _. ends_make g _ _ q d) λ _ _. ends d

    required_keeps : (x : Opt Placed) (e : Placed) → Keeps g (report_required g x e)
    required_keeps absent e o s b = ends b
    required_keeps (present x) e o s b = ends_report_if (not (is_optional_element e) and not (is_rest e)) g _ s (read e) λ _. ends b

    checked_keeps : (l : List Placed) → Keeps g (checked_element g T l)
    unfolding checked_element
    checked_keeps l o s b =
        ends_then (element_keeps o s b) λ e q d.
        required_keeps (latest_optional l) e o q d

    pub tuple_closes : (s : State) → Ends (Behind g (next s)) (tuple g T s)
    unfolding tuple
    tuple_closes s =
        open_keeps LBrack brack_opens s stopped λ _ _.
        ends_then (list_closes RBrack brack_closes (checked_element g T) checked_keeps (next s) (next s) level_here) λ l q d.
        ends_make g _ _ q d

    tuple_keeps : KeepsIf g (stands g LBrack) (tuple g T)
    tuple_keeps o s e b = ends_round b (open_next g LBrack brack_opens s e) (tuple_closes s)

    -- ---- Object

    pub index_noted : {A : Type 0} {P : ℕ → ℕ → Type 0} (n : ℕ) (ps : IndexParameters) (s : State) (on : State → Result A) → ((l : List Note) → Ends P (on (noted s l))) → Ends P (report_index g n ps s on)
    index_noted n no_index s on f = ends_report g _ s on f
    index_noted n (several_index p) s on f = ends_report g _ s on f
    index_noted n (one_index p) s on f =
        ends_test (is_literal p.type) (λ _ _. ends_report g _ s on f) λ _ _.
        ends_report_if (is_no_index p.type) g _ s on f

    -- A member's end is no bracket.
    end_keeps : {A : Type 0} {P : ℕ → ℕ → Type 0} {i j : ℕ} (s : State) (on : State → Result A) → Level g.words 0 i j s.at s.half
        → ((q : State) → Level g.words 0 i j q.at q.half → Ends P (on q)) → Ends P (member_end g s on)
    end_keeps s on b f =
        ends_test (among (Comma ∷ Semicolon ∷ []) (kind g s)) (λ e _. f (next s) (flat_next g (among (Comma ∷ Semicolon ∷ [])) refl s e b)) λ _ _.
        ends_test (stands g RCurly s or not (on_line g s)) (λ _ _. f s b) stopped

    signature_keeps : (n : ℕ) (x : Signature) → Keeps g (signature g T n x)
    unfolding signature
    signature_keeps n x o s b =
        ends_then (type_parameters_lem true o s b) λ ts q d.
        ends_then (parameters_keep (is_construct x) o q d) λ ps p e.
        this_noted_lem (this_noted x ps.this) p
        (λ q. then (optional g Colon (return_type g T) q) λ r q. member_end g q λ q. make g (count ts ∷ length ps.list ∷ []) (signature_node n (end g q) x ts ps r) q) λ l.
        ends_then (optional_keeps Colon refl (return_type g T) return_keeps o (noted p l) e) λ r v f.
        end_keeps v (λ q. make g (count ts ∷ length ps.list ∷ []) (signature_node n (end g q) x ts ps r) q) f λ w i.
        ends_make g _ _ w i

    index_type_lem : (n : ℕ) (x : Spelling) → Keeps g (index_type g T n x)
    unfolding index_type
    index_type_lem n x o s b =
        mark_keeps Colon refl (past g Question s) (flat_past g Question refl s b) stopped λ d _.
        ends_then (h true o (next (past g Question s)) d) λ t q e. ends e

    index_parameter_lem : Keeps g (index_parameter g T)
    unfolding index_parameter
    index_parameter_lem o s b =
        ends_then (binding_keeps o s b) λ x q d.
        ends_report_if (stands g Question q) g _ q (index_type g T (first g s) x) λ l.
        index_type_lem (first g s) x o (noted q l) d

    pub index_from_lem : (fuel : ℕ) (ps : IndexParameters) → Keeps g (index_from g T fuel ps)
    unfolding index_from
    index_from_lem zero ps o s b = stops
    index_from_lem (suc fuel) ps o s b =
        ends_test (stands g RBrack s) (λ _ _. ends b) λ _ _.
        ends_then (index_parameter_lem o s b) λ p q d.
        let v = freed (has_one ps) s q in
        let e = freed_same (has_one ps) s q d in
        ends_test (stands g RBrack v) (λ _ _. ends e) λ _ _.
        mark_keeps Comma refl v e stopped λ f _.
        ends_report_if (stands g RBrack (next v)) g _ (next v) (index_from g T fuel (with_one ps p)) λ l.
        index_from_lem fuel (with_one ps p) o (noted (next v) l) f

    index_keeps : (n : ℕ) (readonly : Bool) → KeepsIf g (stands g LBrack) (index g T n readonly)
    unfolding index
    index_keeps n readonly o s e b =
        ends_then (index_from_lem (turns g) no_index (next s) (next s) level_here) λ ps q d.
        close_keeps RBrack brack_closes q d stopped λ f _.
        index_noted n ps (next q) (λ q. expect g Colon q λ q. then (T true q) λ t q. member_end g q λ q. make g [] (node.index_signature n (end g q) readonly (kept ps) t) q) λ l.
        mark_keeps Colon refl (noted (next q) l) (round b (open_next g LBrack brack_opens s e) f) stopped λ i _.
        ends_then (h true o (next (noted (next q) l)) i) λ t p j.
        end_keeps p (λ q. make g [] (node.index_signature n (end g q) readonly (kept ps) t) q) j λ v k.
        ends_make g _ _ v k

    property_keeps : (n : ℕ) (readonly : Bool) (k : PropertyKey) (question : Bool) → Keeps g (property g T n readonly k question)
    unfolding property
    property_keeps n readonly k question o s b =
        ends_then (optional_keeps Colon refl (T true) (h true) o s b) λ t q d.
        end_keeps q (λ q. make g [] (node.property n (end g q) readonly k question t) q) d λ p e.
        ends_make g _ _ p e

    key_keeps : (n : ℕ) (readonly : Bool) → Keeps g (with_key g T n readonly)
    unfolding with_key
    key_keeps n readonly o s b =
        ends_test (not (property_key (kind g s))) stopped λ i _.
        let q = past g Question (next s) in
        let d = flat_past g Question refl (next s) (flat_next g property_key refl s (not-false (property_key (kind g s)) i) b) in
        ends_test (signs (kind g q)) (λ _ _. signature_keeps n _ o q d) λ _ _.
        property_keeps n readonly _ _ o q d

    behind_readonly_lem : (n : ℕ) (readonly : Bool) → Keeps g (behind_readonly g T n readonly)
    unfolding behind_readonly
    behind_readonly_lem n readonly o s b =
        ends_test (unsupported_here g s) stopped λ _ _.
        ends_test (not (stands g LBrack s)) (λ _ _. key_keeps n readonly o s b) λ i _.
        ends_test (index_start g.words s.at) (λ _ _. index_keeps n readonly o s (not-false (stands g LBrack s) i) b) stopped

    member_keeps : Keeps g (objectMember g T)
    unfolding objectMember
    member_keeps o s b =
        ends_test (signs (kind g s)) (λ _ _. signature_keeps (first g s) of_call o s b) λ _ _.
        ends_test (constructs g s) (λ i _. signature_keeps (first g s) of_construct o (next s) (flat_next g (λ k. eqb k New) refl s (both_true (stands g New s) _ i).0 b)) λ _ _.
        ends_test (is_readonly g s) (λ i _. behind_readonly_lem (first g s) true o (next s) (flat_next g (λ k. eqb k Readonly) refl s (both_true (stands g Readonly s) _ i).0 b)) λ _ _.
        behind_readonly_lem (first g s) false o s b

    members_close : (fuel : ℕ) (l : List Placed) → Closes g (members_from g T fuel l)
    unfolding members_from
    members_close zero l o s b = stops
    members_close (suc fuel) l o s b =
        close_keeps RCurly curly_closes s b (λ _ _. ends_then (member_keeps o s b) λ t q d. members_close fuel (l ++ (t ∷ [])) o q d) λ d _. ends d

    object_keeps : Keeps g (object g T)
    unfolding object
    object_keeps o s b =
        open_keeps LCurly curly_opens s stopped λ r _.
        ends_then (members_close (turns g) [] (next s) (next s) level_here) λ l q d.
        ends_make g _ _ q (round b r d)

    -- ---- Template

    pieces_from_lem : (fuel : ℕ) (l : List (Placed × Spelling)) → Closes g (pieces_from g T fuel l)
    unfolding pieces_from
    pieces_from_lem zero l o s b = stops
    pieces_from_lem (suc fuel) l o s b =
        ends_then (h true o s b) λ t q d.
        mark_keeps TemplateMiddle refl q d (λ _ _. close_keeps TemplateTail tail_closes q d stopped λ e _. ends e) λ e _.
        pieces_from_lem fuel (l ++ ((t, spelling g q) ∷ [])) o (next q) e

    pieces_keep : KeepsIf g (λ s. among (NoSubstitutionTemplate ∷ TemplateHead ∷ []) (kind g s)) (pieces g T)
    unfolding pieces
    pieces_keep o s e b =
        mark_keeps NoSubstitutionTemplate refl s b (λ i _. ends_round b (open_next g TemplateHead head_opens s (one (stands g TemplateHead s) (rw i at e))) (pieces_from_lem (turns g) [] (next s) (next s) level_here)) λ d _. ends d
      where
        one : (c : Bool) → (c or false) ≡ true → c ≡ true
        one true j = refl
        one false j = j

    template_keeps : KeepsIf g (λ s. among (NoSubstitutionTemplate ∷ TemplateHead ∷ []) (kind g s)) (template g T)
    unfolding template
    template_keeps o s e b = ends_then (pieces_keep o s e b) λ l q d. ends_make g _ _ q d

    -- ---- Primary

    keyword_keeps : (f : ℕ → Bool) → flat f ≡ true → KeepsIf g (λ s. f (kind g s)) (keyword g)
    unfolding keyword
    keyword_keeps f k o s e b = ends_make g _ _ (next s) (flat_next g f k s e b)

    literal_keeps : KeepsIf g (λ s. among literals (kind g s)) (literal g)
    unfolding literal
    literal_keeps o s e b = ends_make g _ _ (next s) (flat_next g (among literals) refl s e b)

    negative_keeps : KeepsIf g (is_negative g) (negative g)
    unfolding negative
    negative_keeps o s e b =
        let p = both_true (stands g Minus s) _ e in
        ends_make g _ _ (next (next s)) (flat_next g (among (NumberLiteral ∷ BigIntLiteral ∷ [])) refl (next s) p.1 (flat_next g (λ k. eqb k Minus) refl s p.0 b))

    this_keeps : KeepsIf g (stands g This) (this g T)
    unfolding this
    this_keeps o s e b =
        ends_test (not (on_line g (next s) and stands g Is (next s))) (λ _ _. keyword_keeps (λ k. eqb k This) refl o s e b) λ i _.
        let is = (both_true (on_line g (next s)) _ (not-false (on_line g (next s) and stands g Is (next s)) i)).1 in
        ends_then (h true o (next (next s)) (flat_next g (λ k. eqb k Is) refl (next s) is (flat_next g (λ k. eqb k This) refl s e b))) λ t q d.
        ends_make g _ _ q d

    assertion_keeps : KeepsIf g (is_assertion g) (assertion g T)
    unfolding assertion
    assertion_keeps o s e b =
        let p = both_true (stands g Asserts s) _ e in
        let d = flat_next g (λ k. eqb k Asserts) refl s p.0 b in
        let f = flat_next g class.name refl (next s) (both_true (class.name (kind_after g 1 s)) _ p.1).0 d in
        ends_then (optional_keeps Is refl (T true) (h true) o (next (next s)) f) λ t q i.
        ends_make g _ _ q i

    query_keeps : KeepsIf g (stands g Typeof) (query g T)
    unfolding query
    query_keeps o s e b =
        let d = flat_next g (λ k. eqb k Typeof) refl s e b in
        ends_test (stands g Import (next s)) (λ _ _. import_keeps (first g s) true o (next s) d) λ _ _.
        named_keeps _ (first g s) o (next s) d

    pub brackets_close : (s : State) → Ends (Behind g (next s)) (brackets g T s)
    unfolding brackets
    brackets_close s =
        ends_then (h true (next s) (next s) level_here) λ t q d.
        close_keeps RParen paren_closes q d stopped λ e _.
        ends_test g.parens (λ _ _. ends_make g _ _ (next q) e) λ _ _. ends e

    brackets_keep : KeepsIf g (stands g LParen) (brackets g T)
    brackets_keep o s e b = ends_round b (open_next g LParen paren_opens s e) (brackets_close s)

    enclosed_keeps : Keeps g (enclosed g T)
    unfolding enclosed curly reference
    enclosed_keeps o s b =
        ends_test (stands g LCurly s) (λ _ _. ends_test (mapped_start g.words s.at) (λ _ _. mapped_keeps o s b) λ _ _. object_keeps o s b) λ _ _.
        ends_test (stands g LBrack s) (λ e _. tuple_keeps o s e b) λ _ _.
        ends_test (stands g LParen s) (λ e _. brackets_keep o s e b) λ _ _.
        ends_test (among (NoSubstitutionTemplate ∷ TemplateHead ∷ []) (kind g s)) (λ e _. template_keeps o s e b) λ _ _.
        ends_test (class.binding_word (kind g s)) (λ _ _. named_keeps _ (first g s) o s b) λ _ _.
        ends_test (among (Question ∷ Bang ∷ Star ∷ []) (kind g s)) stopped stopped

    worded_keeps : Keeps g (worded g T)
    unfolding worded
    worded_keeps o s b =
        ends_test (is_assertion g s) (λ e _. assertion_keeps o s e b) λ _ _.
        ends_test (stands g Typeof s) (λ e _. query_keeps o s e b) λ _ _.
        ends_test (stands g Import s) (λ _ _. import_keeps (first g s) false o s b) λ _ _.
        enclosed_keeps o s b

    primary_keeps : Keeps g (primary g T)
    unfolding primary
    primary_keeps o s b =
        ends_test (is_keyword g s) (λ e _. keyword_keeps (λ k. (between Any Unknown k and not (eqb (kind_after g 1 s) Dot)) or among (Null ∷ Void ∷ []) k) refl o s e b) λ _ _.
        ends_test (stands g This s) (λ e _. this_keeps o s e b) λ _ _.
        ends_test (among literals (kind g s)) (λ e _. literal_keeps o s e b) λ _ _.
        ends_test (is_negative g s) (λ e _. negative_keeps o s e b) λ _ _.
        worded_keeps o s b

    -- ---- Postfix

    pub bracketed_closes : (n : ℕ) (t : Placed) (s : State) → Ends (Behind g s) (bracketed g T n t s)
    unfolding bracketed
    bracketed_closes n t s =
        ends_test (not (starter g.words s.at)) (λ _ _. close_keeps RBrack brack_closes s level_here stopped λ e _. ends_make g _ _ (next s) e) λ _ _.
        ends_then (h true s s level_here) λ x q d.
        close_keeps RBrack brack_closes q d stopped λ e _. ends_make g _ _ (next q) e

    suffix_keeps : (n : ℕ) (t : Placed) → KeepsIf g (suffixed g) (suffix g T n t)
    unfolding suffix
    suffix_keeps n t o s e b =
        mark_keeps Bang refl s b
        (λ i _.
        mark_keeps Question refl s b (λ j _. ends_round b (open_next g LBrack brack_opens s (last i j)) (bracketed_closes n t (next s))) λ d _. ends_make g _ _ (next s) d) λ d _. ends_make g _ _ (next s) d
      where
        last : stands g Bang s ≡ false → stands g Question s ≡ false → stands g LBrack s ≡ true
        last i j = rw (i, j) at (both_true (on_line g s) _ e).1

    postfix_from_lem : (n fuel : ℕ) (t : Placed) → Keeps g (postfix_from g T n fuel t)
    unfolding postfix_from
    postfix_from_lem n zero t o s b = stops
    postfix_from_lem n (suc fuel) t o s b =
        ends_test (suffixed g s) (λ e _. ends_then (suffix_keeps n t o s e b) λ u q d. postfix_from_lem n fuel u o q d) λ _ _. ends b

    postfix_keeps : Keeps g (postfix g T)
    unfolding postfix
    postfix_keeps o s b = ends_then (primary_keeps o s b) λ t q d. postfix_from_lem (first g s) (turns g) t o q d

    -- ---- Infer

    trial_keeps : (on : Bool) → Keeps g (trial g T on)
    unfolding trial
    trial_keeps on o s b =
        ends_test (not (stands g Extends s)) (λ _ _. ends b) λ i _.
        ends_test (on and leb most_trials s.tally.trials) stopped λ _ _.
        let d = flat_next g (λ k. eqb k Extends) refl s (not-false (stands g Extends s) i) b in
        ends_then (h false o (openedTrial on (next s)) (open_same on d)) λ t q e.
        ends_test (on and stands g Question q) (λ _ _. ends b) λ _ _. ends e
      where
        open_same : (on : Bool) → Level g.words 0 o.at o.half (s.at + 1) 0 → Balanced g o (openedTrial on (next s))
        open_same true d = d
        open_same false d = d

    infer_keeps : (on : Bool) → KeepsIf g (stands g Infer) (infer g T on)
    unfolding infer
    infer_keeps on o s e b =
        ends_then (bound_keeps o (next s) (flat_next g (λ k. eqb k Infer) refl s e b)) λ x q d.
        ends_then (trial_keeps on o q d) λ c p f.
        ends_make g _ _ p f

    -- ---- Operator

    operator_from_lem : (on : Bool) (fuel : ℕ) → Keeps g (operator_from g T on fuel)
    unfolding operator_from operand
    operator_from_lem on zero o s b = stops
    operator_from_lem on (suc fuel) o s b =
        ends_test (not (among operators (kind g s))) (λ _ _. ends_test (stands g Infer s) (λ e _. infer_keeps on o s e b) λ _ _. postfix_keeps o s b) λ i _.
        ends_then (operator_from_lem on fuel o (next s) (flat_next g (among operators) refl s (not-false (among operators (kind g s)) i) b)) λ t q d.
        ends_make g _ _ q d

    -- ---- Union, intersection

    module _ (mark : ℕ) (ok : flat (λ j. eqb j mark) ≡ true) (make : ℕ → ℕ → List Placed → Placed) (part : State → Result Placed) (keeps : Keeps g part) where
      parts_from_lem : (fuel : ℕ) (l : List Placed) → Keeps g (parts_from g mark part fuel l)
      unfolding parts_from
      parts_from_lem zero l o s b = stops
      parts_from_lem (suc fuel) l o s b =
          mark_keeps mark ok s b (λ _ _. ends b) λ d _.
          ends_then (keeps o (next s) d) λ t q e.
          parts_from_lem fuel (l ++ (t ∷ [])) o q e

      joined_keeps : Keeps g (joined g mark make part)
      unfolding joined
      joined_keeps o s b =
          ends_then (keeps o (past g mark s) (flat_past g mark ok s b)) λ t q d.
          ends_test (not (stands g mark s or stands g mark q)) (λ _ _. ends d) λ _ _.
          ends_then (parts_from_lem (turns g) (t ∷ []) o q d) λ l p e.
          ends_make g _ _ p e

    -- ---- Type

    operator_keeps : (on : Bool) → Keeps g (operator g T on)
    unfolding operator
    operator_keeps on = operator_from_lem on (turns g)

    intersection_keeps : (on : Bool) → Keeps g (intersection g T on)
    unfolding intersection
    intersection_keeps on = joined_keeps Amp refl _ (operator g T on) (operator_keeps on)

    union_keeps : (on : Bool) → Keeps g (union g T on)
    unfolding union
    union_keeps on = joined_keeps Pipe refl _ (intersection g T on) (intersection_keeps on)

    conditional_keeps : (n : ℕ) (t : Placed) → KeepsIf g (stands g Extends) (conditional g T n t)
    unfolding conditional
    conditional_keeps n t o s e b =
        ends_then (h false o (next s) (flat_next g (λ k. eqb k Extends) refl s e b)) λ _ q d.
        mark_keeps Question refl q d stopped λ f _.
        ends_then (h true o (next q) f) λ _ p i.
        mark_keeps Colon refl p i stopped λ j _.
        ends_then (h true o (next p) j) λ _ v k.
        ends_make g _ _ v k

    type_keeps : (on : Bool) → Keeps g (typeRule g T on)
    unfolding typeRule union_or_conditional
    type_keeps on o s b =
        ends_test (begins (function_start g.words s.at s.half)) (λ _ _. function_keeps on o s b) λ _ _.
        ends_then (union_keeps on o s b) λ t q d.
        ends_test (on and on_line g q and stands g Extends q) (λ e _. conditional_keeps (first g s) t o q (both_true (on_line g q) _ (both_true on _ e).1).1 d) λ _ _. ends d

-- ---- All rules together

pub types_keep : (g : Given) (n : ℕ) (on : Bool) → Keeps g (read_type g n on)
unfolding read_type
types_keep g zero on = λ o s b. stops
types_keep g (suc n) on = λ o s b. type_keeps g (read_type g n) (types_keep g n) on o (entering s) b
