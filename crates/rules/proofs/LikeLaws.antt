-- One law for each rule: two readings of like lists, from the same cursor on, read alike.
use mathlib.Core.Path.{◌≡◌, refl, ap, ap₂}
use mathlib.Core.Bool.{Bool, true, false, not}
use mathlib.Core.List.{List, [], ◌∷◌}
use Prim.Native.Nat.{ℕ, zero, suc, ◌+◌, ◌≤◌}
use native.Mathlib.Omega.{arith}
use lib.Dec.{leb}
use Rattle.words.specs.Limits.{most_open, most_trials, most_entered}
use Rattle.words.specs.Test.{◌and◌, ◌or◌, among, test}
use Rattle.words.specs.Class as class
use Rattle.words.specs.Kind.{Str, NoSubstitutionTemplate, TemplateHead, TemplateMiddle, TemplateTail, LCurly, RCurly, LBrack, RBrack, LParen, RParen, LAngle, RAngle, Pipe, Amp, Question, Colon, Comma, Semicolon, Dot, Dot3, Arrow, Eq, Bang, Minus, Plus, Star, Abstract, As, Infer, Is, Readonly, Extends, Import, In, New, This, True, False, Typeof}
use Rattle.words.specs.Ahead.{property_key}
use Rattle.keys.specs.Form.{choice}
use Rattle.keys.specs.Placed as node
use Rattle.keys.specs.Placed.{Placed, join, tree, bare, Opt, absent, present, listed, listed_names, maybe, maybe_list, subject_of, literal_spelling, is_asked, is_rest, as_element}
use Rattle.keys.proofs.BitsLaws.{clash}
use Rattle.rules.specs.State.{Given, State, Result, Reader, read, begin, first, end, spelling, turns, optional, make, report_if}
use Rattle.rules.specs.Refusal.{many_trials}
use Rattle.rules.specs.Notes.{note, asked_after_label}
use Rattle.rules.specs.Names.{name, binding_word, reserved, bound, dots_from, dotted}
use Rattle.rules.specs.List.{list_from, list}
use Rattle.rules.specs.Arguments.{opens, opened, arguments, named, import_from, import_type}
use Rattle.rules.specs.TypeParameters.{varies, type_parameter, type_parameters}
use Rattle.rules.specs.Function.{ThisParameter, predicates, subject, freed, separated, report_this, parameter, parameters_from, this_first, parameters, return_type, function_node, function}
use Rattle.rules.specs.Union.{parts_from, joined, intersection, union}
use Rattle.rules.specs.Operator.{operators, operand, operator_from, operator}
use Rattle.rules.specs.Infer.{none, kept as keptTrial, dropped, opened as openedTrial, trial, infer}
use Rattle.rules.specs.Postfix.{suffixed, bracketed, suffix, postfix_from, postfix}
use Rattle.rules.specs.Primary.{literals, is_keyword, is_negative, is_assertion, keyword, literal, negative, this, assertion, query, curly, brackets, reference, enclosed, worded, primary}
use Rattle.rules.specs.Mapped.{modifier, mapped}
use Rattle.rules.specs.Object.{Signature, of_call, of_construct, is_construct, signature_node, IndexParameters, no_index, kept, key_sort, key_here, signs, constructs, member_end, this_noted, report_index, signature, index_type, index_parameter, index_from, index, property, with_key, behind_readonly, member as objectMember, members_from, object}
use Rattle.rules.specs.Tuple.{latest_optional, report_required, is_optional_element, labelled, member_node, member as namedMember, rest_of, labelled_element, element as elementRule, checked_element, tuple}
use Rattle.rules.specs.Template.{pieces_from, pieces, template}
use Rattle.rules.specs.TypeRule.{begins, conditional, union_or_conditional, type as typeRule}
use Rattle.rules.specs.Reading.{read_type, reading}
use Rattle.rules.specs.Like.{Like}
use Rattle.rules.proofs.LikeWords.{starter_at, modifies_at, function-at, mapped_at, index_at, readonly_at, modifier_at, accessor_at}
use Rattle.rules.proofs.Gives.{itself}
use Rattle.rules.proofs.LikeValues.{Pair, test_like, twice, presents, present_lists, listed_pieces, listed_more, names_more, pieces_with, same_none, same_count, same_many, same_element, same_asked, same_rest, same_optional, same_literal, same_no_index, same_latest}
use Rattle.rules.proofs.LikeParts.{shape_of_this, shape_of_parameters, with_this, shape_of_trial, shape_of_parameter, shape_of_index, Indexes, none_index, one_index_lem, several_index_lem, indexes, same_has, same_kept, index_more}
use Rattle.rules.proofs.Beside.{Pace, Grown, Near, Abreast, Beside, both, stopped, left_out, right_out, Twins, Agree, nexts, here, refusal, beside_test, beside_limit, beside_then, enterings, openeds as moreTrials, untried, same_kind, same_stands, same_after, same_line_lem, same_next_line, spelled, pasts, beside_expect, beside_report, beside_report_if, beside_make}

module _ {pace : Pace} {g h : Given} (w : Twins pace g h) where
  -- ---- Lists

  module _ (close : ℕ) (entry entry' : List Placed → State → Result Placed) (reads : (l : Pair listed) → Agree pace itself (entry l.one) (entry' l.other)) where
    list_from_lem : (fuel : ℕ) (l : Pair listed) → Agree pace listed (list_from g close entry fuel l.one) (list_from h close entry' fuel l.other)
    unfolding list_from
    list_from_lem zero l x = refusal x tt
    list_from_lem (suc fuel) l x =
        beside_test (same_stands w close x) (λ _. both l (nexts x)) λ _.
        beside_then _ _ (reads l x) λ t q.
        beside_test (same_stands w close q) (λ _. both (listed_more l t) (nexts q)) λ _.
        beside_expect w Comma q λ _.
        list_from_lem fuel (listed_more l t) (nexts q)

    list_like : Agree pace listed (list g close entry) (list h close entry')
    unfolding list
    list_like x = rw w.like.many (list_from_lem (turns h) (twice []) x)

  -- ---- Names

  name_like : Agree pace node.spell (name g) (name h)
  unfolding name
  name_like x = beside_test (ap class.name (same_kind w x)) (λ _. both (spelled w x) (nexts x)) (refusal x)

  binding_like : Agree pace node.spell (binding_word g) (binding_word h)
  unfolding binding_word
  binding_like x = beside_test (ap class.binding_word (same_kind w x)) (λ _. both (spelled w x) (nexts x)) (refusal x)

  bound_like : Agree pace node.spell (bound g) (bound h)
  unfolding bound
  bound_like x =
      beside_then _ _ (binding_like x) λ n q.
      beside_report_if w (ap reserved (same_kind w x)) _ _ refl q _ _ λ q.
      both n q

  dots_like : (fuel : ℕ) (l : Pair listed_names) → Agree pace listed_names (dots_from g fuel l.one) (dots_from h fuel l.other)
  unfolding dots_from
  dots_like zero l x = refusal x tt
  dots_like (suc fuel) l x =
      beside_test (same_stands w Dot x) (λ _. beside_then _ _ (name_like (nexts x)) λ n q. dots_like fuel (names_more l n) q) λ _.
      both l x

  dots_on : (l : Pair listed_names) → Agree pace listed_names (dots_from g (turns g) l.one) (dots_from h (turns h) l.other)
  dots_on l x = rw w.like.many (dots_like (turns h) l x)

  dotted_like : Agree pace listed_names (dotted g) (dotted h)
  unfolding dotted
  dotted_like x =
      beside_then _ _ (name_like x) λ n q.
      dots_on (record { one = n.one ∷ []; other = n.other ∷ []; same = cc }) q

  -- A part after a mark.
  optional_like : (k : ℕ) (part part' : State → Result Placed) → Agree pace itself part part' → Agree pace maybe (optional g k part) (optional h k part')
  optional_like k part part' f x =
      beside_test (same_stands w k x) (λ _. beside_then _ _ (f (nexts x)) λ t q. both (presents t) q) λ _.
      both (twice absent) x

  -- ---- Rules that read types

  module _ (T U : Reader) (reads : (on : Bool) → Agree pace itself (T on) (U on)) where
    optional_type : (k : ℕ) (on : Bool) → Agree pace maybe (optional g k (T on)) (optional h k (U on))
    optional_type k on = optional_like k (T on) (U on) (reads on)

    -- ---- Arguments

    openeds : Abreast pace → Abreast pace
    openeds x =
        record {
          one = opened g x.one;
          other = opened h x.other;
          near = test_like (Near pace) (same_stands w LAngle x) (λ _. (nexts x).near) λ _. record { at = x.near.at; half = refl; entered = x.near.entered; nodes = x.near.nodes; notes = x.near.notes; trials = x.near.trials };
        }

    arguments_like : Agree pace maybe_list (arguments g T) (arguments h U)
    unfolding arguments openeds
    arguments_like x =
        let o : opens g x.one ≡ opens h x.other = cc (same_line_lem w x, same_kind w x) in
        beside_test (ap not o) (λ _. both (twice absent) x) λ _.
        beside_then _ _ (list_like RAngle _ _ (λ l. reads true) (openeds x)) λ l q.
        beside_report_if w (same_none l) _ _ refl q _ _ λ q.
        both (present_lists l) q

    named_like : (tag b c : ℕ)
        → Agree pace itself (named g T (λ b e l o. tree tag b e (join (listed_names l) (maybe_list o))) b) (named h U (λ b e l o. tree tag b e (join (listed_names l) (maybe_list o))) c)
    unfolding named
    named_like tag b c x =
        beside_then _ _ (dotted_like x) λ l q.
        beside_then _ _ (arguments_like q) λ ts q.
        beside_make w (cc (same_many l, same_count ts)) _ _ (cc) q

    import_from_lem : (b c : ℕ) (isTypeof : Bool) (v : Pair node.spell) → Agree pace itself (import_from g T b isTypeof v.one) (import_from h U c isTypeof v.other)
    unfolding import_from
    import_from_lem b c isTypeof v x =
        beside_test (same_stands w Comma x) (refusal x) λ _.
        beside_expect w RParen x λ _.
        beside_then _ _ (dots_on (twice []) (nexts x)) λ l q.
        beside_then _ _ (arguments_like q) λ ts q.
        beside_make w (cc (same_many l, same_count ts)) _ _ (cc) q

    import_like : (b c : ℕ) (isTypeof : Bool) → Agree pace itself (import_type g T b isTypeof) (import_type h U c isTypeof)
    unfolding import_type
    import_like b c isTypeof x =
        beside_expect w Import x λ _.
        beside_expect w LParen (nexts x) λ _.
        let q = nexts (nexts x) in
        beside_test (same_stands w Str q) (λ _. import_from_lem b c isTypeof (spelled w q) (nexts q)) (refusal q)

    -- ---- Type parameters

    type_parameter_lem : (on : Bool) → Agree pace itself (type_parameter g T on) (type_parameter h U on)
    unfolding type_parameter
    type_parameter_lem on x =
        let v : varies g x.one ≡ varies h x.other = cc (same_kind w x, same_after w 1 x) in
        beside_test v (refusal x) λ _.
        beside_then _ _ (bound_like x) λ n q.
        beside_then _ _ (optional_type Extends on q) λ t q.
        beside_then _ _ (optional_type Eq on q) λ d q.
        beside_make w refl _ _ (cc) q

    type_parameters_lem : (on : Bool) → Agree pace maybe_list (type_parameters g T on) (type_parameters h U on)
    unfolding type_parameters
    type_parameters_lem on x =
        beside_test (ap not (same_stands w LAngle x)) (λ _. both (twice absent) x) λ _.
        beside_then _ _ (list_like RAngle _ _ (λ l. type_parameter_lem on) (nexts x)) λ l q.
        beside_report_if w (same_none l) _ _ refl q _ _ λ q.
        both (present_lists l) q

    -- ---- Function

    same_subject : (x : Abreast pace) → bare (subject_of (subject g x.one)) ≡ bare (subject_of (subject h x.other))
    same_subject x = test_like (λ a b. bare (subject_of a) ≡ bare (subject_of b)) (same_stands w This x) (λ _. refl) λ _. cc (spelled w x).same

    parameter_like : Agree pace itself (parameter g T) (parameter h U)
    unfolding parameter
    parameter_like x =
        let dots = same_stands w Dot3 x in
        let p = pasts w Dot3 x in
        beside_test (ap₂ ◌and◌ dots (same_stands w This p)) (refusal p) λ _.
        beside_then _ _ (binding_like p) λ n q.
        beside_then _ _ (optional_type Colon true (pasts w Question q)) λ t r.
        beside_make w refl _ _ (cc (dots, same_stands w Question q)) r

    module _ {A : Type 0} {shape : A → Placed} where
      beside_separated : {b c : Bool} → b ≡ c → (x : Abreast pace) (close close' on on' : State → Result A) → Agree pace shape close close' → Agree pace shape on on'
          → Beside pace shape (separated g b x.one close on) (separated h c x.other close' on')
      beside_separated e x close close' on on' f k =
          beside_test (same_stands w Eq x) (refusal x) λ _.
          beside_test (same_stands w RParen x) (λ _. f (nexts x)) λ _.
          beside_test (ap₂ ◌and◌ e (same_stands w Comma x)) (refusal x) λ _.
          beside_expect w Comma x λ _. k (nexts x)

      beside_this : (o : Pair shape_of_this) (x : Abreast pace) (on on' : State → Result A) → Agree pace shape on on' → Beside pace shape (report_this g o.one x.one on) (report_this h o.other x.other on')
      beside_this o x on on' f = by o.one o.other o.same
        where
          by : (a b : Opt ThisParameter) → bare (shape_of_this a) ≡ bare (shape_of_this b) → Beside pace shape (report_this g a x.one on) (report_this h b x.other on')
          by absent absent e = f x
          by absent (present b) e = clash (cc)
          by (present a) absent e = clash (cc)
          by (present a) (present b) e = beside_report w _ _ refl x on on' f

    parameters_from_lem : (o : Pair shape_of_this) (fuel : ℕ) (l : Pair listed)
        → Agree pace shape_of_parameters (parameters_from g T o.one fuel l.one) (parameters_from h U o.other fuel l.other)
    unfolding parameters_from
    parameters_from_lem o zero l x = refusal x tt
    parameters_from_lem o (suc fuel) l x =
        beside_test (same_stands w RParen x) (λ _. both (with_this o l) (nexts x)) λ _.
        beside_test (here (λ i _. modifies_at w.like i) x) (refusal x) λ _.
        beside_test (same_stands w This x) (refusal x) λ _.
        beside_then _ _ (parameter_like x) λ t q.
        beside_separated (same_stands w Dot3 x) q _ _ _ _ (λ q. both (with_this o (listed_more l t)) q) λ q.
        parameters_from_lem o fuel (listed_more l t) q

    parameters_on : (o : Pair shape_of_this) → Agree pace shape_of_parameters (parameters_from g T o.one (turns g) []) (parameters_from h U o.other (turns h) [])
    parameters_on o x = rw w.like.many (parameters_from_lem o (turns h) (twice []) x)

    -- What was taken since p is free again, by a test that both answer alike.
    freeds : {b c : Bool} → b ≡ c → Abreast pace → Abreast pace → Abreast pace
    freeds {b} {c} e p q = record { one = freed b p.one q.one; other = freed c p.other q.other; near = rw e (by c) }
      where
        by : (c : Bool) → Near pace (freed c p.one q.one) (freed c p.other q.other)
        by true = record { at = q.near.at; half = q.near.half; entered = q.near.entered; nodes = p.near.nodes; notes = q.near.notes; trials = q.near.trials }
        by false = q.near

    this_first_lem : {b c : Bool} → b ≡ c → Agree pace shape_of_parameters (this_first g T b) (this_first h U c)
    unfolding this_first freeds
    this_first_lem e x =
        beside_then _ _ (optional_type Colon true (nexts x)) λ t q.
        let o : Pair shape_of_this =
        record { one = present (record { first = first g x.one; end = end g q.one; type = t.one }); other = present (record { first = first h x.other; end = end h q.other; type = t.other }); same = cc } in
        beside_separated {b = false} refl (freeds e x q) _ _ _ _ (λ q. both (with_this o (twice [])) q) λ q.
        parameters_on o q

    parameters_like : {b c : Bool} → b ≡ c → Agree pace shape_of_parameters (parameters g T b) (parameters h U c)
    unfolding parameters
    parameters_like e x =
        beside_expect w LParen x λ _.
        beside_test (same_stands w This (nexts x)) (λ _. this_first_lem e (nexts x)) λ _.
        parameters_on (twice absent) (nexts x)

    return_like : Agree pace itself (return_type g T) (return_type h U)
    unfolding return_type
    return_like x =
        let p : predicates g x.one ≡ predicates h x.other = cc (same_kind w x, same_after w 1 x, same_next_line w x) in
        beside_test (ap not p) (λ _. reads true x) λ _.
        beside_then _ _ (reads true (nexts (nexts x))) λ t q.
        beside_make w refl _ _ (cc (same_subject x)) q

    function_node_lem : (b c : ℕ) {isNew isNew' isAbstract isAbstract' : Bool} → isNew ≡ isNew' → isAbstract ≡ isAbstract' → (ts : Pair maybe_list) (ps : Pair shape_of_parameters) (r : Pair itself)
        → Agree pace itself (function_node g T b isNew isAbstract ts.one ps.one r.one) (function_node h U c isNew' isAbstract' ts.other ps.other r.other)
    unfolding function_node
    function_node_lem b c e f ts ps r x =
        beside_test (ap not e) (λ _. beside_make w (cc (same_count ts)) _ _ (cc) x) λ _.
        beside_this (record { one = ps.one.this; other = ps.other.this; same = cc }) x _ _ λ q.
        beside_make w (cc (same_count ts)) _ _ (cc) q

    function_like : (on : Bool) → Agree pace itself (function g T on) (function h U on)
    unfolding function
    function_like on x =
        let p = pasts w Abstract x in
        beside_then _ _ (type_parameters_lem on (pasts w New p)) λ ts q.
        beside_then _ _ (parameters_like (same_stands w New p) q) λ ps q.
        beside_expect w Arrow q λ _.
        beside_then _ _ (return_like (nexts q)) λ r q.
        function_node_lem _ _ (same_stands w New p) (same_stands w Abstract x) ts ps r q

    -- ---- Tuple

    member_node_lem : (label type : Abreast pace) {b c : Bool} → b ≡ c → (t : Pair itself)
        → Agree pace itself (member_node g T label.one type.one b t.one) (member_node h U label.other type.other c t.other)
    unfolding member_node
    member_node_lem label type e t x =
        beside_then _ _ (beside_make w refl _ _ (cc ((spelled w label).same, same_element t)) x) λ e q.
        beside_report_if w (same_stands w Dot3 type) _ _ refl q
        (λ q. report_if (is_asked t.one) g (note asked_after_label (first g type.one) (end g q)) q (read e.one))
        (λ q. report_if (is_asked t.other) h (note asked_after_label (first h type.other) (end h q)) q (read e.other)) λ q.
        beside_report_if w (same_asked t) _ _ refl q _ _ λ q.
        both e q

    named_member : Agree pace itself (namedMember g T) (namedMember h U)
    unfolding namedMember
    named_member x =
        let p = pasts w Question (nexts x) in
        beside_expect w Colon p λ _.
        beside_then _ _ (reads true (pasts w Dot3 (nexts p))) λ t q.
        member_node_lem x (nexts p) (same_stands w Question (nexts x)) t q

    rest_like : (p : Abreast pace) (e : Pair itself) → Agree pace itself (rest_of g T p.one e.one) (rest_of h U p.other e.other)
    unfolding rest_of
    rest_like p e x =
        beside_report_if w (same_stands w Question (nexts (nexts p))) _ _ refl x
        (λ q. make g [] (node.rest (first g p.one) (end g q) e.one) q) (λ q. make h [] (node.rest (first h p.other) (end h q) e.other) q) λ q.
        beside_make w refl _ _ (cc) q

    labelled_like : Agree pace itself (labelled_element g T) (labelled_element h U)
    unfolding labelled_element
    labelled_like x =
        beside_then _ _ (named_member (pasts w Dot3 x)) λ e q.
        beside_test (same_stands w Dot3 x) (λ _. rest_like x e q) λ _.
        both e q

    element_like : Agree pace itself (elementRule g T) (elementRule h U)
    unfolding elementRule
    element_like x =
        let p = pasts w Dot3 x in
        let l : labelled g p.one ≡ labelled h p.other = cc (same_kind w p, same_after w 1 p, same_after w 2 p) in
        beside_test l (λ _. labelled_like x) λ _.
        beside_then _ _ (reads true p) λ t q.
        beside_test (same_stands w Dot3 x) (λ _. beside_make w refl _ _ (cc) q) λ _.
        both (record { one = as_element t.one; other = as_element t.other; same = same_element t }) q

    beside_required : (o : Pair maybe) (e : Pair itself) → Agree pace itself (report_required g o.one e.one) (report_required h o.other e.other)
    beside_required o e x = by o.one o.other o.same
      where
        required : not (is_optional_element e.one) and not (is_rest e.one) ≡ not (is_optional_element e.other) and not (is_rest e.other)
        required = ap₂ (λ a b. not a and not b) (same_optional e) (same_rest e)

        by : (a b : Opt Placed) → bare (maybe a) ≡ bare (maybe b) → Beside pace itself (report_required g a e.one x.one) (report_required h b e.other x.other)
        by absent absent i = both e x
        by absent (present b) i = clash (cc)
        by (present a) absent i = clash (cc)
        by (present a) (present b) i = beside_report_if w required _ _ refl x _ _ λ q. both e q

    checked_like : (l : Pair listed) → Agree pace itself (checked_element g T l.one) (checked_element h U l.other)
    unfolding checked_element
    checked_like l x =
        beside_then _ _ (element_like x) λ e q.
        beside_required (record { one = latest_optional l.one; other = latest_optional l.other; same = same_latest l }) e q

    tuple_like : Agree pace itself (tuple g T) (tuple h U)
    unfolding tuple
    tuple_like x =
        beside_expect w LBrack x λ _.
        beside_then _ _ (list_like RBrack _ _ checked_like (nexts x)) λ l q.
        beside_make w (cc) _ _ (cc) q

    -- ---- Template

    pieces_from_lem : (fuel : ℕ) (l : Pair listed_pieces) → Agree pace listed_pieces (pieces_from g T fuel l.one) (pieces_from h U fuel l.other)
    unfolding pieces_from
    pieces_from_lem zero l x = refusal x tt
    pieces_from_lem (suc fuel) l x =
        beside_then _ _ (reads true x) λ t q.
        let m = pieces_with l t (spelled w q) in
        beside_test (same_stands w TemplateMiddle q) (λ _. pieces_from_lem fuel m (nexts q)) λ _.
        beside_test (same_stands w TemplateTail q) (λ _. both m (nexts q)) (refusal q)

    pieces_like : Agree pace listed_pieces (pieces g T) (pieces h U)
    unfolding pieces
    pieces_like x =
        beside_test (same_stands w NoSubstitutionTemplate x) (λ _. both (twice []) (nexts x)) λ _.
        rw w.like.many (pieces_from_lem (turns h) (twice []) (nexts x))

    template_like : Agree pace itself (template g T) (template h U)
    unfolding template
    template_like x =
        beside_then _ _ (pieces_like x) λ l q.
        beside_make w (cc) _ _ (cc (spelled w x).same) q

    -- ---- Mapped

    modifier_like : (k : ℕ) → Agree pace node.number (modifier g k) (modifier h k)
    unfolding modifier
    modifier_like k x =
        beside_test (same_stands w k x) (λ _. both (twice 1) (nexts x)) λ _.
        beside_test (same_stands w Plus x) (λ _. beside_expect w k (nexts x) λ _. both (twice 2) (nexts (nexts x))) λ _.
        beside_test (same_stands w Minus x) (λ _. beside_expect w k (nexts x) λ _. both (twice 3) (nexts (nexts x))) λ _.
        both (twice 0) x

    mapped_like : Agree pace itself (mapped g T) (mapped h U)
    unfolding mapped
    mapped_like x =
        beside_expect w LCurly x λ _.
        beside_then _ _ (modifier_like Readonly (nexts x)) λ readonly q.
        beside_expect w LBrack q λ _.
        beside_then _ _ (binding_like (nexts q)) λ key q.
        beside_expect w In q λ _.
        beside_then _ _ (reads true (nexts q)) λ c q.
        beside_then _ _ (optional_type As true q) λ n q.
        beside_expect w RBrack q λ _.
        beside_then _ _ (modifier_like Question (nexts q)) λ question q.
        beside_then _ _ (optional_type Colon true q) λ t q.
        beside_expect w RCurly (pasts w Semicolon q) λ _.
        beside_make w refl _ _ (cc) (nexts (pasts w Semicolon q))

    -- ---- Object

    -- A member's end, and its node by where that ends.
    beside_end : {l l' : List ℕ} → l ≡ l' → (make-one make-other : ℕ → Placed) → ((e e' : ℕ) → bare (make-one e) ≡ bare (make-other e'))
        → Agree pace itself (λ s. member_end g s λ q. make g l (make-one (end g q)) q) (λ s. member_end h s λ q. make h l' (make-other (end h q)) q)
    beside_end i a b f x =
        beside_test (ap (among (Comma ∷ Semicolon ∷ [])) (same_kind w x)) (λ _. beside_make w i _ _ (f _ _) (nexts x)) λ _.
        beside_test (ap₂ (λ a b. a or not b) (same_stands w RCurly x) (same_line_lem w x)) (λ _. beside_make w i _ _ (f _ _) x) (refusal x)

    beside_index : {A : Type 0} {shape : A → Placed} (b c : ℕ) (ps : Pair shape_of_index) (x : Abreast pace) (on on' : State → Result A) → Agree pace shape on on'
        → Beside pace shape (report_index g b ps.one x.one on) (report_index h c ps.other x.other on')
    beside_index {shape = shape} b c ps x on on' f = by (indexes ps)
      where
        by : {i j : IndexParameters} → Indexes i j → Beside pace shape (report_index g b i x.one on) (report_index h c j x.other on')
        by none_index = beside_report w _ _ refl x on on' f
        by (one_index_lem p q e) =
            let t : Pair itself = record { one = p.type; other = q.type; same = cc } in
            beside_test (same_literal t) (λ _. beside_report w _ _ refl x on on' f) λ _.
            beside_report_if w (same_no_index t) _ _ refl x on on' f
        by (several_index_lem p q e) = beside_report w _ _ refl x on on' f

    -- By a signature's sort, and the node that it makes of alike parts.
    signature_like : (b c : ℕ) (v v' : Signature) → is_construct v ≡ is_construct v'
        → ((e e' : ℕ) (ts : Pair maybe_list) (ps : Pair shape_of_parameters) (r : Pair maybe) → bare (signature_node b e v ts.one ps.one r.one) ≡ bare (signature_node c e' v' ts.other ps.other r.other))
        → Agree pace itself (signature g T b v) (signature h U c v')
    unfolding signature
    signature_like b c v v' e f x =
        beside_then _ _ (type_parameters_lem true x) λ ts q.
        beside_then _ _ (parameters_like e q) λ ps q.
        let o : Pair shape_of_this = record { one = this_noted v ps.one.this; other = this_noted v' ps.other.this; same = test_like (λ a b. bare (shape_of_this a) ≡ bare (shape_of_this b)) e (λ _. cc ps.same) λ _. refl } in
        beside_this o q _ _ λ q.
        beside_then _ _ (optional_like Colon _ _ return_like q) λ r q.
        beside_end (cc (same_count ts)) (λ e. signature_node b e v ts.one ps.one r.one) (λ e. signature_node c e v' ts.other ps.other r.other) (λ e e'. f e e' ts ps r) q

    index_type_lem : (b c : ℕ) (n : Pair node.spell) → Agree pace shape_of_parameter (index_type g T b n.one) (index_type h U c n.other)
    unfolding index_type
    index_type_lem b c n x =
        let p = pasts w Question x in
        beside_expect w Colon p λ _.
        beside_then _ _ (reads true (nexts p)) λ t q.
        both (record {
          one = record { first = b; end = end g q.one; name = n.one; type = t.one };
          other = record { first = c; end = end h q.other; name = n.other; type = t.other };
          same = cc;
        })
        q

    index_parameter_lem : Agree pace shape_of_parameter (index_parameter g T) (index_parameter h U)
    unfolding index_parameter
    index_parameter_lem x =
        beside_then _ _ (binding_like x) λ n q.
        beside_report_if w (same_stands w Question q) _ _ refl q _ _ λ q.
        index_type_lem (first g x.one) (first h x.other) n q

    index_from_lem : (fuel : ℕ) (ps : Pair shape_of_index) → Agree pace shape_of_index (index_from g T fuel ps.one) (index_from h U fuel ps.other)
    unfolding index_from freeds
    index_from_lem zero ps x = refusal x tt
    index_from_lem (suc fuel) ps x =
        beside_test (same_stands w RBrack x) (λ _. both ps x) λ _.
        beside_then _ _ (index_parameter_lem x) λ p q.
        let q = freeds (same_has ps) x q in
        beside_test (same_stands w RBrack q) (λ _. both (index_more ps p) q) λ _.
        beside_expect w Comma q λ _.
        beside_report_if w (same_stands w RBrack (nexts q)) _ _ refl (nexts q) _ _ λ r.
        index_from_lem fuel (index_more ps p) r

    index_on : Agree pace shape_of_index (index_from g T (turns g) no_index) (index_from h U (turns h) no_index)
    index_on x = rw w.like.many (index_from_lem (turns h) (twice no_index) x)

    index_like : (b c : ℕ) (readonly : Bool) → Agree pace itself (index g T b readonly) (index h U c readonly)
    unfolding index
    index_like b c readonly x =
        beside_then _ _ (index_on (nexts x)) λ ps q.
        beside_expect w RBrack q λ _.
        beside_index b c ps (nexts q) _ _ λ q.
        beside_expect w Colon q λ _.
        beside_then _ _ (reads true (nexts q)) λ t q.
        beside_end refl (λ e. node.index_signature b e readonly (kept ps.one) t.one) (λ e. node.index_signature c e readonly (kept ps.other) t.other) (λ e e'. cc (same_kept ps)) q

    -- The keys there.
    abbrev keys : Abreast pace → Pair node.spell_key
    keys x =
        record {
          one = key_here g x.one;
          other = key_here h x.other;
          same = ap₂ (λ (k : ℕ) v. choice (key_sort k) v) (same_kind w x) (spelled w x).same;
        }

    property_like : (b c : ℕ) (readonly : Bool) (k : Pair node.spell_key) {question question' : Bool} → question ≡ question'
        → Agree pace itself (property g T b readonly k.one question) (property h U c readonly k.other question')
    unfolding property
    property_like b c readonly k {question} {question'} i x =
        beside_then _ _ (optional_type Colon true x) λ t q.
        beside_end refl (λ e. node.property b e readonly k.one question t.one) (λ e. node.property c e readonly k.other question' t.other) (λ e e'. cc) q

    with_key_lem : (b c : ℕ) (readonly : Bool) → Agree pace itself (with_key g T b readonly) (with_key h U c readonly)
    unfolding with_key
    with_key_lem b c readonly x =
        let q = pasts w Question (nexts x) in
        let question = same_stands w Question (nexts x) in
        beside_test (ap (λ k. not (property_key k)) (same_kind w x)) (refusal x) λ _.
        beside_test (ap signs (same_kind w q)) (λ _. signature_like b c _ _ refl (λ e e' ts ps r. cc ((keys x).same, question)) q) λ _.
        property_like b c readonly (keys x) question q

    behind_readonly_lem : (b c : ℕ) (readonly : Bool) → Agree pace itself (behind_readonly g T b readonly) (behind_readonly h U c readonly)
    unfolding behind_readonly
    behind_readonly_lem b c readonly x =
        beside_test (ap₂ ◌or◌ (here (modifier_at w.like) x) (here (accessor_at w.like) x)) (refusal x) λ _.
        beside_test (ap not (same_stands w LBrack x)) (λ _. with_key_lem b c readonly x) λ _.
        beside_test (here (λ i _. index_at w.like i) x) (λ _. index_like b c readonly x) (refusal x)

    object_member : Agree pace itself (objectMember g T) (objectMember h U)
    unfolding objectMember
    object_member x =
        let new : constructs g x.one ≡ constructs h x.other = ap₂ ◌and◌ (same_stands w New x) (ap signs (same_after w 1 x)) in
        beside_test (ap signs (same_kind w x)) (λ _. signature_like _ _ of_call of_call refl (λ e e' ts ps r. cc) x) λ _.
        beside_test new (λ _. signature_like _ _ of_construct of_construct refl (λ e e' ts ps r. cc) (nexts x)) λ _.
        beside_test (here (readonly_at w.like) x) (λ _. behind_readonly_lem _ _ true (nexts x)) λ _.
        behind_readonly_lem _ _ false x

    members_from_lem : (fuel : ℕ) (l : Pair listed) → Agree pace listed (members_from g T fuel l.one) (members_from h U fuel l.other)
    unfolding members_from
    members_from_lem zero l x = refusal x tt
    members_from_lem (suc fuel) l x =
        beside_test (same_stands w RCurly x) (λ _. both l (nexts x)) λ _.
        beside_then _ _ (object_member x) λ t q.
        members_from_lem fuel (listed_more l t) q

    members_on : Agree pace listed (members_from g T (turns g) []) (members_from h U (turns h) [])
    members_on x = rw w.like.many (members_from_lem (turns h) (twice []) x)

    object_like : Agree pace itself (object g T) (object h U)
    unfolding object
    object_like x =
        beside_expect w LCurly x λ _.
        beside_then _ _ (members_on (nexts x)) λ l q.
        beside_make w (cc) _ _ (cc) q

    -- ---- Primary

    keyword_like : Agree pace itself (keyword g) (keyword h)
    unfolding keyword
    keyword_like x = beside_make w refl _ _ (cc (same_kind w x)) (nexts x)

    -- The spelling that a literal keeps.
    same_spelling : (x : Abreast pace) {b c : Bool} → b ≡ c
        → bare (literal_spelling (test b (λ _. absent) λ _. present (spelling g x.one))) ≡ bare (literal_spelling (test c (λ _. absent) λ _. present (spelling h x.other)))
    same_spelling x e = test_like (λ a b. bare (literal_spelling a) ≡ bare (literal_spelling b)) e (λ _. refl) λ _. (spelled w x).same

    literal_like : Agree pace itself (literal g) (literal h)
    unfolding literal
    literal_like x = beside_make w refl _ _ (cc (same_kind w x, same_spelling x (ap (among (True ∷ False ∷ [])) (same_kind w x)))) (nexts x)

    negative_like : Agree pace itself (negative g) (negative h)
    unfolding negative
    negative_like x = beside_make w refl _ _ (cc (same_kind w (nexts x), (spelled w (nexts x)).same)) (nexts (nexts x))

    this_like : Agree pace itself (this g T) (this h U)
    unfolding this
    this_like x =
        beside_test (ap₂ (λ a b. not (a and b)) (same_line_lem w (nexts x)) (same_stands w Is (nexts x))) (λ _. keyword_like x) λ _.
        beside_then _ _ (reads true (nexts (nexts x))) λ t q.
        beside_make w refl _ _ (cc) q

    assertion_like : Agree pace itself (assertion g T) (assertion h U)
    unfolding assertion
    assertion_like x =
        beside_then _ _ (optional_type Is true (nexts (nexts x))) λ t q.
        beside_make w refl _ _ (cc (same_subject (nexts x))) q

    query_like : Agree pace itself (query g T) (query h U)
    unfolding query
    query_like x =
        beside_test (same_stands w Import (nexts x)) (λ _. import_like _ _ true (nexts x)) λ _.
        named_like 17 _ _ (nexts x)

    brackets_like : Agree pace itself (brackets g T) (brackets h U)
    unfolding brackets
    brackets_like x =
        beside_then _ _ (reads true (nexts x)) λ t q.
        beside_expect w RParen q λ _.
        beside_test w.like.option (λ _. beside_make w refl _ _ (cc) (nexts q)) λ _.
        both t (nexts q)

    enclosed_like : Agree pace itself (enclosed g T) (enclosed h U)
    unfolding enclosed curly reference
    enclosed_like x =
        beside_test (same_stands w LCurly x) (λ _. beside_test (here (λ i _. mapped_at w.like i) x) (λ _. mapped_like x) λ _. object_like x) λ _.
        beside_test (same_stands w LBrack x) (λ _. tuple_like x) λ _.
        beside_test (same_stands w LParen x) (λ _. brackets_like x) λ _.
        beside_test (ap (among (NoSubstitutionTemplate ∷ TemplateHead ∷ [])) (same_kind w x)) (λ _. template_like x) λ _.
        beside_test (ap class.binding_word (same_kind w x)) (λ _. named_like 1 _ _ x) λ _.
        beside_test (ap (among (Question ∷ Bang ∷ Star ∷ [])) (same_kind w x)) (refusal x) (refusal x)

    worded_like : Agree pace itself (worded g T) (worded h U)
    unfolding worded
    worded_like x =
        let a : is_assertion g x.one ≡ is_assertion h x.other = cc (same_kind w x, same_after w 1 x, same_next_line w x) in
        beside_test a (λ _. assertion_like x) λ _.
        beside_test (same_stands w Typeof x) (λ _. query_like x) λ _.
        beside_test (same_stands w Import x) (λ _. import_like _ _ false x) λ _.
        enclosed_like x

    primary_like : Agree pace itself (primary g T) (primary h U)
    unfolding primary
    primary_like x =
        let k : is_keyword g x.one ≡ is_keyword h x.other = cc (same_kind w x, same_after w 1 x) in
        let n : is_negative g x.one ≡ is_negative h x.other = cc (same_kind w x, same_after w 1 x) in
        beside_test k (λ _. keyword_like x) λ _.
        beside_test (same_stands w This x) (λ _. this_like x) λ _.
        beside_test (ap (among literals) (same_kind w x)) (λ _. literal_like x) λ _.
        beside_test n (λ _. negative_like x) λ _.
        worded_like x

    -- ---- Postfix

    bracketed_like : (b c : ℕ) (t : Pair itself) → Agree pace itself (bracketed g T b t.one) (bracketed h U c t.other)
    unfolding bracketed
    bracketed_like b c t x =
        beside_test (ap not (here (λ i _. starter_at w.like i) x)) (λ _. beside_expect w RBrack x λ _. beside_make w refl _ _ (cc) (nexts x)) λ _.
        beside_then _ _ (reads true x) λ i q.
        beside_expect w RBrack q λ _.
        beside_make w refl _ _ (cc) (nexts q)

    suffix_like : (b c : ℕ) (t : Pair itself) → Agree pace itself (suffix g T b t.one) (suffix h U c t.other)
    unfolding suffix
    suffix_like b c t x =
        beside_test (same_stands w Bang x) (λ _. beside_make w refl _ _ (cc) (nexts x)) λ _.
        beside_test (same_stands w Question x) (λ _. beside_make w refl _ _ (cc) (nexts x)) λ _.
        bracketed_like b c t (nexts x)

    postfix_from_lem : (b c fuel : ℕ) (t : Pair itself) → Agree pace itself (postfix_from g T b fuel t.one) (postfix_from h U c fuel t.other)
    unfolding postfix_from
    postfix_from_lem b c zero t x = refusal x tt
    postfix_from_lem b c (suc fuel) t x =
        let s : suffixed g x.one ≡ suffixed h x.other = cc (same_line_lem w x, same_kind w x, here (λ i _. starter_at w.like (i + 1)) x) in
        beside_test s (λ _. beside_then _ _ (suffix_like b c t x) λ u q. postfix_from_lem b c fuel u q) λ _.
        both t x

    postfix_like : Agree pace itself (postfix g T) (postfix h U)
    unfolding postfix
    postfix_like x =
        beside_then _ _ (primary_like x) λ t q.
        rw w.like.many (postfix_from_lem _ _ (turns h) t q)

    -- ---- Infer

    trial_like : (on : Bool) → Agree pace shape_of_trial (trial g T on) (trial h U on)
    unfolding trial
    trial_like on x =
        beside_test (ap not (same_stands w Extends x)) (λ _. both (twice none) x) λ _.
        beside_limit many_trials x (λ i. ap (λ (k : ℕ). on and leb most_trials k) (x.near.trials i)) λ _.
        beside_then _ _ (tried_like on (nexts x)) λ t q.
        beside_test (ap (λ b. on and b) (same_stands w Question q)) (λ _. both (record { one = dropped q.one.at; other = dropped q.other.at; same = refl }) (untried x q x)) λ _.
        both (record { one = keptTrial t.one; other = keptTrial t.other; same = cc }) (untried x q q)
      where
        tried_like : (on : Bool) → Agree pace itself (λ s. T false (openedTrial on s)) (λ s. U false (openedTrial on s))
        tried_like true x = reads false (moreTrials x)
        tried_like false x = reads false x

    infer_like : (on : Bool) → Agree pace itself (infer g T on) (infer h U on)
    unfolding infer
    infer_like on x =
        beside_then _ _ (bound_like (nexts x)) λ n q.
        beside_then _ _ (trial_like on q) λ c q.
        beside_make w refl _ _ (cc) q

    -- ---- Operator

    operator_from_lem : (on : Bool) (fuel : ℕ) → Agree pace itself (operator_from g T on fuel) (operator_from h U on fuel)
    unfolding operator_from operand
    operator_from_lem on zero x = refusal x tt
    operator_from_lem on (suc fuel) x =
        beside_test (ap (λ k. not (among operators k)) (same_kind w x)) (λ _. beside_test (same_stands w Infer x) (λ _. infer_like on x) λ _. postfix_like x) λ _.
        beside_then _ _ (operator_from_lem on fuel (nexts x)) λ t q.
        beside_make w refl _ _ (cc (same_kind w x)) q

    operator_like : (on : Bool) → Agree pace itself (operator g T on) (operator h U on)
    unfolding operator
    operator_like on x = rw w.like.many (operator_from_lem on (turns h) x)

    -- ---- Union, intersection

    module _ (mark tag : ℕ) (part part' : State → Result Placed) (parts : Agree pace itself part part') where
      parts_from_lem : (fuel : ℕ) (l : Pair listed) → Agree pace listed (parts_from g mark part fuel l.one) (parts_from h mark part' fuel l.other)
      unfolding parts_from
      parts_from_lem zero l x = refusal x tt
      parts_from_lem (suc fuel) l x =
          beside_test (same_stands w mark x) (λ _. beside_then _ _ (parts (nexts x)) λ t q. parts_from_lem fuel (listed_more l t) q) λ _.
          both l x

      parts_on : (l : Pair listed) → Agree pace listed (parts_from g mark part (turns g) l.one) (parts_from h mark part' (turns h) l.other)
      parts_on l x = rw w.like.many (parts_from_lem (turns h) l x)

      joined_like : Agree pace itself (joined g mark (λ b e l. tree tag b e (listed l)) part) (joined h mark (λ b e l. tree tag b e (listed l)) part')
      unfolding joined
      joined_like x =
          beside_then _ _ (parts (pasts w mark x)) λ t q.
          beside_test (ap₂ (λ a b. not (a or b)) (same_stands w mark x) (same_stands w mark q)) (λ _. both t q) λ _.
          beside_then _ _ (parts_on (record { one = t.one ∷ []; other = t.other ∷ []; same = cc }) q) λ l q.
          beside_make w (cc) _ _ (cc) q

    -- ---- Type

    union_like : (on : Bool) → Agree pace itself (union g T on) (union h U on)
    unfolding union intersection
    union_like on x = joined_like Pipe 5 _ _ (joined_like Amp 6 _ _ (operator_like on)) x

    conditional_like : (b c : ℕ) (t : Pair itself) → Agree pace itself (conditional g T b t.one) (conditional h U c t.other)
    unfolding conditional
    conditional_like b c t x =
        beside_then _ _ (reads false (nexts x)) λ y q.
        beside_expect w Question q λ _.
        beside_then _ _ (reads true (nexts q)) λ z q.
        beside_expect w Colon q λ _.
        beside_then _ _ (reads true (nexts q)) λ v q.
        beside_make w refl _ _ (cc) q

    type_like : (on : Bool) → Agree pace itself (typeRule g T on) (typeRule h U on)
    unfolding typeRule union_or_conditional
    type_like on x =
        beside_test (ap begins (here (function-at w.like) x)) (λ _. function_like on x) λ _.
        beside_then _ _ (union_like on x) λ t q.
        beside_test (ap₂ (λ a b. on and a and b) (same_line_lem w q) (same_stands w Extends q)) (λ _. conditional_like _ _ t q) λ _.
        both t q

-- ---- All rules together

pub types_like : {pace : Pace} {g h : Given} → Twins pace g h → (n : ℕ) (on : Bool) → Agree pace itself (read_type g n on) (read_type h n on)
unfolding read_type
types_like w zero = λ on x. refusal x tt
types_like {g = g} {h = h} w (suc n) = λ on x. type_like w (read_type g n) (read_type h n) (types_like w n) on (enterings x)

-- Exactly, from no type rule on.
abbrev pub exactly : Pace
exactly = record { exact = true; one = 0; other = 0 }

-- Readings of like lists from the same token on: alike, or both refused with the same number at the same place.
pub reading_like : {g h : Given} → Twins exactly g h → (i : ℕ) → Beside exactly itself (reading g i) (reading h i)
unfolding reading
reading_like w i =
    types_like w most_open true (record {
      one = begin i;
      other = begin i;
      near = record { at = refl; half = refl; entered = record { by = 0; one = refl; other = refl }; nodes = λ _. refl; notes = λ _. refl; trials = λ _. refl };
    })

-- What two readings that are not exact have in common: the tree, the end cursor, and how many type rules they entered, each up to the limit.
pub record Reread (s t : State) (a b : Placed) (p q : State) : Type 0 where
  pub tree : bare a ≡ bare b
  pub at : p.at ≡ q.at
  pub half : p.half ≡ q.half
  pub entered : Grown s.tally.entered t.tally.entered p.tally.entered q.tally.entered

-- Where not exact: two readings from the same cursor, whatever room, nodes, diagnostics and tally each has, have that in common if both read.
pub reread : {g h : Given} → Like g h → (n : ℕ) (on : Bool) (s t : State) → s.at ≡ t.at → s.half ≡ t.half → s.tally.entered ≤ most_entered → t.tally.entered ≤ most_entered
    → {a b : Placed} {p q : State} → read_type g n on s ≡ read a p → read_type h n on t ≡ read b q → Reread s t a b p q
reread l n on s t i j few few' {a} {b} {p} {q} e f =
    by (types_like
    (record { like = l; room = λ k. clash (cc); records = λ k. clash (cc) }) n on
    (record {
      one = s;
      other = t;
      near = record {
        at = i;
        half = j;
        entered = record { by = 0; one = omega arith; other = omega arith };
        nodes = λ k. clash (cc);
        notes = λ k. clash (cc);
        trials = λ k. clash (cc);
      };
    })) e f
  where
    loosely : Pace
    loosely = record { exact = false; one = s.tally.entered; other = t.tally.entered }

    by : {r r' : Result Placed} → Beside loosely itself r r' → r ≡ read a p → r' ≡ read b q → Reread s t a b p q
    by (both v x) e f =
        let k : x.one ≡ p = cc in
        let m : x.other ≡ q = cc in
        record { tree = cc v.same; at = cc x.near.at; half = cc x.near.half; entered = rw (← k, ← m) x.near.entered }
    by stopped e f = clash (cc)
    by (left_out k) e f = clash (cc)
    by (right_out k) e f = clash (cc)
