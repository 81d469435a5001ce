use Rattle.rules.specs.Union as unions
use Rattle.rules.specs.Operator as operators
use Rattle.rules.specs.Function as function
use native.Mathlib.Omega.{arith}
use mathlib.Core.Path.{refl, sym, ◌∙◌, ap}
use Rattle.readers.proofs.Fields.{same_kids, same_mark}
use Rattle.readers.proofs.ChildLaws.{child_read, child_refused, built_child, built_spoken, built_as, built_behind, option_absent, option_there, shape_as, make_first, built_bound}
use Rattle.readers.proofs.ReadyLaws.{ready}
use Rattle.tuples.proofs.MemberLaws.{element_refused, element_says}
use Rattle.keys.specs.Placed.{join, absent}
use Rattle.marks.proofs.Answers.{says_same, says_as, says_refused, says_stop, then_read_lem, then_refused, says_stops, says_passed}
use Rattle.marks.proofs.MarkLaws.{is_here, is_not_here}
use Rattle.parts.proofs.RingLaws.{conditional_is, question_is, colon_is, signature_is, intersection_is, operand_infer, operand_postfix, parameter_is, arguments_none, arguments_some, end_arguments, type_parameter_lem, types_none, types_some, type_none, type_function, type_other, union_or, union_is}
use Rattle.primaries.proofs.RingShapes.{shape_conditional, shape_intersection, shape_predicate, shape_union}
use Rattle.readers.proofs.TypeLaws.{question_none, question_some, colon_none, colon_some, brackets_from, union_off, union_apart, union_alone, union_goes}
use Rattle.readers.proofs.MovedLaws.{says_moved, built_moved}
use Rattle.readers.proofs.SignatureLaws.{function_from, signature_stops, signature_goes, signature_node_lem}
use Rattle.rules.specs.Object.{kept}
use Rattle.marks.specs.State.{view, given_of}
use Rattle.marks.specs.Laid.{was, run_in}
use Rattle.readers.specs.Ring.{below}
use mathlib.Core.Bool.{not, true}
use lib.Dec.{eqb}
use Rattle.members.specs.declared.object.IndexParams.{IndexParams}
use Rattle.readers.proofs.ParamsLaws.{freed_low, freed_high, bit_low, params_refused, this_none, params_plain, params_this_refused, params_this_stops, params_this}
use Rattle.members.specs.Told.{sort_number}
use Rattle.readers.proofs.MemberLaws.{signature_sort, built_stepped, member_index, member_signature, member_property, property_content, property_typed, property_refused, property_shaped, construct_is, params_as, sign_is, behind_types, behind_params, behind_note, sign_plain, sign_returns, sign_stops, sign_untyped, sign_typed}
use Rattle.readers.proofs.IndexTurns.{index_is, behind_index, index_begins, index_ended, index_unnamed, index_untyped, index_stops, index_again, under_type, index_content, index_shaped}
use Rattle.operators.proofs.InferLaws.{infer_refused}
use Rattle.readers.proofs.TrialLaws.{bare_put, trial_many, trial_refused, trial_put}
use Rattle.words.specs.Kind.{Amp, Dot3, RAngle, Pipe}
use Rattle.readers.proofs.PartsLaws.{parts_start, part_refused, parts_again, parts_joined}
use Rattle.parts.proofs.MappingLaws.{mapped_step, behind_step, mapped_content}
use Rattle.readers.proofs.MappedLaws.{mapped_read, mapped_named, mapped_asked, mapped_typed, mapped_shaped}
use mathlib.Core.List.{[], ◌∷◌}
use Rattle.marks.proofs.BuiltLaws.{built_names, laid_spoken}
use Rattle.parts.specs.Arguments.{names_of}
use Rattle.parts.proofs.NamingLaws.{name_at_lem}
use Rattle.readers.proofs.NamedLaws.{named_read}
use Rattle.readers.proofs.ObjectTurns.{object_begins, object_refused, object_again, object_closed, object_listed}
use Rattle.readers.proofs.OperandLaws.{operand_refused, operand_about}
use Rattle.marks.specs.List.{here}
use Rattle.functions.proofs.ParameterLaws.{shape_parameter, shape_type_parameter}
use Rattle.functions.proofs.ParameterListLaws.{opens_refused, opens_plain, parameters_refused, parameters_stop}
use Rattle.primaries.proofs.PrimaryLaws.{brackets_is, return_type_lem, return_predicate}
use Rattle.readers.proofs.ParameterTurns.{may_begin, separates_as, rest_refused, turn_none, parameters_why, turn_parameter, rest_all}
use Rattle.readers.proofs.SuffixLaws.{suffixed_inside, postfix_is, marks_begin, marks_turn, marks_end, mark_refused, marks_again}
use Rattle.primaries.specs.Onward.{subject_at}
use Rattle.primaries.specs.Primary.{predicate_choices}
use Rattle.readers.proofs.PredicateLaws.{predicate_starts, subject_this, predicates_inside}
use Rattle.readers.proofs.StartLaws.{start_is}
use Rattle.members.specs.Object.{signature_names}
use borrow.Author.Tests.{not-true, not-false}
use Rattle.marks.proofs.LeafLaws.{stands_on}
use Rattle.parts.proofs.PostfixLaws.{suffix_bang, suffix_asked, suffix_array, suffix_index, shape_non_null, shape_asked, shape_indexed}
use Rattle.rules.specs.State.{first, turns}
use Rattle.parts.proofs.Turns.{looped}
use Rattle.readers.proofs.ListTurns.{listed_absent, listed_refused, listed_stops, turn_starts, turn_refused, turn_stops, turn_child, turn_ends, turn_again}
use Rattle.readers.proofs.PieceTurns.{laid_head, pieces_start, template_starts, pieces_refused, pieces_stop, pieces_again, pieces_end}
use Rattle.readers.proofs.TupleTurns.{tuple_begins, tuple_refused, tuple_full, tuple_stops, tuple_again, tuple_closed, tuple_listed}
use Rattle.marks.proofs.TallyLaws.{view_tallied, says_tallied}
use Rattle.std.specs.Prelude.{Ok}
use Rattle.marks.specs.Told.{told, told_list}
use Rattle.functions.specs.Told.{told_params}
use Rattle.marks.specs.declared.state.Entries.{Entries}
use Rattle.functions.specs.declared.function.Params.{Params}
use Rattle.marks.proofs.MarkLaws.{bit_is}
use Rattle.marks.proofs.ToldLaws.{handed_on, refusal_some}
use Rattle.readers.proofs.ring.+ring.Goals as goal

pub child-returns-in_err-a-clause-child : goal.child-returns-in_err-a-clause-child
child-returns-in_err-a-clause-child t c =
    rw (handed_on c.from_residual.ensures.1)
    (λ B t b. child_refused refl (refusal_some c.in_err-a.field-0.0.why) (c.in_err-a.ensures.reads.refused (refusal_some c.in_err-a.field-0.0.why)))

pub child-returns-clause-child : goal.child-returns-clause-child
child-returns-clause-child t c =
    λ B t b. child_read c.args.m b c.in_ok-a.ensures.reads refl (omega arith) c.link-k.ensures.links

pub elem-returns-in_err-a-clause-reads : goal.elem-returns-in_err-a-clause-reads
elem-returns-in_err-a-clause-reads t c =
    rw (handed_on c.from_residual.ensures.1)
    (element_refused _ _ c.args.given _ _ _ _ _ _ _ _ _ _ _ c.requires.spelt c.element_head-l.ensures.label_is c.element_head-l.ensures.starts_element
    c.in_err-a.ensures.reads _ _ _ (refusal_some c.in_err-a.field-0.0.why))

pub elem-returns-clause-reads : goal.elem-returns-clause-reads
elem-returns-clause-reads t c =
    element_says _ _ c.args.given _ _ _ _ _ _ _ _ _ _ _ c.requires.spelt c.element_head-l.ensures.label_is c.element_head-l.ensures.starts_element
    c.in_ok-a.ensures.reads _ _ _ refl c.element_node.ensures.makes_element

pub extends-returns-in_err-x-clause-behind : goal.extends-returns-in_err-x-clause-behind
extends-returns-in_err-x-clause-behind t c =
    rw (handed_on c.from_residual.ensures.1)
    (λ B u st n. (says_stop (refusal_some c.in_err-x.field-0.0.why) (conditional_is _ _ _ _ _ ∙ then_refused _ ((c.in_err-x.ensures.child B _ (built_child c.one.ensures st)).refused (refusal_some c.in_err-x.field-0.0.why)))))

pub extends-returns-then-kind_at-ne-QUESTION-clause-behind : goal.extends-returns-then-kind_at-ne-QUESTION-clause-behind
extends-returns-then-kind_at-ne-QUESTION-clause-behind t c =
    λ B u st n. let x = (c.in_ok-x.ensures.child B _ (built_child c.one.ensures st)).done refl in (says_refused 2 (question_none _ _ _ _ _ x.is (is_not_here c.args.words.now c.in_ok-x.x.m c.kind_at.ensures.value c.if-kind_at-ne-QUESTION.true)))

pub extends-returns-in_err-y-clause-behind : goal.extends-returns-in_err-y-clause-behind
extends-returns-in_err-y-clause-behind t c =
    rw (handed_on c.from_residual-in_err-y.ensures.1)
    (λ B u st n. let x = (c.in_ok-x.ensures.child B _ (built_child c.one.ensures st)).done refl in (says_stop (refusal_some c.in_err-y.field-0.0.why) (question_some _ _ _ _ _ x.is (is_here c.args.words.now c.in_ok-x.x.m c.kind_at.ensures.value c.if-kind_at-ne-QUESTION.false) ∙ question_is _ _ _ _ _ _ ∙ then_refused _ ((c.in_err-y.ensures.child B _ x.built).refused (refusal_some c.in_err-y.field-0.0.why)))))

pub extends-returns-then-kind_at-ne-COLON-clause-behind : goal.extends-returns-then-kind_at-ne-COLON-clause-behind
extends-returns-then-kind_at-ne-COLON-clause-behind t c =
    λ B u st n. let x = (c.in_ok-x.ensures.child B _ (built_child c.one.ensures st)).done refl in let y = (c.in_ok-y.ensures.child B _ x.built).done refl in (says_refused 2 (question_some _ _ _ _ _ x.is (is_here c.args.words.now c.in_ok-x.x.m c.kind_at.ensures.value c.if-kind_at-ne-QUESTION.false) ∙ colon_none _ _ _ _ _ _ y.is (is_not_here c.args.words.now c.in_ok-y.y.m c.kind_at-2.ensures.value c.if-kind_at-ne-COLON.true)))

pub extends-returns-in_err-z-clause-behind : goal.extends-returns-in_err-z-clause-behind
extends-returns-in_err-z-clause-behind t c =
    rw (handed_on c.from_residual-in_err-z.ensures.1)
    (λ B u st n. let x = (c.in_ok-x.ensures.child B _ (built_child c.one.ensures st)).done refl in let y = (c.in_ok-y.ensures.child B _ x.built).done refl in (says_stop (refusal_some c.in_err-z.field-0.0.why) (question_some _ _ _ _ _ x.is (is_here c.args.words.now c.in_ok-x.x.m c.kind_at.ensures.value c.if-kind_at-ne-QUESTION.false) ∙ colon_some _ _ _ _ _ _ y.is (is_here c.args.words.now c.in_ok-y.y.m c.kind_at-2.ensures.value c.if-kind_at-ne-COLON.false) ∙ colon_is _ _ _ _ _ _ _ ∙ then_refused _ ((c.in_err-z.ensures.child B _ y.built).refused (refusal_some c.in_err-z.field-0.0.why)))))

pub extends-returns-clause-behind : goal.extends-returns-clause-behind
extends-returns-clause-behind t c =
    λ B u st n. let x = (c.in_ok-x.ensures.child B _ (built_child c.one.ensures st)).done refl in let y = (c.in_ok-y.ensures.child B _ x.built).done refl in let w = (c.in_ok-z.ensures.child B _ y.built).done refl in says_same (question_some _ _ _ _ _ x.is (is_here c.args.words.now c.in_ok-x.x.m c.kind_at.ensures.value c.if-kind_at-ne-QUESTION.false) ∙ colon_some _ _ _ _ _ _ y.is (is_here c.args.words.now c.in_ok-y.y.m c.kind_at-2.ensures.value c.if-kind_at-ne-COLON.false) ∙ colon_is _ _ _ _ _ _ _ ∙ then_read_lem _ w.is) (c.put.ensures.makes c.args.text.now 0 B _ 9 (join u (join x.tree (join y.tree w.tree))) _ _ w.built n (shape_conditional st.is_node x.is_node y.is_node w.is_node))

pub function-returns-in_err-t-clause-reads : goal.function-returns-in_err-t-clause-reads
function-returns-in_err-t-clause-reads t c =
    rw (handed_on c.from_residual.ensures.1)
    ((says_stop (refusal_some c.in_err-t.field-0.0.why) (function_from c.args.text.now c.args.words.now c.args.given _ c.args.on _ c.function_head-h.ensures.head_is ∙ then_refused _ (c.in_err-t.ensures.reads_list.refused (refusal_some c.in_err-t.field-0.0.why)))))

pub function-returns-in_err-p-clause-reads : goal.function-returns-in_err-p-clause-reads
function-returns-in_err-p-clause-reads t c =
    rw (handed_on c.from_residual-in_err-p.ensures.1)
    (let l = c.in_ok-t.ensures.reads_list.done refl in (says_stop (refusal_some c.in_err-p.field-0.0.why) (function_from c.args.text.now c.args.words.now c.args.given _ c.args.on _ c.function_head-h.ensures.head_is ∙ then_read_lem _ l.is ∙ signature_is _ _ _ _ _ _ _ ∙ then_refused _ ((c.in_err-p.ensures.reads_params _ _ l.built).refused (refusal_some c.in_err-p.field-0.0.why)))))

pub function-returns-then-kind_at-ne-ARROW-clause-reads : goal.function-returns-then-kind_at-ne-ARROW-clause-reads
function-returns-then-kind_at-ne-ARROW-clause-reads t c =
    let l = c.in_ok-t.ensures.reads_list.done refl in let got = (c.in_ok-p.ensures.reads_params _ _ l.built).done refl in (says_refused 2 (function_from c.args.text.now c.args.words.now c.args.given _ c.args.on _ c.function_head-h.ensures.head_is ∙ then_read_lem _ l.is ∙ signature_stops _ _ _ _ _ l.list _ got.is (is_not_here c.args.words.now c.in_ok-p.p.m c.kind_at.ensures.value c.if-kind_at-ne-ARROW.true)))

pub function-returns-in_err-r-clause-reads : goal.function-returns-in_err-r-clause-reads
function-returns-in_err-r-clause-reads t c =
    rw (handed_on c.from_residual-in_err-r.ensures.1)
    (let l = c.in_ok-t.ensures.reads_list.done refl in let got = (c.in_ok-p.ensures.reads_params _ _ l.built).done refl in says_stops _ c.in_err-r.ensures.reads (refusal_some c.in_err-r.field-0.0.why) (function_from c.args.text.now c.args.words.now c.args.given _ c.args.on _ c.function_head-h.ensures.head_is ∙ then_read_lem _ l.is ∙ signature_goes _ _ _ _ _ l.list _ got.is (is_here c.args.words.now c.in_ok-p.p.m c.kind_at.ensures.value c.if-kind_at-ne-ARROW.false)))

pub function-returns-clause-reads : goal.function-returns-clause-reads
function-returns-clause-reads t c =
    let l = c.in_ok-t.ensures.reads_list.done refl in let got = (c.in_ok-p.ensures.reads_params _ _ l.built).done refl in let back = c.in_ok-r.ensures.reads.done refl in says_moved _ _ _ c.function_head-h.ensures.moved.0 (says_same (function_from c.args.text.now c.args.words.now c.args.given _ c.args.on _ c.function_head-h.ensures.head_is ∙ then_read_lem _ l.is ∙ signature_goes _ _ _ _ _ l.list _ got.is (is_here c.args.words.now c.in_ok-p.p.m c.kind_at.ensures.value c.if-kind_at-ne-ARROW.false) ∙ then_read_lem _ back.is) (signature_node_lem c.args.text.now c.args.words.now c.args.given _ c.function_head-h.result (told_params (Ok c.with-f.result)) (told (Ok c.in_ok-r.r)) l.list got back c.with-f.ensures.links_params c.function_node.ensures.makes_function (omega (arith, c.ret.auto)) l.each l.there_is l.count_is (c.function_head-h.ensures.head_is.name_is ∙ sym c.function_head-h.ensures.moved.0.named_is)))

pub index-loop-names-init : goal.index-loop-names-init
index-loop-names-init t c =
    (omega (arith, c.requires), omega (arith, same_kids (ap (λ (x : IndexParams). x.kids) c.none-ps.ensures)), λ B d. index_begins _ _ c.none-ps.ensures c.first_byte-first.ensures.value d)

pub index-returns-in_err-h-clause-reads_index : goal.index-returns-in_err-h-clause-reads_index
index-returns-in_err-h-clause-reads_index t c =
    rw (handed_on c.from_residual.ensures.1)
    (λ B readonly d n e. (says_stop (refusal_some c.in_err-h.field-0.0.why) (index_is _ _ _ readonly _ ∙ then_refused _ (index_unnamed c.args.text.now c.args.words.now c.args.given _ _ (c.loop-names.invariant.2 B d) (is_not_here c.args.words.now c.loop-names.p c.kind_at.ensures.value c.loop-names-test.true) ((c.in_err-h.ensures.starts_bound c.args.text.now c.requires.0.spelt).refused (refusal_some c.in_err-h.field-0.0.why))))))

pub index-returns-in_err-a-clause-reads_index : goal.index-returns-in_err-a-clause-reads_index
index-returns-in_err-a-clause-reads_index t c =
    rw (handed_on c.from_residual-in_err-a.ensures.1)
    (λ B readonly d n e. says_stop (refusal_some c.in_err-a.field-0.0.why) (index_is _ _ _ readonly _ ∙ then_refused _ (index_untyped c.args.text.now c.args.words.now c.args.given _ _ (c.loop-names.invariant.2 B d) (is_not_here c.args.words.now c.loop-names.p c.kind_at.ensures.value c.loop-names-test.true) ((c.in_ok-h.ensures.starts_bound c.args.text.now c.requires.0.spelt).done refl) (c.in_err-a.ensures.reads.refused (refusal_some c.in_err-a.field-0.0.why)))))

pub index-returns-in_err-p-clause-reads_index : goal.index-returns-in_err-p-clause-reads_index
index-returns-in_err-p-clause-reads_index t c =
    rw (handed_on c.from_residual-in_err-p.ensures.1)
    (λ B readonly d n e. (says_stop (refusal_some c.in_err-p.field-0.0.why) (index_is _ _ _ readonly _ ∙ then_refused _ (index_stops c.args.text.now c.args.words.now c.args.given _ _ (c.loop-names.invariant.2 B d) (is_not_here c.args.words.now c.loop-names.p c.kind_at.ensures.value c.loop-names-test.true) ((c.in_ok-h.ensures.starts_bound c.args.text.now c.requires.0.spelt).done refl) (told (Ok c.in_ok-a.a)) (c.in_ok-a.ensures.reads.done refl) (omega (arith, c.in_ok-h.ensures.stepped)) c.freed-q.ensures.value (c.in_err-p.ensures.by_index c.args.text.now) (refusal_some c.in_err-p.field-0.0.why)))))

pub index-loop-names-preserved : goal.index-loop-names-preserved
index-loop-names-preserved t c =
    let high = freed_high (not (eqb c.loop-names.ps.count 0)) c.loop-names.p.used c.in_ok-a.a.m.used c.loop-names.p.used (omega arith) (omega (arith, c.in_ok-a.ensures.onward refl, c.in_ok-h.ensures.stepped)) in let under = under_type c.args.words.now c.loop-names.ps (told (Ok c.in_ok-a.a)) c.loop-names.p.used c.loop-names.invariant.1 (omega (arith, c.in_ok-a.ensures.onward refl)) (omega (arith, c.in_ok-a.ensures.within)) in (omega (arith, high, c.requires, c.loop-names.invariant.0, c.loop-names.invariant.1, c.in_ok-h.ensures.stepped, c.index_head.auto, c.in_ok-a.ensures.within, c.in_ok-a.ensures.onward refl, c.ty.auto, c.freed-q.ensures.at_value, c.in_ok-p.ensures.stepped), omega (arith, under, same_kids (ap (λ (x : IndexParams). x.kids) c.with-ps.ensures), c.freed-q.ensures.at_value, c.in_ok-p.ensures.stepped), λ B d. index_again c.args.text.now c.args.words.now c.args.given _ _ (c.loop-names.invariant.2 B d) (is_not_here c.args.words.now c.loop-names.p c.kind_at.ensures.value c.loop-names-test.true) ((c.in_ok-h.ensures.starts_bound c.args.text.now c.requires.0.spelt).done refl) (told (Ok c.in_ok-a.a)) (c.in_ok-a.ensures.reads.done refl) (omega (arith, c.in_ok-h.ensures.stepped)) c.freed-q.ensures.value c.with-ps.ensures (c.in_ok-p.ensures.by_index c.args.text.now) refl (omega (arith, c.requires, c.loop-names.invariant.0, c.loop-names.invariant.1, c.in_ok-h.ensures.stepped, c.index_head.auto, c.in_ok-a.ensures.within, c.in_ok-a.ensures.onward refl, c.ty.auto, c.freed-q.ensures.at_value, c.in_ok-p.ensures.stepped)) (omega (arith, c.requires, c.loop-names.invariant.0)))

pub index-returns-in_err-e-clause-reads_index : goal.index-returns-in_err-e-clause-reads_index
index-returns-in_err-e-clause-reads_index t c =
    rw (handed_on c.from_residual-in_err-e.ensures.1)
    (λ B readonly d n e. let g = given_of c.args.text.now c.args.words.now c.args.given in let T = below c.args.given g in let w = c.loop-names.invariant.2 B d in let step = c.in_err-e.ensures.ends_index c.args.text.now B w.params _ w.built w.params_are in (says_stop (refusal_some c.in_err-e.field-0.0.why) (index_is _ _ _ readonly _ ∙ then_read_lem _ (index_ended c.args.text.now c.args.words.now c.args.given _ _ (c.loop-names.invariant.2 B d) (is_here c.args.words.now c.loop-names.p c.kind_at.ensures.value c.loop-names-test.false)) ∙ step.refused (refusal_some c.in_err-e.field-0.0.why) (behind_index g T c.args.b.first readonly w.params))))

pub index-returns-in_err-t-clause-reads_index : goal.index-returns-in_err-t-clause-reads_index
index-returns-in_err-t-clause-reads_index t c =
    rw (handed_on c.from_residual-in_err-t.ensures.1)
    (λ B readonly d n e. let g = given_of c.args.text.now c.args.words.now c.args.given in let T = below c.args.given g in let w = c.loop-names.invariant.2 B d in let step = c.in_ok-e.ensures.ends_index c.args.text.now B w.params _ w.built w.params_are in (says_stop (refusal_some c.in_err-t.field-0.0.why) (index_is _ _ _ readonly _ ∙ then_read_lem _ (index_ended c.args.text.now c.args.words.now c.args.given _ _ (c.loop-names.invariant.2 B d) (is_here c.args.words.now c.loop-names.p c.kind_at.ensures.value c.loop-names-test.false)) ∙ step.done refl (behind_index g T c.args.b.first readonly w.params) ∙ then_refused _ ((c.in_err-t.ensures.child B _ (built_stepped step refl w.built)).refused (refusal_some c.in_err-t.field-0.0.why)))))

pub index-returns-clause-reads_index : goal.index-returns-clause-reads_index
index-returns-clause-reads_index t c =
    λ B readonly d n e. let g = given_of c.args.text.now c.args.words.now c.args.given in let T = below c.args.given g in let w = c.loop-names.invariant.2 B d in let step = c.in_ok-e.ensures.ends_index c.args.text.now B w.params _ w.built w.params_are in let got = (c.in_ok-t.ensures.child B _ (built_stepped step refl w.built)).done refl in says_same (index_is _ _ _ readonly _ ∙ then_read_lem _ (index_ended c.args.text.now c.args.words.now c.args.given _ _ (c.loop-names.invariant.2 B d) (is_here c.args.words.now c.loop-names.p c.kind_at.ensures.value c.loop-names-test.false)) ∙ step.done refl (behind_index g T c.args.b.first readonly w.params) ∙ then_read_lem _ got.is) (c.member_node.ensures.makes_member c.args.text.now _ _ 4 (index_content readonly (kept w.params) got.tree) _ _ got.built n (index_shaped readonly w.params_are got.is_node e c.index_choices-all.ensures))

pub infer-returns-in_err-p-clause-reads : goal.infer-returns-in_err-p-clause-reads
infer-returns-in_err-p-clause-reads t c =
    rw (handed_on c.from_residual.ensures.1)
    (let g = given_of c.args.text.now c.args.words.now c.args.given in
    let T = below c.args.given g in
    says_as refl
    (says_stop (refusal_some c.in_err-p.field-0.0.why) (infer_refused g T c.args.on (view c.args.m c.args.notes.now)
    ((c.in_err-p.ensures.starts_infer c.args.text.now c.requires.0.spelt).refused (refusal_some c.in_err-p.field-0.0.why)))))

pub infer-returns-then-kind_at-ne-EXTENDS-clause-reads : goal.infer-returns-then-kind_at-ne-EXTENDS-clause-reads
infer-returns-then-kind_at-ne-EXTENDS-clause-reads t c =
    let g = given_of c.args.text.now c.args.words.now c.args.given in
    let T = below c.args.given g in
    bare_put c.args.text.now c.args.words.now c.args.given T c.args.on
    ((c.in_ok-p.ensures.starts_infer c.args.text.now c.requires.0.spelt).done refl) c.args.nodes.now c.at-b.ensures.first_value.0
    c.at-b.ensures.first_value.1
    (is_not_here c.args.words.now c.in_ok-p.p c.kind_at.ensures.value c.if-kind_at-ne-EXTENDS.true) c.none.ensures c.put.ensures.makes

pub infer-returns-then-many_trials-clause-reads : goal.infer-returns-then-many_trials-clause-reads
infer-returns-then-many_trials-clause-reads t c =
    let g = given_of c.args.text.now c.args.words.now c.args.given in
    let T = below c.args.given g in
    trial_many c.args.text.now c.args.words.now c.args.given T c.args.on
    ((c.in_ok-p.ensures.starts_infer c.args.text.now c.requires.0.spelt).done refl) c.args.nodes.now c.at-b.ensures.first_value.0
    c.at-b.ensures.first_value.1
    (is_here c.args.words.now c.in_ok-p.p c.kind_at.ensures.value c.if-kind_at-ne-EXTENDS.false) c.open_trials-trials.ensures (sym c.many_trials.ensures ∙ c.if-many_trials.true) refl

pub infer-returns-in_err-a-clause-reads : goal.infer-returns-in_err-a-clause-reads
infer-returns-in_err-a-clause-reads t c =
    rw (handed_on c.from_residual-in_err-a.ensures.1)
    (let g = given_of c.args.text.now c.args.words.now c.args.given in
    let T = below c.args.given g in
    trial_refused c.args.text.now c.args.words.now c.args.given T c.args.on
    ((c.in_ok-p.ensures.starts_infer c.args.text.now c.requires.0.spelt).done refl) c.args.nodes.now c.at-b.ensures.first_value.0
    c.at-b.ensures.first_value.1
    (is_here c.args.words.now c.in_ok-p.p c.kind_at.ensures.value c.if-kind_at-ne-EXTENDS.false) c.open_trials-trials.ensures (sym c.many_trials.ensures ∙ c.if-many_trials.false) c.with_trial.ensures c.set_trials.ensures c.in_err-a.ensures.reads (refusal_some c.in_err-a.field-0.0.why))

pub infer-returns-clause-reads : goal.infer-returns-clause-reads
infer-returns-clause-reads t c =
    let g = given_of c.args.text.now c.args.words.now c.args.given in
    let T = below c.args.given g in
    trial_put c.args.text.now c.args.words.now c.args.given T c.args.on
    ((c.in_ok-p.ensures.starts_infer c.args.text.now c.requires.0.spelt).done refl) c.args.nodes.now c.at-b.ensures.first_value.0
    c.at-b.ensures.first_value.1
    (is_here c.args.words.now c.in_ok-p.p c.kind_at.ensures.value c.if-kind_at-ne-EXTENDS.false) c.open_trials-trials.ensures (sym c.many_trials.ensures ∙ c.if-many_trials.false) c.with_trial.ensures c.set_trials.ensures c.in_ok-a.ensures.reads refl c.set_trials-2.ensures (omega (arith, c.in_ok-p.ensures.stepped, c.requires))
    c.dropped-undone.ensures c.infer_node.ensures.infers

pub inter-returns-then-is_lone-clause-reads : goal.inter-returns-then-is_lone-clause-reads
inter-returns-then-is_lone-clause-reads t c =
    c.lone.ensures.says_lone c.args.text.now c.args.notes.now (below c.args.given (given_of c.args.text.now c.args.words.now c.args.given)) c.args.on c.requires.spelt

pub inter-loop-a-init : goal.inter-loop-a-init
inter-loop-a-init t c =
    (omega arith, omega (arith, c.requires, c.past-p.ensures.moved, same_kids c.none-k.ensures), parts_start c.args.text.now c.args.words.now c.args.given (below c.args.given (given_of c.args.text.now c.args.words.now c.args.given)) Amp 6 (operators.operator (given_of c.args.text.now c.args.words.now c.args.given) (below c.args.given (given_of c.args.text.now c.args.words.now c.args.given)) c.args.on) c.args.m c.past-p.result c.args.nodes.now c.args.names.now c.args.notes.now (intersection_is (given_of c.args.text.now c.args.words.now c.args.given) (below c.args.given (given_of c.args.text.now c.args.words.now c.args.given)) c.args.on (view c.args.m c.args.notes.now)) c.past-p.ensures.value c.past-p.ensures.moved c.none-k.ensures)

pub inter-returns-in_err-a-clause-reads : goal.inter-returns-in_err-a-clause-reads
inter-returns-in_err-a-clause-reads t c =
    rw (handed_on c.from_residual.ensures.1)
    (part_refused c.args.text.now c.args.words.now c.args.given (below c.args.given (given_of c.args.text.now c.args.words.now c.args.given)) Amp 6 (operators.operator (given_of c.args.text.now c.args.words.now c.args.given) (below c.args.given (given_of c.args.text.now c.args.words.now c.args.given)) c.args.on) c.args.m c.args.notes.now c.loop-a.invariant.2 c.in_err-a.ensures.reads (refusal_some c.in_err-a.field-0.0.why))

pub inter-returns-then-kind_at-ne-AMP-clause-reads : goal.inter-returns-then-kind_at-ne-AMP-clause-reads
inter-returns-then-kind_at-ne-AMP-clause-reads t c =
    parts_joined c.args.text.now c.args.words.now c.args.given (below c.args.given (given_of c.args.text.now c.args.words.now c.args.given)) Amp 6 (operators.operator (given_of c.args.text.now c.args.words.now c.args.given) (below c.args.given (given_of c.args.text.now c.args.words.now c.args.given)) c.args.on) c.args.m c.args.notes.now c.loop-a.invariant.2 c.in_ok-a.ensures.reads refl (is_not_here c.args.words.now c.in_ok-a.a.m c.kind_at-in-loop-a.ensures.value c.if-kind_at-ne-AMP.true) c.joined.ensures.joins (omega arith) refl shape_intersection

pub inter-loop-a-preserved : goal.inter-loop-a-preserved
inter-loop-a-preserved t c =
    (omega (arith, c.requires, c.past-p.ensures.moved, same_kids c.none-k.ensures, c.in_ok-a.ensures.within, c.in_ok-a.ensures.onward refl, c.operator.auto, c.kind_at-in-loop-a.ensures.upper_bound, c.link-k.ensures.under, c.link-k.auto, c.loop-a.invariant.0, c.loop-a.invariant.1), omega arith, parts_again c.args.text.now c.args.words.now c.args.given (below c.args.given (given_of c.args.text.now c.args.words.now c.args.given)) Amp 6 (operators.operator (given_of c.args.text.now c.args.words.now c.args.given) (below c.args.given (given_of c.args.text.now c.args.words.now c.args.given)) c.args.on) c.args.m c.args.notes.now c.loop-a.invariant.2 c.in_ok-a.ensures.reads refl (is_here c.args.words.now c.in_ok-a.a.m c.kind_at-in-loop-a.ensures.value c.if-kind_at-ne-AMP.false) refl c.link-k.ensures.links c.link-k.ensures.under.1 (omega arith) (omega (arith, c.requires, c.past-p.ensures.moved, same_kids c.none-k.ensures, c.in_ok-a.ensures.within, c.in_ok-a.ensures.onward refl, c.kind_at-in-loop-a.ensures.upper_bound, c.link-k.ensures.under, c.loop-a.invariant.0, c.loop-a.invariant.1)) (omega (arith, c.requires, c.past-p.ensures.moved, same_kids c.none-k.ensures, c.in_ok-a.ensures.within, c.in_ok-a.ensures.onward refl, c.kind_at-in-loop-a.ensures.upper_bound, c.link-k.ensures.under, c.loop-a.invariant.0, c.loop-a.invariant.1)))

pub mapped-returns-in_err-h-clause-reads : goal.mapped-returns-in_err-h-clause-reads
mapped-returns-in_err-h-clause-reads t c =
    rw (handed_on c.from_residual.ensures.1)
    (λ curly. (says_stop (refusal_some c.in_err-h.field-0.0.why) (mapped_step _ _ _ curly ∙ then_refused _ ((c.in_err-h.ensures.starts_mapped c.args.text.now c.args.notes.now c.args.given c.requires.0.spelt).refused (refusal_some c.in_err-h.field-0.0.why)))))

pub mapped-returns-in_err-c-clause-reads : goal.mapped-returns-in_err-c-clause-reads
mapped-returns-in_err-c-clause-reads t c =
    rw (handed_on c.from_residual-in_err-c.ensures.1)
    (λ curly. let head = (c.in_ok-h.ensures.starts_mapped c.args.text.now c.args.notes.now c.args.given c.requires.0.spelt).done refl in (says_stop (refusal_some c.in_err-c.field-0.0.why) (mapped_step _ _ _ curly ∙ then_read_lem _ head.is ∙ then_refused _ ((c.in_err-c.ensures.child _ _ (built_spoken c.none.ensures head.spoken)).refused (refusal_some c.in_err-c.field-0.0.why)))))

pub mapped-returns-in_err-n-clause-reads : goal.mapped-returns-in_err-n-clause-reads
mapped-returns-in_err-n-clause-reads t c =
    rw (handed_on c.from_residual-in_err-n.ensures.1)
    (λ curly. let head = (c.in_ok-h.ensures.starts_mapped c.args.text.now c.args.notes.now c.args.given c.requires.0.spelt).done refl in let k = (c.in_ok-c.ensures.child _ _ (built_spoken c.none.ensures head.spoken)).done refl in (says_stop (refusal_some c.in_err-n.field-0.0.why) (mapped_read _ _ _ curly refl head.such head.is k.is ∙ behind_step _ _ _ _ _ _ _ ∙ then_refused _ ((c.in_err-n.ensures.option _ _ k.built).refused (refusal_some c.in_err-n.field-0.0.why)))))

pub mapped-returns-in_err-a-clause-reads : goal.mapped-returns-in_err-a-clause-reads
mapped-returns-in_err-a-clause-reads t c =
    rw (handed_on c.from_residual-in_err-a.ensures.1)
    (λ curly. let head = (c.in_ok-h.ensures.starts_mapped c.args.text.now c.args.notes.now c.args.given c.requires.0.spelt).done refl in let k = (c.in_ok-c.ensures.child _ _ (built_spoken c.none.ensures head.spoken)).done refl in let n = (c.in_ok-n.ensures.option _ _ k.built).done refl in (says_stop (refusal_some c.in_err-a.field-0.0.why) (mapped_read _ _ _ curly refl head.such head.is k.is ∙ mapped_named _ _ _ _ _ _ _ n.is ∙ then_refused _ ((c.in_err-a.ensures.by_index c.args.text.now _ c.args.given).refused (refusal_some c.in_err-a.field-0.0.why)))))

pub mapped-returns-in_err-t-clause-reads : goal.mapped-returns-in_err-t-clause-reads
mapped-returns-in_err-t-clause-reads t c =
    rw (handed_on c.from_residual-in_err-t.ensures.1)
    (λ curly. let head = (c.in_ok-h.ensures.starts_mapped c.args.text.now c.args.notes.now c.args.given c.requires.0.spelt).done refl in let k = (c.in_ok-c.ensures.child _ _ (built_spoken c.none.ensures head.spoken)).done refl in let n = (c.in_ok-n.ensures.option _ _ k.built).done refl in (says_stop (refusal_some c.in_err-t.field-0.0.why) (mapped_read _ _ _ curly refl head.such head.is k.is ∙ mapped_asked _ _ _ _ _ _ _ n.is ((c.in_ok-a.ensures.by_index c.args.text.now _ c.args.given).done refl) ∙ then_refused _ ((c.in_err-t.ensures.option _ _ (built_moved c.in_ok-a.ensures.moved.0 n.built)).refused (refusal_some c.in_err-t.field-0.0.why)))))

pub mapped-returns-clause-reads : goal.mapped-returns-clause-reads
mapped-returns-clause-reads t c =
    λ curly. let head = (c.in_ok-h.ensures.starts_mapped c.args.text.now c.args.notes.now c.args.given c.requires.0.spelt).done refl in let k = (c.in_ok-c.ensures.child _ _ (built_spoken c.none.ensures head.spoken)).done refl in let n = (c.in_ok-n.ensures.option _ _ k.built).done refl in let y = (c.in_ok-t.ensures.option _ _ (built_moved c.in_ok-a.ensures.moved.0 n.built)).done refl in says_same (mapped_read _ _ _ curly c.at-b.ensures.first_value.0 head.such head.is k.is ∙ mapped_typed _ _ _ _ _ _ _ n.is ((c.in_ok-a.ensures.by_index c.args.text.now _ c.args.given).done refl) y.is) (c.mapped_node.ensures.makes_closed c.args.text.now _ _ 14 (mapped_content c.in_ok-h.h.choices head.what.1 k.tree n.tree c.in_ok-a.a.choices y.tree) _ _ y.built c.at-b.ensures.first_value.1 (mapped_shaped c.in_ok-h.h.choices head.what.1 n.tree _ y.tree k.is_node n.is_opt y.is_opt c.mapped_choices-choices.ensures ((c.from.ensures ∙ bit_is c.in_ok-n.n.there) ∙ n.there_is) ((c.from-2.ensures ∙ bit_is c.in_ok-t.t.there) ∙ y.there_is)))

pub memb-returns-in_err-h-clause-reads : goal.memb-returns-in_err-h-clause-reads
memb-returns-in_err-h-clause-reads t c =
    rw (handed_on c.from_residual.ensures.1)
    ((says_stop (refusal_some c.in_err-h.field-0.0.why) ((c.in_err-h.ensures.starts_member c.args.notes.now c.args.given).refused (refusal_some c.in_err-h.field-0.0.why) _)))

pub memb-returns-in-Index-clause-reads : goal.memb-returns-in-Index-clause-reads
memb-returns-in-Index-clause-reads t c =
    member_index c.args.text.now c.args.words.now c.args.given _ ((c.in_ok-h.ensures.starts_member c.args.notes.now c.args.given).done refl) c.at-b.ensures.first_value.0 (ap sort_number c.in-Index.is) (λ readonly laid choices. c.index.ensures.reads_index _ readonly laid c.at-b.ensures.first_value.1 choices)

pub memb-returns-in-Method-clause-reads : goal.memb-returns-in-Method-clause-reads
memb-returns-in-Method-clause-reads t c =
    member_signature c.args.text.now c.args.words.now c.args.given _ ((c.in_ok-h.ensures.starts_member c.args.notes.now c.args.given).done refl) c.at-b.ensures.first_value.0 (signature_sort _ c.in-Method.is).0 (signature_sort _ c.in-Method.is).1 (λ x laid choices. c.sign.ensures.reads_signature _ x laid c.at-b.ensures.first_value.1 choices)

pub memb-returns-in_err-t-in-Property-clause-reads : goal.memb-returns-in_err-t-in-Property-clause-reads
memb-returns-in_err-t-in-Property-clause-reads t c =
    rw (handed_on c.from_residual-in_err-t-in-Property.ensures.1)
    (member_property c.args.text.now c.args.words.now c.args.given _ ((c.in_ok-h.ensures.starts_member c.args.notes.now c.args.given).done refl) c.at-b.ensures.first_value.0 (ap sort_number c.in-Property.is) (λ readonly k question laid choices. (says_stop (refusal_some c.in_err-t-in-Property.field-0.0.why) (property_refused _ _ _ readonly k question _ ((c.in_err-t-in-Property.ensures.option _ _ (built_as c.none.ensures (built_names (k.spelling ∷ []) laid))).refused (refusal_some c.in_err-t-in-Property.field-0.0.why))))))

pub memb-returns-in_ok-t-in-Property-clause-reads : goal.memb-returns-in_ok-t-in-Property-clause-reads
memb-returns-in_ok-t-in-Property-clause-reads t c =
    member_property c.args.text.now c.args.words.now c.args.given _ ((c.in_ok-h.ensures.starts_member c.args.notes.now c.args.given).done refl) c.at-b.ensures.first_value.0 (ap sort_number c.in-Property.is) (λ readonly k question laid choices. let o = (c.in_ok-t-in-Property.ensures.option _ _ (built_as c.none.ensures (built_names (k.spelling ∷ []) laid))).done refl in says_same (property_typed _ _ _ readonly k question _ o.is) (c.member_node.ensures.makes_member c.args.text.now _ _ 0 (property_content readonly k question o.tree) _ _ o.built c.at-b.ensures.first_value.1 (property_shaped readonly k question o.tree c.in_ok-t-in-Property.t.there o.is_opt choices c.property_choices-all.ensures o.there_is)))

pub named-returns-in_err-n-clause-reads : goal.named-returns-in_err-n-clause-reads
named-returns-in_err-n-clause-reads t c =
    rw (handed_on c.from_residual.ensures.1)
    ((says_stop (refusal_some c.in_err-n.field-0.0.why)
    (name_at_lem _ _ _ ∙ then_refused _ ((c.in_err-n.ensures.starts_names c.args.text.now _ c.args.given c.requires.spelt).refused (refusal_some c.in_err-n.field-0.0.why)))))

pub named-returns-in_err-l-clause-reads : goal.named-returns-in_err-l-clause-reads
named-returns-in_err-l-clause-reads t c =
    rw (handed_on c.from_residual-in_err-l.ensures.1)
    (says_as refl
    (says_stop (refusal_some c.in_err-l.field-0.0.why)
    (name_at_lem _ _ _ ∙ then_read_lem _ ((c.in_ok-n.ensures.starts_names c.args.text.now _ c.args.given c.requires.spelt).done refl).is ∙ then_refused _
    (c.in_err-l.ensures.reads_list.refused (refusal_some c.in_err-l.field-0.0.why)))))

pub named-returns-clause-reads : goal.named-returns-clause-reads
named-returns-clause-reads t c =
    let head = (c.in_ok-n.ensures.starts_names c.args.text.now c.args.notes.now c.args.given c.requires.spelt).done refl in
    let got = c.in_ok-l.ensures.reads_list.done refl in
    says_same (named_read _ _ _ c.at.ensures.first_value.0 head.is got.is)
    (c.named_node.ensures.makes_named c.args.text.now _ head.what got.list _ _
    (built_behind (names_of head.what) (laid_spoken _ _ head.spoken) got.built)
    c.at.ensures.first_value.1 head.such got.there_is got.count_is got.each)

pub object-loop-nodes-init : goal.object-loop-nodes-init
object-loop-nodes-init t c =
    (omega arith, omega (arith, same_kids c.none-k.ensures), λ curly. object_begins _ _ c.args.m _ _ _ c.none-k.ensures curly)

pub object-returns-in_err-a-clause-reads : goal.object-returns-in_err-a-clause-reads
object-returns-in_err-a-clause-reads t c =
    rw (handed_on c.from_residual.ensures.1)
    (λ curly. says_stop (refusal_some c.in_err-a.field-0.0.why) (object_refused _ _ _ (c.loop-nodes.invariant.2 curly) (is_not_here c.args.words.now c.loop-nodes.p c.kind_at.ensures.value c.loop-nodes-test.true) (c.in_err-a.ensures.reads.refused (refusal_some c.in_err-a.field-0.0.why))))

pub object-loop-nodes-preserved : goal.object-loop-nodes-preserved
object-loop-nodes-preserved t c =
    (omega (arith, c.in_ok-a.ensures.within, c.memb.auto, c.in_ok-a.ensures.past refl, c.loop-nodes.invariant.0, c.loop-nodes.invariant.1, same_kids c.none-k.ensures, c.link-k.ensures.under), omega (arith, c.in_ok-a.ensures.within, c.in_ok-a.ensures.past refl, c.link-k.ensures.under), λ curly. object_again _ _ _ (c.loop-nodes.invariant.2 curly) (is_not_here c.args.words.now c.loop-nodes.p c.kind_at.ensures.value c.loop-nodes-test.true) (c.in_ok-a.ensures.reads.done refl) (omega (arith, c.in_ok-a.ensures.past refl, c.in_ok-a.ensures.within, c.link-k.ensures.under)) (omega (arith, c.in_ok-a.ensures.within, c.in_ok-a.ensures.past refl, c.link-k.ensures.under)) c.link-k.ensures.links c.link-k.ensures.under.1 (omega (arith, c.in_ok-a.ensures.within, c.in_ok-a.ensures.past refl, c.link-k.ensures.under)))

pub object-returns-clause-reads : goal.object-returns-clause-reads
object-returns-clause-reads t c =
    λ curly. says_same (object_closed _ _ _ (c.loop-nodes.invariant.2 curly) c.at-b.ensures.first_value.0 (is_here c.args.words.now c.loop-nodes.p c.kind_at.ensures.value c.loop-nodes-test.false)) (c.put_list.ensures.makes_list c.args.text.now _ _ _ _ _ (c.loop-nodes.invariant.2 curly).built c.at-b.ensures.first_value.1 (object_listed _ _ _ (c.loop-nodes.invariant.2 curly)))

pub operator-returns-in_err-a-clause-reads : goal.operator-returns-in_err-a-clause-reads
operator-returns-in_err-a-clause-reads t c =
    rw (handed_on c.from_residual.ensures.1)
    (let g = given_of c.args.text.now c.args.words.now c.args.given in
    let T = below c.args.given g in
    operand_refused c.args.text.now c.args.words.now c.args.given c.args.m c.past_operators-p.result c.args.nodes.now c.args.names.now
    c.args.notes.now (c.past_operators-p.ensures.passes_operators c.args.text.now c.args.notes.now c.args.given T c.args.on)
    (operand_infer g T c.args.on (view c.past_operators-p.result c.args.notes.now)
    (is_here c.args.words.now c.past_operators-p.result c.kind_at.ensures.value c.if-kind_at-eq-INFER.true)) c.past_operators-p.ensures.moved.0
    c.in_err-a.ensures.reads (refusal_some c.in_err-a.field-0.0.why))

pub operator-returns-then-kind_at-eq-INFER-clause-reads : goal.operator-returns-then-kind_at-eq-INFER-clause-reads
operator-returns-then-kind_at-eq-INFER-clause-reads t c =
    let g = given_of c.args.text.now c.args.words.now c.args.given in
    let T = below c.args.given g in
    operand_about c.args.text.now c.args.words.now c.args.given c.args.m c.past_operators-p.result c.args.nodes.now c.args.names.now
    c.args.notes.now (c.past_operators-p.ensures.passes_operators c.args.text.now c.args.notes.now c.args.given T c.args.on)
    (operand_infer g T c.args.on (view c.past_operators-p.result c.args.notes.now)
    (is_here c.args.words.now c.past_operators-p.result c.kind_at.ensures.value c.if-kind_at-eq-INFER.true)) c.past_operators-p.ensures.moved.0
    c.in_ok-a.ensures.reads
    refl (λ B u h n. c.put_operators.ensures.makes_operators c.args.text.now B u _ _ h n)

pub operator-returns-in_err-a-2-clause-reads : goal.operator-returns-in_err-a-2-clause-reads
operator-returns-in_err-a-2-clause-reads t c =
    rw (handed_on c.from_residual-in_err-a-2.ensures.1)
    (let g = given_of c.args.text.now c.args.words.now c.args.given in
    let T = below c.args.given g in
    operand_refused c.args.text.now c.args.words.now c.args.given c.args.m c.past_operators-p.result c.args.nodes.now c.args.names.now
    c.args.notes.now (c.past_operators-p.ensures.passes_operators c.args.text.now c.args.notes.now c.args.given T c.args.on)
    (operand_postfix g T c.args.on (view c.past_operators-p.result c.args.notes.now)
    (is_not_here c.args.words.now c.past_operators-p.result c.kind_at.ensures.value c.if-kind_at-eq-INFER.false)) c.past_operators-p.ensures.moved.0
    c.in_err-a-2.ensures.reads (refusal_some c.in_err-a-2.field-0.0.why))

pub operator-returns-clause-reads : goal.operator-returns-clause-reads
operator-returns-clause-reads t c =
    let g = given_of c.args.text.now c.args.words.now c.args.given in
    let T = below c.args.given g in
    operand_about c.args.text.now c.args.words.now c.args.given c.args.m c.past_operators-p.result c.args.nodes.now c.args.names.now
    c.args.notes.now (c.past_operators-p.ensures.passes_operators c.args.text.now c.args.notes.now c.args.given T c.args.on)
    (operand_postfix g T c.args.on (view c.past_operators-p.result c.args.notes.now)
    (is_not_here c.args.words.now c.past_operators-p.result c.kind_at.ensures.value c.if-kind_at-eq-INFER.false)) c.past_operators-p.ensures.moved.0
    c.in_ok-a-2.ensures.reads
    refl (λ B u h n. c.put_operators-2.ensures.makes_operators c.args.text.now B u _ _ h n)

pub opt-returns-then-kind_at-mark-clause-option : goal.opt-returns-then-kind_at-mark-clause-option
opt-returns-then-kind_at-mark-clause-option t c =
    λ B t b. option_absent (given_of c.args.text.now c.args.words.now c.args.given) c.args.mark ((below c.args.given (given_of c.args.text.now c.args.words.now c.args.given)) c.args.on) c.args.m (is_not_here c.args.words.now c.args.m c.kind_at.ensures.value c.if-kind_at-mark.true) b

pub opt-returns-clause-option : goal.opt-returns-clause-option
opt-returns-clause-option t c =
    λ B t b. option_there (given_of c.args.text.now c.args.words.now c.args.given) c.args.mark ((below c.args.given (given_of c.args.text.now c.args.words.now c.args.given)) c.args.on) c.args.m c.args.notes.now (is_here c.args.words.now c.args.m c.kind_at.ensures.value c.if-kind_at-mark.false) (λ z. (c.child.ensures.onward_child z).2) (c.child.ensures.child B t b)

pub param-returns-in_err-h-clause-reads : goal.param-returns-in_err-h-clause-reads
param-returns-in_err-h-clause-reads t c =
    rw (handed_on c.from_residual.ensures.1)
    ((says_stop (refusal_some c.in_err-h.field-0.0.why) (parameter_is _ _ _ ∙ then_refused _ ((c.in_err-h.ensures.starts_parameter c.args.text.now c.args.notes.now c.args.given c.requires.spelt).refused (refusal_some c.in_err-h.field-0.0.why)))))

pub param-returns-in_err-a-clause-reads : goal.param-returns-in_err-a-clause-reads
param-returns-in_err-a-clause-reads t c =
    rw (handed_on c.from_residual-in_err-a.ensures.1)
    (let head = (c.in_ok-h.ensures.starts_parameter c.args.text.now c.args.notes.now c.args.given c.requires.spelt).done refl in (says_stop (refusal_some c.in_err-a.field-0.0.why) (parameter_is _ _ _ ∙ then_read_lem _ head.is ∙ then_refused _ ((c.in_err-a.ensures.option _ _ (built_spoken c.none.ensures head.spoken)).refused (refusal_some c.in_err-a.field-0.0.why)))))

pub param-returns-clause-reads : goal.param-returns-clause-reads
param-returns-clause-reads t c =
    let head = (c.in_ok-h.ensures.starts_parameter c.args.text.now c.args.notes.now c.args.given c.requires.spelt).done refl in let x = (c.in_ok-a.ensures.option _ _ (built_spoken c.none.ensures head.spoken)).done refl in let rest = here c.args.words.now Dot3 c.args.m in says_same (parameter_is _ _ _ ∙ then_read_lem _ head.is ∙ then_read_lem _ x.is ∙ make_first _ _ _ _ _ c.at.ensures.first_value.0) (c.put.ensures.makes c.args.text.now 5 _ _ 0 _ _ _ x.built c.at.ensures.first_value.1 (shape_as (omega arith) (shape_parameter rest head.what.0 head.what.1 x.tree x.is_opt)))

pub params-returns-in_err-h-clause-reads_params : goal.params-returns-in_err-h-clause-reads_params
params-returns-in_err-h-clause-reads_params t c =
    rw (handed_on c.from_residual.ensures.1)
    (λ B r b. params_refused refl (refusal_some c.in_err-h.field-0.0.why) (opens_refused _ _ _ _ _ c.in_err-h.ensures.opens (refusal_some c.in_err-h.field-0.0.why)))

pub params-returns-then-h-eq0-clause-reads_params : goal.params-returns-then-h-eq0-clause-reads_params
params-returns-then-h-eq0-clause-reads_params t c =
    λ B r b. params_plain c.args.is_new (opens_plain _ _ _ _ _ c.in_ok-h.ensures.opens refl c.if-h-eq0.true) (c.plist.ensures.reads_others B r absent (built_moved c.in_ok-h.ensures.moved.0 b) (this_none c.none-none.ensures))

pub params-returns-in_err-a-clause-reads_params : goal.params-returns-in_err-a-clause-reads_params
params-returns-in_err-a-clause-reads_params t c =
    rw (handed_on c.from_residual-in_err-a.ensures.1)
    (λ B r b. params_refused refl (refusal_some c.in_err-a.field-0.0.why) (params_this_refused (given_of c.args.text.now c.args.words.now c.args.given) (below c.args.given (given_of c.args.text.now c.args.words.now c.args.given)) c.args.is_new c.args.nodes.now c.args.names.now c.args.notes.now c.in_ok-h.ensures.opens refl c.if-h-eq0.false b c.before_this.ensures.value (λ C r d. c.in_err-a.ensures.option C r d) (refusal_some c.in_err-a.field-0.0.why)))

pub params-returns-in_err-p-clause-reads_params : goal.params-returns-in_err-p-clause-reads_params
params-returns-in_err-p-clause-reads_params t c =
    rw (handed_on c.from_residual-in_err-p.ensures.1)
    (let low = freed_low c.args.is_new c.args.m.used c.in_ok-a.a.m.used c.args.given.room (omega (arith, c.requires)) (omega (arith, c.in_ok-a.ensures.within_list)) in
    let few = freed_low c.args.is_new c.args.m.named c.in_ok-a.a.m.named c.in_ok-a.a.m.at (omega (arith, c.in_ok-h.ensures.moved, c.in_ok-a.ensures.within_list, c.in_ok-a.ensures.past refl, c.requires)) (omega (arith, c.in_ok-a.ensures.within_list)) in
    λ B r b. params_refused refl (refusal_some c.in_err-p.field-0.0.why) (params_this_stops (given_of c.args.text.now c.args.words.now c.args.given) (below c.args.given (given_of c.args.text.now c.args.words.now c.args.given)) c.args.is_new c.args.nodes.now c.args.names.now c.args.notes.now c.in_ok-h.ensures.opens refl c.if-h-eq0.false b c.before_this.ensures.value (λ C r d. c.in_ok-a.ensures.option C r d) refl c.freed.ensures.value c.in_err-p.ensures.separates (refusal_some c.in_err-p.field-0.0.why)))

pub params-returns-clause-reads_params : goal.params-returns-clause-reads_params
params-returns-clause-reads_params t c =
    let low = freed_low c.args.is_new c.args.m.used c.in_ok-a.a.m.used c.args.given.room (omega (arith, c.requires)) (omega (arith, c.in_ok-a.ensures.within_list)) in
    let few = freed_low c.args.is_new c.args.m.named c.in_ok-a.a.m.named c.in_ok-a.a.m.at (omega (arith, c.in_ok-h.ensures.moved, c.in_ok-a.ensures.within_list, c.in_ok-a.ensures.past refl, c.requires)) (omega (arith, c.in_ok-a.ensures.within_list)) in
    let high = freed_high c.args.is_new c.args.m.used c.in_ok-a.a.m.used c.args.m.used (omega arith) (omega (arith, c.in_ok-a.ensures.past refl, c.in_ok-h.ensures.moved)) in
    let bit = bit_low c.in_ok-a.a.there in
    λ B r b. params_this (given_of c.args.text.now c.args.words.now c.args.given) (below c.args.given (given_of c.args.text.now c.args.words.now c.args.given)) c.args.is_new c.args.nodes.now c.args.names.now c.args.notes.now c.in_ok-h.ensures.opens refl c.if-h-eq0.false b c.before_this.ensures.value (λ C r d. c.in_ok-a.ensures.option C r d) refl c.freed.ensures.value c.in_ok-p.ensures.separates refl c.in_ok-p.ensures.moved c.this_kids-k.ensures (omega (arith, c.requires)) c.this_of-t.ensures (λ run th built i. c.plist-2.ensures.reads_others B run th built i)

pub parens-returns-in_err-a-clause-reads : goal.parens-returns-in_err-a-clause-reads
parens-returns-in_err-a-clause-reads t c =
    rw (handed_on c.from_residual.ensures.1)
    (says_stops _ c.in_err-a.ensures.reads (refusal_some c.in_err-a.field-0.0.why) (brackets_is _ _ _))

pub parens-returns-clause-reads : goal.parens-returns-clause-reads
parens-returns-clause-reads t c =
    let got = c.in_ok-a.ensures.reads.done refl in
    says_same (brackets_from _ _ _ c.at-b.result.first c.at-b.ensures.first_value.0 got.is)
    (c.parens_node.ensures.makes_parens c.args.text.now _ got.tree _ _ got.stands c.at-b.ensures.first_value.1)

pub plist-loop-given-init : goal.plist-loop-given-init
plist-loop-given-init t c =
    (omega arith, omega arith, λ B r th b. turn_none _ _ th r b)

pub plist-returns-in-Some-clause-reads_others : goal.plist-returns-in-Some-clause-reads_others
plist-returns-in-Some-clause-reads_others t c =
    λ B r th b i. let w = c.loop-given.invariant.2 B r th b in
    rest_refused refl (refusal_some c.in-Some.why)
    (w.is ∙ parameters_why _ _ th w.fuel w.list _
    (is_not_here c.args.words.now c.loop-given.p c.kind_at.ensures.value c.loop-given-test.true) (c.in-Some.ensures c.args.text.now c.loop-given.notes c.args.given)
    (refusal_some c.in-Some.why))

pub plist-returns-in_err-a-clause-reads_others : goal.plist-returns-in_err-a-clause-reads_others
plist-returns-in_err-a-clause-reads_others t c =
    rw (handed_on c.from_residual.ensures.1)
    (λ B r th b i. let w = c.loop-given.invariant.2 B r th b in
    rest_refused refl (refusal_some c.in_err-a.field-0.0.why)
    (w.is ∙ parameters_refused _ _ th w.fuel w.list _
    (is_not_here c.args.words.now c.loop-given.p c.kind_at.ensures.value c.loop-given-test.true)
    (may_begin (given_of c.args.text.now c.args.words.now c.args.given) (view c.loop-given.p c.loop-given.notes) (c.in_default.ensures c.args.text.now c.loop-given.notes c.args.given) refl)
    (c.in_err-a.ensures.reads.refused (refusal_some c.in_err-a.field-0.0.why))))

pub plist-returns-in_err-p-clause-reads_others : goal.plist-returns-in_err-p-clause-reads_others
plist-returns-in_err-p-clause-reads_others t c =
    rw (handed_on c.from_residual-in_err-p.ensures.1)
    (λ B r th b i. let w = c.loop-given.invariant.2 B r th b in
    let got = c.in_ok-a.ensures.reads.done refl in
    rest_refused refl (refusal_some c.in_err-p.field-0.0.why)
    (w.is ∙ parameters_stop _ _ th w.fuel w.list _
    (is_not_here c.args.words.now c.loop-given.p c.kind_at.ensures.value c.loop-given-test.true)
    (may_begin (given_of c.args.text.now c.args.words.now c.args.given) (view c.loop-given.p c.loop-given.notes) (c.in_default.ensures c.args.text.now c.loop-given.notes c.args.given) refl)
    _ got.is (separates_as Dot3 c.kind_at-in-loop-given.ensures.value c.in_err-p.ensures.separates) (refusal_some c.in_err-p.field-0.0.why)))

pub plist-loop-given-preserved : goal.plist-loop-given-preserved
plist-loop-given-preserved t c = (
  omega (arith, c.param.auto, c.in_ok-a.ensures.within, c.in_ok-a.ensures.onward refl, c.in_ok-p.ensures.moved, c.loop-given.invariant.0, c.requires),
  omega (arith, c.in_ok-a.ensures.within, c.in_ok-a.ensures.onward refl, c.in_ok-p.ensures.moved, c.link-k.ensures.under, c.loop-given.invariant.1, c.requires),
  λ B r th b. let w = c.loop-given.invariant.2 B r th b in
      let got = c.in_ok-a.ensures.reads.done refl in
      turn_parameter _ _ th r _ w c.link-k.result c.in_ok-a.a.m _ _ _ _ got.tree
      (is_not_here c.args.words.now c.loop-given.p c.kind_at.ensures.value c.loop-given-test.true)
      (may_begin (given_of c.args.text.now c.args.words.now c.args.given) (view c.loop-given.p c.loop-given.notes) (c.in_default.ensures c.args.text.now c.loop-given.notes c.args.given) refl)
      got.is (separates_as Dot3 c.kind_at-in-loop-given.ensures.value c.in_ok-p.ensures.separates) refl
      (omega (arith, c.in_ok-a.ensures.onward refl)) (omega (arith, c.in_ok-a.ensures.within, c.in_ok-a.ensures.onward refl))
      got.stands.is_node
      (built_moved c.in_ok-p.ensures.moved
      (c.link-k.ensures.links 5 B _ got.tree _ _ _ _ _ _ _ _ _ w.built (omega (arith, c.param.auto)) got.stands.is_node got.stands.high_is
      got.stands.laid)),
)

pub plist-returns-clause-reads_others : goal.plist-returns-clause-reads_others
plist-returns-clause-reads_others t c =
    λ B r th b i. rest_all _ _ th r _ (c.loop-given.invariant.2 B r th b) (is_here c.args.words.now c.loop-given.p c.kind_at.ensures.value c.loop-given-test.false) i
    (ap (λ (p : Params). told_params (Ok p)) c.all.ensures)

pub postfix-returns-in_err-a-clause-reads : goal.postfix-returns-in_err-a-clause-reads
postfix-returns-in_err-a-clause-reads t c =
    rw (handed_on c.from_residual.ensures.1)
    (let g = given_of c.args.text.now c.args.words.now c.args.given in
    let T = below c.args.given g in
    says_stops _ c.in_err-a.ensures.reads (refusal_some c.in_err-a.field-0.0.why)
    (postfix_is c.args.text.now c.args.words.now c.args.given T (view c.args.m c.args.notes.now)))

pub postfix-loop-given-init : goal.postfix-loop-given-init
postfix-loop-given-init t c = (
  omega (arith, c.in_ok-a.ensures.within, c.in_ok-a.ensures.onward refl),
  omega (arith, c.in_ok-a.ensures.onward refl, c.in_ok-a.ensures.within),
  λ B u h n. let g = given_of c.args.text.now c.args.words.now c.args.given in
      let T = below c.args.given g in
      marks_begin c.args.text.now c.args.words.now c.args.given T c.at-b.result.first h,
)

pub postfix-returns-in_err-c-clause-reads : goal.postfix-returns-in_err-c-clause-reads
postfix-returns-in_err-c-clause-reads t c =
    rw (handed_on c.from_residual-in_err-c.ensures.1)
    (let g = given_of c.args.text.now c.args.words.now c.args.given in
    let T = below c.args.given g in
    let w = marks_turn c.args.text.now c.args.words.now c.args.given T c.args.m c.args.nodes.now c.args.names.now c.args.notes.now
    {b = c.at-b.result} c.in_ok-a.ensures.reads refl c.at-b.ensures.first_value.0 c.at-b.ensures.first_value.1
    (λ B u h n. c.loop-given.invariant.2 B u h n) in
    mark_refused c.args.text.now c.args.words.now c.args.given T c.at-b.result.first w
    (sym (c.suffixed.ensures c.args.text.now c.loop-given.notes c.args.given) ∙ c.loop-given-test.true)
    (c.in_err-c.ensures.behind (was c.args.m c.args.nodes.now c.args.names.now c.args.notes.now) w.tree w.stands
    c.at-b.ensures.first_value.1) (refusal_some c.in_err-c.field-0.0.why))

pub postfix-loop-given-preserved : goal.postfix-loop-given-preserved
postfix-loop-given-preserved t c = (
  omega (arith, c.in_ok-c.ensures.past refl, c.in_ok-c.ensures.within),
  omega (arith, c.in_ok-c.ensures.past refl, c.in_ok-c.ensures.within),
  λ B u h n. let g = given_of c.args.text.now c.args.words.now c.args.given in
      let T = below c.args.given g in
      let w = c.loop-given.invariant.2 B u h n in
      marks_again c.args.text.now c.args.words.now c.args.given T c.at-b.result.first w
      (sym (c.suffixed.ensures c.args.text.now c.loop-given.notes c.args.given) ∙ c.loop-given-test.true)
      (c.in_ok-c.ensures.behind B w.tree w.stands n) refl (omega (arith, c.in_ok-c.ensures.past refl, c.in_ok-c.ensures.within)),
)

pub postfix-returns-clause-reads : goal.postfix-returns-clause-reads
postfix-returns-clause-reads t c =
    let g = given_of c.args.text.now c.args.words.now c.args.given in
    let T = below c.args.given g in
    let w = marks_turn c.args.text.now c.args.words.now c.args.given T c.args.m c.args.nodes.now c.args.names.now c.args.notes.now
    {b = c.at-b.result} c.in_ok-a.ensures.reads refl c.at-b.ensures.first_value.0 c.at-b.ensures.first_value.1
    (λ B u h n. c.loop-given.invariant.2 B u h n) in
    marks_end c.args.text.now c.args.words.now c.args.given T c.at-b.result.first w
    (sym (c.suffixed.ensures c.args.text.now c.loop-given.notes c.args.given) ∙ c.loop-given-test.false)

pub pred-returns-in_err-a-clause-reads : goal.pred-returns-in_err-a-clause-reads
pred-returns-in_err-a-clause-reads t c =
    rw (handed_on c.from_residual.ensures.1)
    (let begins = predicate_starts _ _ c.args.asserts c.args.m c.subject-h.result.m c.args.notes.now c.subject-h.ensures.at_value in (says_stop (refusal_some c.in_err-a.field-0.0.why) (begins ∙ then_refused _ ((c.in_err-a.ensures.option _ _ (built_spoken c.none.ensures (c.subject-h.ensures.speaks_subject c.args.text.now c.args.notes.now c.args.given c.requires.0.spelt))).refused (refusal_some c.in_err-a.field-0.0.why)))))

pub pred-returns-clause-reads : goal.pred-returns-clause-reads
pred-returns-clause-reads t c =
    let begins = predicate_starts _ _ c.args.asserts c.args.m c.subject-h.result.m c.args.notes.now c.subject-h.ensures.at_value in let x = (c.in_ok-a.ensures.option _ _ (built_spoken c.none.ensures (c.subject-h.ensures.speaks_subject c.args.text.now c.args.notes.now c.args.given c.requires.0.spelt))).done refl in let about = function.subject (given_of c.args.text.now c.args.words.now c.args.given) (subject_at c.args.asserts (view c.args.m c.args.notes.now)) in let this_is = subject_this c.args.text.now c.args.words.now c.args.given c.args.asserts c.args.m c.args.notes.now in says_same (begins ∙ then_read_lem _ x.is ∙ make_first _ _ _ _ _ c.at.ensures.first_value.0) (c.put.ensures.makes c.args.text.now 0 _ _ 16 _ _ _ x.built c.at.ensures.first_value.1 (shape_as (omega (arith, ap (predicate_choices c.args.asserts) this_is, c.subject-h.ensures.at_value, (c.from.ensures ∙ bit_is c.in_ok-a.a.there), x.there_is)) (shape_predicate c.args.asserts about x.tree x.is_opt)))

pub primary-returns-in-Ok-Keyword-clause-reads : goal.primary-returns-in-Ok-Keyword-clause-reads
primary-returns-in-Ok-Keyword-clause-reads t c =
    says_same (start_is c.args.words.now c.args.m c.in-Ok-Keyword.is c.in-Ok-Keyword.field-0-is c.primary_start.ensures.by_index c.args.text.now c.args.notes.now
    c.args.given _)
    (c.keyword.ensures.by_index c.args.text.now _ _)

pub primary-returns-in-Ok-Literal-clause-reads : goal.primary-returns-in-Ok-Literal-clause-reads
primary-returns-in-Ok-Literal-clause-reads t c =
    let is = start_is c.args.words.now c.args.m c.in-Ok-Literal.is c.in-Ok-Literal.field-0-is c.primary_start.ensures.by_index c.args.text.now c.args.notes.now
    c.args.given _ in
    says_same is.0 (c.literal.ensures.says_literal c.args.text.now _ c.requires.spelt is.1)

pub primary-returns-in-Ok-This-clause-reads : goal.primary-returns-in-Ok-This-clause-reads
primary-returns-in-Ok-This-clause-reads t c =
    says_same (start_is c.args.words.now c.args.m c.in-Ok-This.is c.in-Ok-This.field-0-is c.primary_start.ensures.by_index c.args.text.now c.args.notes.now
    c.args.given _)
    c.pred.ensures.reads

pub primary-returns-in-Ok-Asserts-clause-reads : goal.primary-returns-in-Ok-Asserts-clause-reads
primary-returns-in-Ok-Asserts-clause-reads t c =
    says_same (start_is c.args.words.now c.args.m c.in-Ok-Asserts.is c.in-Ok-Asserts.field-0-is c.primary_start.ensures.by_index c.args.text.now c.args.notes.now
    c.args.given _)
    c.pred-in-Ok-Asserts.ensures.reads

pub primary-returns-in-Ok-Name-clause-reads : goal.primary-returns-in-Ok-Name-clause-reads
primary-returns-in-Ok-Name-clause-reads t c =
    says_same (start_is c.args.words.now c.args.m c.in-Ok-Name.is c.in-Ok-Name.field-0-is c.primary_start.ensures.by_index c.args.text.now c.args.notes.now
    c.args.given _)
    c.named.ensures.reads

pub primary-returns-in-Ok-Mapped-clause-reads : goal.primary-returns-in-Ok-Mapped-clause-reads
primary-returns-in-Ok-Mapped-clause-reads t c =
    let is = start_is c.args.words.now c.args.m c.in-Ok-Mapped.is c.in-Ok-Mapped.field-0-is c.primary_start.ensures.by_index c.args.text.now c.args.notes.now
    c.args.given _ in
    says_same is.0 (c.mapped.ensures.reads is.1)

pub primary-returns-in-Ok-Object-clause-reads : goal.primary-returns-in-Ok-Object-clause-reads
primary-returns-in-Ok-Object-clause-reads t c =
    let is = start_is c.args.words.now c.args.m c.in-Ok-Object.is c.in-Ok-Object.field-0-is c.primary_start.ensures.by_index c.args.text.now c.args.notes.now
    c.args.given _ in
    says_same is.0 (c.object.ensures.reads is.1)

pub primary-returns-in-Ok-Tuple-clause-reads : goal.primary-returns-in-Ok-Tuple-clause-reads
primary-returns-in-Ok-Tuple-clause-reads t c =
    let is = start_is c.args.words.now c.args.m c.in-Ok-Tuple.is c.in-Ok-Tuple.field-0-is c.primary_start.ensures.by_index c.args.text.now c.args.notes.now
    c.args.given _ in
    says_same is.0 (c.tuple.ensures.reads is.1)

pub primary-returns-in-Ok-Parens-clause-reads : goal.primary-returns-in-Ok-Parens-clause-reads
primary-returns-in-Ok-Parens-clause-reads t c =
    says_same (start_is c.args.words.now c.args.m c.in-Ok-Parens.is c.in-Ok-Parens.field-0-is c.primary_start.ensures.by_index c.args.text.now c.args.notes.now
    c.args.given _)
    c.parens.ensures.reads

pub primary-returns-in-Ok-Template-clause-reads : goal.primary-returns-in-Ok-Template-clause-reads
primary-returns-in-Ok-Template-clause-reads t c =
    let is = start_is c.args.words.now c.args.m c.in-Ok-Template.is c.in-Ok-Template.field-0-is c.primary_start.ensures.by_index c.args.text.now c.args.notes.now
    c.args.given _ in
    says_same is.0 (c.template.ensures.reads is.1)

pub ret-returns-then-predicates-clause-reads : goal.ret-returns-then-predicates-clause-reads
ret-returns-then-predicates-clause-reads t c =
    says_same (return_predicate _ _ _ (sym (c.predicates.ensures c.args.text.now c.args.notes.now c.args.given) ∙ c.if-predicates.true))
    c.pred.ensures.reads

pub ret-returns-clause-reads : goal.ret-returns-clause-reads
ret-returns-clause-reads t c =
    says_same (return_type_lem _ _ _ (sym (c.predicates.ensures c.args.text.now c.args.notes.now c.args.given) ∙ c.if-predicates.false)) c.ty.ensures.reads

pub sign-returns-in_err-t-clause-reads_signature : goal.sign-returns-in_err-t-clause-reads_signature
sign-returns-in_err-t-clause-reads_signature t c =
    rw (handed_on c.from_residual.ensures.1)
    (λ B x d n e. let g = given_of c.args.text.now c.args.words.now c.args.given in let T = below c.args.given g in let s = view c.args.m c.args.notes.now in (says_stop (refusal_some c.in_err-t.field-0.0.why) (sign_is g T c.args.b.first x s ∙ then_refused (behind_types g T c.args.b.first x) (c.in_err-t.ensures.reads_list.refused (refusal_some c.in_err-t.field-0.0.why)))))

pub sign-returns-in_err-p-clause-reads_signature : goal.sign-returns-in_err-p-clause-reads_signature
sign-returns-in_err-p-clause-reads_signature t c =
    rw (handed_on c.from_residual-in_err-p.ensures.1)
    (λ B x d n e. let g = given_of c.args.text.now c.args.words.now c.args.given in let T = below c.args.given g in let s = view c.args.m c.args.notes.now in let l = c.in_ok-t.ensures.reads_list.done refl in (says_stop (refusal_some c.in_err-p.field-0.0.why) (sign_is g T c.args.b.first x s ∙ then_read_lem (behind_types g T c.args.b.first x) l.is ∙ then_refused (behind_params g T c.args.b.first x l.list) ((params_as g T _ (construct_is x e) (c.in_err-p.ensures.reads_params _ _ (built_behind (signature_names x) d l.built))).refused (refusal_some c.in_err-p.field-0.0.why)))))

pub sign-returns-in_err-s-clause-reads_signature : goal.sign-returns-in_err-s-clause-reads_signature
sign-returns-in_err-s-clause-reads_signature t c =
    rw (handed_on c.from_residual-in_err-s.ensures.1)
    (λ B x d n e. let g = given_of c.args.text.now c.args.words.now c.args.given in let T = below c.args.given g in let s = view c.args.m c.args.notes.now in let l = c.in_ok-t.ensures.reads_list.done refl in let got = (params_as g T _ (construct_is x e) (c.in_ok-p.ensures.reads_params _ _ (built_behind (signature_names x) d l.built))).done refl in let step = c.in_err-s.ensures.notes_this c.args.text.now c.args.words.now x got.what.this (construct_is x e) got.this_is in (says_stop (refusal_some c.in_err-s.field-0.0.why) (sign_is g T c.args.b.first x s ∙ then_read_lem (behind_types g T c.args.b.first x) l.is ∙ then_read_lem (behind_params g T c.args.b.first x l.list) got.is ∙ step.refused (refusal_some c.in_err-s.field-0.0.why) (behind_note g T c.args.b.first x l.list got.what))))

pub sign-returns-then-kind_at-ne-COLON-clause-reads_signature : goal.sign-returns-then-kind_at-ne-COLON-clause-reads_signature
sign-returns-then-kind_at-ne-COLON-clause-reads_signature t c =
    λ B x d n e. let g = given_of c.args.text.now c.args.words.now c.args.given in let T = below c.args.given g in let s = view c.args.m c.args.notes.now in let l = c.in_ok-t.ensures.reads_list.done refl in let got = (params_as g T _ (construct_is x e) (c.in_ok-p.ensures.reads_params _ _ (built_behind (signature_names x) d l.built))).done refl in let step = c.in_ok-s.ensures.notes_this c.args.text.now c.args.words.now x got.what.this (construct_is x e) got.this_is in says_same (sign_plain g T c.args.b.first x s l.is got.is (step.done refl) (is_not_here c.args.words.now c.in_ok-s.s c.kind_at.ensures.value c.if-kind_at-ne-COLON.true)) (sign_untyped c.args.text.now c.args.words.now c.args.given T c.args.b c.in_ok-s.s x l.list got (built_stepped step refl got.built) l.each l.there_is l.count_is n e c.signature_node.ensures.makes_signature)

pub sign-returns-in_err-r-clause-reads_signature : goal.sign-returns-in_err-r-clause-reads_signature
sign-returns-in_err-r-clause-reads_signature t c =
    rw (handed_on c.from_residual-in_err-r.ensures.1)
    (λ B x d n e. let g = given_of c.args.text.now c.args.words.now c.args.given in let T = below c.args.given g in let s = view c.args.m c.args.notes.now in let l = c.in_ok-t.ensures.reads_list.done refl in let got = (params_as g T _ (construct_is x e) (c.in_ok-p.ensures.reads_params _ _ (built_behind (signature_names x) d l.built))).done refl in let step = c.in_ok-s.ensures.notes_this c.args.text.now c.args.words.now x got.what.this (construct_is x e) got.this_is in says_stop (refusal_some c.in_err-r.field-0.0.why) (sign_stops g T c.args.b.first x s l.is got.is (step.done refl) (is_here c.args.words.now c.in_ok-s.s c.kind_at.ensures.value c.if-kind_at-ne-COLON.false) (c.in_err-r.ensures.reads.refused (refusal_some c.in_err-r.field-0.0.why))))

pub sign-returns-clause-reads_signature : goal.sign-returns-clause-reads_signature
sign-returns-clause-reads_signature t c =
    λ B x d n e. let g = given_of c.args.text.now c.args.words.now c.args.given in let T = below c.args.given g in let s = view c.args.m c.args.notes.now in let l = c.in_ok-t.ensures.reads_list.done refl in let got = (params_as g T _ (construct_is x e) (c.in_ok-p.ensures.reads_params _ _ (built_behind (signature_names x) d l.built))).done refl in let step = c.in_ok-s.ensures.notes_this c.args.text.now c.args.words.now x got.what.this (construct_is x e) got.this_is in let back = c.in_ok-r.ensures.reads.done refl in says_same (sign_returns g T c.args.b.first x s l.is got.is (step.done refl) (is_here c.args.words.now c.in_ok-s.s c.kind_at.ensures.value c.if-kind_at-ne-COLON.false) back.is) (sign_typed c.args.text.now c.args.words.now c.args.given T c.args.b c.in_ok-s.s x l.list got (built_stepped step refl got.built) l.each l.there_is l.count_is n e (told_params (Ok c.with-f.result)) (told (Ok c.in_ok-r.r)) back c.with-f.ensures.links_params (omega (arith, c.ret.auto)) c.signature_node-2.ensures.makes_signature)

pub suffix-returns-then-kind-eq-BANG-clause-behind : goal.suffix-returns-then-kind-eq-BANG-clause-behind
suffix-returns-then-kind-eq-BANG-clause-behind t c =
    λ B u h n. says_same (suffix_bang (given_of c.args.text.now c.args.words.now c.args.given) (below c.args.given (given_of c.args.text.now c.args.words.now c.args.given)) c.args.b.first u (view c.args.m c.args.notes.now) (is_here c.args.words.now c.args.m c.kind_at-kind.ensures.value c.if-kind-eq-BANG.true)) (c.put_about.ensures.makes_about c.args.text.now 0 B (run_in 0 u) 23 u c.args.names.now c.args.notes.now (built_child refl h) n (shape_non_null h.is_node))

pub suffix-returns-then-kind-eq-QUESTION-clause-behind : goal.suffix-returns-then-kind-eq-QUESTION-clause-behind
suffix-returns-then-kind-eq-QUESTION-clause-behind t c =
    λ B u h n. says_same (suffix_asked (given_of c.args.text.now c.args.words.now c.args.given) (below c.args.given (given_of c.args.text.now c.args.words.now c.args.given)) c.args.b.first u (view c.args.m c.args.notes.now) (is_not_here c.args.words.now c.args.m c.kind_at-kind.ensures.value c.if-kind-eq-BANG.false) (is_here c.args.words.now c.args.m c.kind_at-kind.ensures.value c.if-kind-eq-QUESTION.true)) (c.put_about-then-kind-eq-QUESTION.ensures.makes_about c.args.text.now 0 B (run_in 0 u) 24 u c.args.names.now c.args.notes.now (built_child refl h) n (shape_asked h.is_node))

pub suffix-returns-then-not-starter-clause-behind : goal.suffix-returns-then-not-starter-clause-behind
suffix-returns-then-not-starter-clause-behind t c =
    λ B u h n. says_same (suffix_array (given_of c.args.text.now c.args.words.now c.args.given) (below c.args.given (given_of c.args.text.now c.args.words.now c.args.given)) c.args.b.first u (view c.args.m c.args.notes.now) (is_not_here c.args.words.now c.args.m c.kind_at-kind.ensures.value c.if-kind-eq-BANG.false) (is_not_here c.args.words.now c.args.m c.kind_at-kind.ensures.value c.if-kind-eq-QUESTION.false) (sym c.starter.ensures ∙ not-true _ c.if-not-starter.true-raw)) (c.array.ensures.makes_array c.args.text.now B u c.args.names.now c.args.notes.now (stands_on h) n)

pub suffix-returns-in_err-a-clause-behind : goal.suffix-returns-in_err-a-clause-behind
suffix-returns-in_err-a-clause-behind t c =
    rw (handed_on c.from_residual.ensures.1)
    (λ B u h n. (says_stop (refusal_some c.in_err-a.field-0.0.why) ((suffix_index (given_of c.args.text.now c.args.words.now c.args.given) (below c.args.given (given_of c.args.text.now c.args.words.now c.args.given)) c.args.b.first u (view c.args.m c.args.notes.now) (is_not_here c.args.words.now c.args.m c.kind_at-kind.ensures.value c.if-kind-eq-BANG.false) (is_not_here c.args.words.now c.args.m c.kind_at-kind.ensures.value c.if-kind-eq-QUESTION.false) (sym c.starter.ensures ∙ not-false _ c.if-not-starter.false-raw)) ∙ then_refused _ ((c.in_err-a.ensures.child B _ (built_child c.one.ensures h)).refused (refusal_some c.in_err-a.field-0.0.why)))))

pub suffix-returns-clause-behind : goal.suffix-returns-clause-behind
suffix-returns-clause-behind t c =
    λ B u h n. let got = (c.in_ok-a.ensures.child B _ (built_child c.one.ensures h)).done refl in says_same ((suffix_index (given_of c.args.text.now c.args.words.now c.args.given) (below c.args.given (given_of c.args.text.now c.args.words.now c.args.given)) c.args.b.first u (view c.args.m c.args.notes.now) (is_not_here c.args.words.now c.args.m c.kind_at-kind.ensures.value c.if-kind-eq-BANG.false) (is_not_here c.args.words.now c.args.m c.kind_at-kind.ensures.value c.if-kind-eq-QUESTION.false) (sym c.starter.ensures ∙ not-false _ c.if-not-starter.false-raw)) ∙ then_read_lem _ got.is) (c.bracketed.ensures.makes_closed c.args.text.now B _ 8 (join u got.tree) _ _ got.built n (shape_indexed h.is_node got.is_node))

pub targs-returns-then-not-opens-clause-reads_list : goal.targs-returns-then-not-opens-clause-reads_list
targs-returns-then-not-opens-clause-reads_list t c =
    listed_absent (ap (λ (l : Entries). told_list (Ok l)) c.absent.ensures) (arguments_none _ _ _ (sym (c.opens.ensures.by_index c.args.text.now c.args.notes.now c.args.given) ∙ not-true _ c.if-not-opens.true-raw))

pub targs-loop-nodes-init : goal.targs-loop-nodes-init
targs-loop-nodes-init t c =
    (omega arith, omega (arith, c.requires, same_kids c.none-k.ensures, c.opened-p.ensures.opened_at), turn_starts c.args.m c.opened-p.result c.none-k.ensures c.opened-p.ensures.opened_at.used_is c.opened-p.ensures.opened_at.named_is c.opened-p.ensures.opened_at.noted_is (arguments_some _ _ _ (sym (c.opens.ensures.by_index c.args.text.now c.args.notes.now c.args.given) ∙ not-false _ c.if-not-opens.false-raw) ∙ ap (looped (given_of c.args.text.now c.args.words.now c.args.given) RAngle (λ l. (below c.args.given (given_of c.args.text.now c.args.words.now c.args.given)) true) (end_arguments (given_of c.args.text.now c.args.words.now c.args.given) (below c.args.given (given_of c.args.text.now c.args.words.now c.args.given)) (first (given_of c.args.text.now c.args.words.now c.args.given) (view c.args.m c.args.notes.now))) (turns (given_of c.args.text.now c.args.words.now c.args.given)) []) (sym (c.opened-p.ensures.by_index c.args.text.now c.args.notes.now c.args.given))))

pub targs-returns-in_err-a-clause-reads_list : goal.targs-returns-in_err-a-clause-reads_list
targs-returns-in_err-a-clause-reads_list t c =
    rw (handed_on c.from_residual.ensures.1)
    (let goes_on_lem = is_not_here c.args.words.now c.loop-nodes.p c.kind_at.ensures.value c.loop-nodes-test.true in listed_stops (refusal_some c.in_err-a.field-0.0.why) (turn_refused _ _ _ _ c.loop-nodes.p c.loop-nodes.invariant.2 goes_on_lem ((c.in_err-a.ensures.child _ _ c.loop-nodes.invariant.2.built).refused (refusal_some c.in_err-a.field-0.0.why))))

pub targs-returns-in_err-p-clause-reads_list : goal.targs-returns-in_err-p-clause-reads_list
targs-returns-in_err-p-clause-reads_list t c =
    rw (handed_on c.from_residual-in_err-p.ensures.1)
    (let goes_on_lem = is_not_here c.args.words.now c.loop-nodes.p c.kind_at.ensures.value c.loop-nodes-test.true in listed_refused refl (refusal_some c.in_err-p.field-0.0.why) (turn_stops _ _ _ _ c.loop-nodes.p c.loop-nodes.invariant.2 goes_on_lem _ ((c.in_ok-a.ensures.child _ _ c.loop-nodes.invariant.2.built).done refl).is c.in_err-p.ensures.follows (refusal_some c.in_err-p.field-0.0.why)))

pub targs-loop-nodes-preserved : goal.targs-loop-nodes-preserved
targs-loop-nodes-preserved t c =
    (omega (arith, c.requires, same_kids c.none-k.ensures, c.kind_at.ensures.upper_bound, c.in_ok-a.ensures.within_list, c.in_ok-a.ensures.onward_child refl, c.child.auto, c.opened-p.ensures.opened_at, c.loop-nodes.invariant.0, c.loop-nodes.invariant.1, c.in_ok-p.ensures.moved), omega (arith, c.in_ok-a.ensures.within_list, c.in_ok-a.ensures.onward_child refl, c.in_ok-p.ensures.moved), let goes_on_lem = is_not_here c.args.words.now c.loop-nodes.p c.kind_at.ensures.value c.loop-nodes-test.true in turn_child _ _ _ _ c.loop-nodes.p c.loop-nodes.invariant.2 goes_on_lem ((c.in_ok-a.ensures.child _ _ c.loop-nodes.invariant.2.built).done refl) (c.in_ok-a.ensures.onward_child refl).1 c.in_ok-p.ensures.follows refl c.in_ok-p.ensures.moved (omega (arith, c.requires, same_kids c.none-k.ensures, c.kind_at.ensures.upper_bound, c.in_ok-a.ensures.within_list, c.in_ok-a.ensures.onward_child refl, c.opened-p.ensures.opened_at, c.loop-nodes.invariant.0, c.loop-nodes.invariant.1, c.in_ok-p.ensures.moved)) (omega (arith, c.requires, same_kids c.none-k.ensures, c.kind_at.ensures.upper_bound, c.in_ok-a.ensures.within_list, c.in_ok-a.ensures.onward_child refl, c.opened-p.ensures.opened_at, c.loop-nodes.invariant.0, c.loop-nodes.invariant.1, c.in_ok-p.ensures.moved)))

pub targs-returns-clause-reads_list : goal.targs-returns-clause-reads_list
targs-returns-clause-reads_list t c =
    turn_ends c.args.text.now c.args.words.now c.args.given _ _ _ _ c.loop-nodes.p c.loop-nodes.invariant.2 (is_here c.args.words.now c.loop-nodes.p c.kind_at.ensures.value c.loop-nodes-test.false) c.first_byte-first.ensures.value c.list_end.ensures.ends

pub template-loop-a-init : goal.template-loop-a-init
template-loop-a-init t c =
    (omega (arith, c.requires, c.spell-p.auto, same_kids c.none-k.ensures, same_mark c.spell-p.ensures.0), omega (arith, c.requires, same_kids c.none-k.ensures, same_mark c.spell-p.ensures.0), λ h B d. pieces_start c.spell-p.result c.none-k.ensures d)

pub template-returns-in_err-a-clause-reads : goal.template-returns-in_err-a-clause-reads
template-returns-in_err-a-clause-reads t c =
    rw (handed_on c.from_residual.ensures.1)
    (λ h. let begins = template_starts c.args.text.now c.args.words.now c.args.given (below c.args.given (given_of c.args.text.now c.args.words.now c.args.given)) c.args.m c.spell-p.result c.args.notes.now c.spell-p.ensures.0 h in let w = c.loop-a.invariant.2 h (was c.args.m c.args.nodes.now c.args.names.now c.args.notes.now) (laid_head c.args.m c.spell-p.ensures.0 (c.spell-p.ensures.1 c.args.text.now c.requires.0.spelt)) in (says_stop (refusal_some c.in_err-a.field-0.0.why) (begins ∙ pieces_refused c.args.text.now c.args.words.now c.args.given (below c.args.given (given_of c.args.text.now c.args.words.now c.args.given)) (view c.args.m c.args.notes.now) c.loop-a.p w ((c.in_err-a.ensures.child _ _ w.built).refused (refusal_some c.in_err-a.field-0.0.why)))))

pub template-returns-then-kind-eq-TEMPLATE_TAIL-clause-reads : goal.template-returns-then-kind-eq-TEMPLATE_TAIL-clause-reads
template-returns-then-kind-eq-TEMPLATE_TAIL-clause-reads t c =
    λ h. let begins = template_starts c.args.text.now c.args.words.now c.args.given (below c.args.given (given_of c.args.text.now c.args.words.now c.args.given)) c.args.m c.spell-p.result c.args.notes.now c.spell-p.ensures.0 h in let w = c.loop-a.invariant.2 h (was c.args.m c.args.nodes.now c.args.names.now c.args.notes.now) (laid_head c.args.m c.spell-p.ensures.0 (c.spell-p.ensures.1 c.args.text.now c.requires.0.spelt)) in says_same begins (pieces_end c.args.text.now c.args.words.now c.args.given (below c.args.given (given_of c.args.text.now c.args.words.now c.args.given)) (view c.args.m c.args.notes.now) c.loop-a.p w c.in_ok-a.a.m ((c.in_ok-a.ensures.child _ _ w.built).done refl) (c.in_ok-a.ensures.onward_child refl).1 c.spell-n.ensures.0 (c.spell-n.ensures.1 c.args.text.now c.requires.0.spelt) (sym c.kind_at-kind.ensures.value ∙ c.if-kind-eq-TEMPLATE_TAIL.true) c.at-b.ensures.first_value.0 c.at-b.ensures.first_value.1 c.put_list.ensures.makes_list)

pub template-returns-then-kind-ne-TEMPLATE_MIDDLE-clause-reads : goal.template-returns-then-kind-ne-TEMPLATE_MIDDLE-clause-reads
template-returns-then-kind-ne-TEMPLATE_MIDDLE-clause-reads t c =
    λ h. let begins = template_starts c.args.text.now c.args.words.now c.args.given (below c.args.given (given_of c.args.text.now c.args.words.now c.args.given)) c.args.m c.spell-p.result c.args.notes.now c.spell-p.ensures.0 h in let w = c.loop-a.invariant.2 h (was c.args.m c.args.nodes.now c.args.names.now c.args.notes.now) (laid_head c.args.m c.spell-p.ensures.0 (c.spell-p.ensures.1 c.args.text.now c.requires.0.spelt)) in (says_stop (λ z. omega arith) (begins ∙ pieces_stop c.args.text.now c.args.words.now c.args.given (below c.args.given (given_of c.args.text.now c.args.words.now c.args.given)) (view c.args.m c.args.notes.now) c.loop-a.p w c.in_ok-a.a.m ((c.in_ok-a.ensures.child _ _ w.built).done refl) (is_not_here c.args.words.now c.in_ok-a.a.m c.kind_at-kind.ensures.value c.if-kind-ne-TEMPLATE_MIDDLE.true) (is_not_here c.args.words.now c.in_ok-a.a.m c.kind_at-kind.ensures.value c.if-kind-eq-TEMPLATE_TAIL.false)))

pub template-loop-a-preserved : goal.template-loop-a-preserved
template-loop-a-preserved t c =
    (omega (arith, c.requires, c.spell-p.auto, same_kids c.none-k.ensures, c.in_ok-a.ensures.within_list, c.in_ok-a.ensures.onward_child refl, c.child.auto, c.kind_at-kind.ensures.upper_bound, c.spell-p-in-loop-a.auto, same_mark c.spell-p.ensures.0, c.loop-a.invariant.0, c.loop-a.invariant.1, same_mark c.spell-p-in-loop-a.ensures.0), omega (arith, c.requires, same_kids c.none-k.ensures, c.in_ok-a.ensures.within_list, c.in_ok-a.ensures.onward_child refl, c.kind_at-kind.ensures.upper_bound, same_mark c.spell-p.ensures.0, c.loop-a.invariant.0, c.loop-a.invariant.1, same_mark c.spell-p-in-loop-a.ensures.0), λ h B d. let w = c.loop-a.invariant.2 h B d in pieces_again c.args.text.now c.args.words.now c.args.given (below c.args.given (given_of c.args.text.now c.args.words.now c.args.given)) (view c.args.m c.args.notes.now) c.loop-a.p w c.in_ok-a.a.m ((c.in_ok-a.ensures.child _ _ w.built).done refl) (c.in_ok-a.ensures.onward_child refl).1 c.spell-p-in-loop-a.ensures.0 (c.spell-p-in-loop-a.ensures.1 c.args.text.now c.requires.0.spelt) (sym c.kind_at-kind.ensures.value ∙ c.if-kind-ne-TEMPLATE_MIDDLE.false) (omega (arith, c.requires, same_kids c.none-k.ensures, c.in_ok-a.ensures.within_list, c.in_ok-a.ensures.onward_child refl, c.kind_at-kind.ensures.upper_bound, same_mark c.spell-p.ensures.0, c.loop-a.invariant.0, c.loop-a.invariant.1, same_mark c.spell-p-in-loop-a.ensures.0)) (omega (arith, c.requires, same_kids c.none-k.ensures, c.in_ok-a.ensures.within_list, c.in_ok-a.ensures.onward_child refl, c.kind_at-kind.ensures.upper_bound, same_mark c.spell-p.ensures.0, c.loop-a.invariant.0, c.loop-a.invariant.1, same_mark c.spell-p-in-loop-a.ensures.0)))

pub tparam-returns-in_err-q-clause-reads : goal.tparam-returns-in_err-q-clause-reads
tparam-returns-in_err-q-clause-reads t c =
    rw (handed_on c.from_residual.ensures.1)
    ((says_stop (refusal_some c.in_err-q.field-0.0.why) (type_parameter_lem _ _ _ _ ∙ then_refused _ ((c.in_err-q.ensures.starts_bound c.args.text.now c.requires.spelt).refused (refusal_some c.in_err-q.field-0.0.why)))))

pub tparam-returns-in_err-x-clause-reads : goal.tparam-returns-in_err-x-clause-reads
tparam-returns-in_err-x-clause-reads t c =
    rw (handed_on c.from_residual-in_err-x.ensures.1)
    (let head = (c.in_ok-q.ensures.starts_bound c.args.text.now c.requires.spelt).done refl in (says_stop (refusal_some c.in_err-x.field-0.0.why) (type_parameter_lem _ _ _ _ ∙ then_read_lem _ head.is ∙ then_refused _ ((c.in_err-x.ensures.option _ _ (built_bound c.none-k.ensures head)).refused (refusal_some c.in_err-x.field-0.0.why)))))

pub tparam-returns-in_err-d-clause-reads : goal.tparam-returns-in_err-d-clause-reads
tparam-returns-in_err-d-clause-reads t c =
    rw (handed_on c.from_residual-in_err-d.ensures.1)
    (let head = (c.in_ok-q.ensures.starts_bound c.args.text.now c.requires.spelt).done refl in let x = (c.in_ok-x.ensures.option _ _ (built_bound c.none-k.ensures head)).done refl in (says_stop (refusal_some c.in_err-d.field-0.0.why) (type_parameter_lem _ _ _ _ ∙ then_read_lem _ head.is ∙ then_read_lem _ x.is ∙ then_refused _ ((c.in_err-d.ensures.option _ _ x.built).refused (refusal_some c.in_err-d.field-0.0.why)))))

pub tparam-returns-clause-reads : goal.tparam-returns-clause-reads
tparam-returns-clause-reads t c =
    let head = (c.in_ok-q.ensures.starts_bound c.args.text.now c.requires.spelt).done refl in let x = (c.in_ok-x.ensures.option _ _ (built_bound c.none-k.ensures head)).done refl in let d = (c.in_ok-d.ensures.option _ _ x.built).done refl in says_same (type_parameter_lem _ _ _ _ ∙ then_read_lem _ head.is ∙ then_read_lem _ x.is ∙ then_read_lem _ d.is ∙ make_first _ _ _ _ _ c.at.ensures.first_value.0) (c.put.ensures.makes c.args.text.now 4 _ _ 0 _ _ _ d.built c.at.ensures.first_value.1 (shape_as (omega arith) (shape_type_parameter head.name x.tree d.tree x.is_opt d.is_opt)))

pub tparams-returns-then-kind_at-ne-L_ANGLE-clause-reads_list : goal.tparams-returns-then-kind_at-ne-L_ANGLE-clause-reads_list
tparams-returns-then-kind_at-ne-L_ANGLE-clause-reads_list t c =
    listed_absent (ap (λ (l : Entries). told_list (Ok l)) c.absent.ensures)
    (types_none _ _ _ _ (is_not_here c.args.words.now c.args.m c.kind_at.ensures.value c.if-kind_at-ne-L_ANGLE.true))

pub tparams-loop-nodes-init : goal.tparams-loop-nodes-init
tparams-loop-nodes-init t c = (
  omega arith,
  omega (arith, same_kids c.none-k.ensures),
  turn_starts c.args.m _ c.none-k.ensures refl refl refl
      (types_some _ _ _ _ (is_here c.args.words.now c.args.m c.kind_at.ensures.value c.if-kind_at-ne-L_ANGLE.false)),
)

pub tparams-returns-in_err-a-clause-reads_list : goal.tparams-returns-in_err-a-clause-reads_list
tparams-returns-in_err-a-clause-reads_list t c =
    rw (handed_on c.from_residual.ensures.1)
    (let goes_on_lem = is_not_here c.args.words.now c.loop-nodes.p c.kind_at-in-loop-nodes.ensures.value c.loop-nodes-test.true in
    listed_refused refl (refusal_some c.in_err-a.field-0.0.why)
    (turn_refused _ _ _ _ c.loop-nodes.p c.loop-nodes.invariant.2 goes_on_lem (c.in_err-a.ensures.reads.refused (refusal_some c.in_err-a.field-0.0.why))))

pub tparams-returns-in_err-p-clause-reads_list : goal.tparams-returns-in_err-p-clause-reads_list
tparams-returns-in_err-p-clause-reads_list t c =
    rw (handed_on c.from_residual-in_err-p.ensures.1)
    (let goes_on_lem = is_not_here c.args.words.now c.loop-nodes.p c.kind_at-in-loop-nodes.ensures.value c.loop-nodes-test.true in
    listed_refused refl (refusal_some c.in_err-p.field-0.0.why)
    (turn_stops _ _ _ _ c.loop-nodes.p c.loop-nodes.invariant.2 goes_on_lem _ (c.in_ok-a.ensures.reads.done refl).is c.in_err-p.ensures.follows (refusal_some c.in_err-p.field-0.0.why)))

pub tparams-loop-nodes-preserved : goal.tparams-loop-nodes-preserved
tparams-loop-nodes-preserved t c = (
  omega (arith, c.tparam.auto, c.in_ok-a.ensures.onward refl, c.in_ok-a.ensures.within, c.in_ok-p.ensures.moved, c.link-k.ensures.under),
  omega (arith, c.in_ok-a.ensures.within, c.in_ok-a.ensures.onward refl, c.in_ok-p.ensures.moved, c.link-k.ensures.under),
  let goes_on_lem = is_not_here c.args.words.now c.loop-nodes.p c.kind_at-in-loop-nodes.ensures.value c.loop-nodes-test.true in
      turn_again _ _ _ _ c.loop-nodes.p c.loop-nodes.invariant.2 goes_on_lem (c.in_ok-a.ensures.reads.done refl) c.link-k.ensures.links (omega (arith, c.in_ok-a.ensures.within, c.in_ok-a.ensures.onward refl, c.in_ok-p.ensures.moved, c.link-k.ensures.under))
      c.link-k.ensures.under.1
      c.in_ok-p.ensures.follows refl c.in_ok-p.ensures.moved
      (omega (arith, c.in_ok-a.ensures.onward refl, c.in_ok-a.ensures.within, c.in_ok-p.ensures.moved, c.link-k.ensures.under)) (omega (arith, c.in_ok-a.ensures.onward refl, c.in_ok-a.ensures.within, c.in_ok-p.ensures.moved, c.link-k.ensures.under)),
)

pub tparams-returns-clause-reads_list : goal.tparams-returns-clause-reads_list
tparams-returns-clause-reads_list t c =
    turn_ends c.args.text.now c.args.words.now c.args.given _ _ _ _ c.loop-nodes.p c.loop-nodes.invariant.2
    (is_here c.args.words.now c.loop-nodes.p c.kind_at-in-loop-nodes.ensures.value c.loop-nodes-test.false) c.first_byte-first.ensures.value c.list_end.ensures.ends

pub tuple-loop-latest-init : goal.tuple-loop-latest-init
tuple-loop-latest-init t c = (
  omega arith,
  omega (arith, same_kids c.none-k.ensures),
  λ brack. tuple_begins _ _ c.args.m _ _ _ c.none-k.ensures refl brack,
)

pub tuple-returns-in_err-a-clause-reads : goal.tuple-returns-in_err-a-clause-reads
tuple-returns-in_err-a-clause-reads t c =
    rw (handed_on c.from_residual.ensures.1)
    (λ brack. says_stop (refusal_some c.in_err-a.field-0.0.why)
    (tuple_refused c.args.text.now c.args.words.now c.args.given _ _ (c.loop-latest.invariant.2 brack)
    (is_not_here c.args.words.now c.loop-latest.p c.kind_at.ensures.value c.loop-latest-test.true) (c.in_err-a.ensures.reads.refused (refusal_some c.in_err-a.field-0.0.why))))

pub tuple-returns-in_err-e-clause-reads : goal.tuple-returns-in_err-e-clause-reads
tuple-returns-in_err-e-clause-reads t c =
    rw (handed_on c.from_residual-in_err-e.ensures.1)
    (λ brack. says_as refl
    (says_stop (refusal_some c.in_err-e.field-0.0.why)
    (tuple_full c.args.text.now c.args.words.now c.args.given _ _ (c.loop-latest.invariant.2 brack)
    (is_not_here c.args.words.now c.loop-latest.p c.kind_at.ensures.value c.loop-latest-test.true)
    (c.in_ok-a.ensures.reads.done refl) c.in_err-e.ensures.checks (refusal_some c.in_err-e.field-0.0.why))))

pub tuple-returns-in_err-p-clause-reads : goal.tuple-returns-in_err-p-clause-reads
tuple-returns-in_err-p-clause-reads t c =
    rw (handed_on c.from_residual-in_err-p.ensures.1)
    (λ brack. says_as refl
    (says_stop (refusal_some c.in_err-p.field-0.0.why)
    (tuple_stops c.args.text.now c.args.words.now c.args.given _ _ (c.loop-latest.invariant.2 brack)
    (is_not_here c.args.words.now c.loop-latest.p c.kind_at.ensures.value c.loop-latest-test.true)
    (c.in_ok-a.ensures.reads.done refl) c.in_ok-e.ensures.checks refl c.in_err-p.ensures.follows (refusal_some c.in_err-p.field-0.0.why))))

pub tuple-loop-latest-preserved : goal.tuple-loop-latest-preserved
tuple-loop-latest-preserved t c = (
  omega (arith, c.in_ok-a.ensures.within, c.elem.auto, c.in_ok-a.ensures.onward refl, c.loop-latest.invariant.0, c.loop-latest.invariant.1, same_kids c.none-k.ensures, c.in_ok-e.ensures.seen_at, c.in_ok-p.ensures.moved, c.link-k.ensures.under),
  omega (arith, c.in_ok-a.ensures.within, c.in_ok-a.ensures.onward refl, c.in_ok-e.ensures.seen_at, c.in_ok-p.ensures.moved, c.link-k.ensures.under),
  λ brack. tuple_again c.args.text.now c.args.words.now c.args.given _ _ (c.loop-latest.invariant.2 brack)
      (is_not_here c.args.words.now c.loop-latest.p c.kind_at.ensures.value c.loop-latest-test.true)
      (c.in_ok-a.ensures.reads.done refl) c.in_ok-e.ensures.checks refl c.in_ok-p.ensures.follows refl
      c.in_ok-p.ensures.moved
      (omega (arith, c.in_ok-a.ensures.onward refl, c.in_ok-a.ensures.within, c.in_ok-e.ensures.seen_at, c.in_ok-p.ensures.moved, c.link-k.ensures.under))
      (omega (arith, c.in_ok-a.ensures.onward refl, c.in_ok-a.ensures.within, c.in_ok-e.ensures.seen_at, c.in_ok-p.ensures.moved, c.link-k.ensures.under)) c.link-k.ensures.links c.link-k.ensures.under.1
      (omega (arith, c.elem.auto, c.in_ok-a.ensures.within, c.in_ok-a.ensures.onward refl, c.in_ok-e.ensures.seen_at, c.in_ok-p.ensures.moved, c.link-k.ensures.under)),
)

pub tuple-returns-clause-reads : goal.tuple-returns-clause-reads
tuple-returns-clause-reads t c =
    λ brack. says_same
    (tuple_closed c.args.text.now c.args.words.now c.args.given _ _ (c.loop-latest.invariant.2 brack) c.at.ensures.first_value.0
    (is_here c.args.words.now c.loop-latest.p c.kind_at.ensures.value c.loop-latest-test.false))
    (c.tuple_node.ensures.makes_list c.args.text.now _ _ _ _ _ (c.loop-latest.invariant.2 brack).turn.built c.at.ensures.first_value.1
    (tuple_listed c.args.text.now c.args.words.now c.args.given _ _ (c.loop-latest.invariant.2 brack)))

pub ty-returns-then-given-eq0-clause-reads : goal.ty-returns-then-given-eq0-clause-reads
ty-returns-then-given-eq0-clause-reads t c =
    (says_refused 4 (type_none _ _ _ _ c.if-given-eq0.true))

pub ty-returns-then-begins-clause-reads : goal.ty-returns-then-begins-clause-reads
ty-returns-then-begins-clause-reads t c =
    says_tallied c.enter.ensures c.args.m c.args.nodes.now c.args.names.now (says_same (type_function _ _ _ _ (view_tallied c.enter.ensures c.args.m) c.if-given-eq0.false (sym c.begins.ensures ∙ c.if-begins.true)) c.function.ensures.reads)

pub ty-returns-in_err-a-clause-reads : goal.ty-returns-in_err-a-clause-reads
ty-returns-in_err-a-clause-reads t c =
    rw (handed_on c.from_residual.ensures.1)
    (says_tallied c.enter.ensures c.args.m c.args.nodes.now c.args.names.now (says_same (type_other _ _ _ _ (view_tallied c.enter.ensures c.args.m) c.if-given-eq0.false (sym c.begins.ensures ∙ c.if-begins.false)) (says_stops _ c.in_err-a.ensures.reads (refusal_some c.in_err-a.field-0.0.why) (union_or _ _ _ _))))

pub ty-returns-then-not-on-clause-reads : goal.ty-returns-then-not-on-clause-reads
ty-returns-then-not-on-clause-reads t c =
    says_tallied c.enter.ensures c.args.m c.args.nodes.now c.args.names.now (says_same (type_other _ _ _ _ (view_tallied c.enter.ensures c.args.m) c.if-given-eq0.false (sym c.begins.ensures ∙ c.if-begins.false)) (says_passed c.in_ok-a.ensures.reads refl (union_off _ _ _ _ (c.in_ok-a.ensures.reads.done refl).is (not-true _ c.if-not-on.true-raw))))

pub ty-returns-then-not-on_line-clause-reads : goal.ty-returns-then-not-on_line-clause-reads
ty-returns-then-not-on_line-clause-reads t c =
    says_tallied c.enter.ensures c.args.m c.args.nodes.now c.args.names.now (says_same (type_other _ _ _ _ (view_tallied c.enter.ensures c.args.m) c.if-given-eq0.false (sym c.begins.ensures ∙ c.if-begins.false)) (says_passed c.in_ok-a.ensures.reads refl (union_apart _ _ _ _ (c.in_ok-a.ensures.reads.done refl).is (not-false _ c.if-not-on.false-raw) (sym c.on_line.ensures ∙ not-true _ c.if-not-on_line.true-raw))))

pub ty-returns-then-kind_at-ne-EXTENDS-clause-reads : goal.ty-returns-then-kind_at-ne-EXTENDS-clause-reads
ty-returns-then-kind_at-ne-EXTENDS-clause-reads t c =
    says_tallied c.enter.ensures c.args.m c.args.nodes.now c.args.names.now (says_same (type_other _ _ _ _ (view_tallied c.enter.ensures c.args.m) c.if-given-eq0.false (sym c.begins.ensures ∙ c.if-begins.false)) (says_passed c.in_ok-a.ensures.reads refl (union_alone _ _ _ _ (c.in_ok-a.ensures.reads.done refl).is (not-false _ c.if-not-on.false-raw) (sym c.on_line.ensures ∙ not-false _ c.if-not-on_line.false-raw) (is_not_here c.args.words.now c.in_ok-a.a.m c.kind_at.ensures.value c.if-kind_at-ne-EXTENDS.true))))

pub ty-returns-clause-reads : goal.ty-returns-clause-reads
ty-returns-clause-reads t c =
    let got = c.in_ok-a.ensures.reads.done refl in says_tallied c.enter.ensures c.args.m c.args.nodes.now c.args.names.now (says_same ((type_other _ _ _ _ (view_tallied c.enter.ensures c.args.m) c.if-given-eq0.false (sym c.begins.ensures ∙ c.if-begins.false)) ∙ union_goes _ _ _ _ got.is c.at-b.result.first c.at-b.ensures.first_value.0 (not-false _ c.if-not-on.false-raw) (sym c.on_line.ensures ∙ not-false _ c.if-not-on_line.false-raw) (is_here c.args.words.now c.in_ok-a.a.m c.kind_at.ensures.value c.if-kind_at-ne-EXTENDS.false)) (c.extends.ensures.behind _ got.tree got.stands c.at-b.ensures.first_value.1))

pub union-loop-a-init : goal.union-loop-a-init
union-loop-a-init t c =
    (omega arith, omega (arith, c.requires, c.past-p.ensures.moved, same_kids c.none-k.ensures), parts_start c.args.text.now c.args.words.now c.args.given (below c.args.given (given_of c.args.text.now c.args.words.now c.args.given)) Pipe 5 (unions.intersection (given_of c.args.text.now c.args.words.now c.args.given) (below c.args.given (given_of c.args.text.now c.args.words.now c.args.given)) c.args.on) c.args.m c.past-p.result c.args.nodes.now c.args.names.now c.args.notes.now (union_is (given_of c.args.text.now c.args.words.now c.args.given) (below c.args.given (given_of c.args.text.now c.args.words.now c.args.given)) c.args.on (view c.args.m c.args.notes.now)) c.past-p.ensures.value c.past-p.ensures.moved c.none-k.ensures)

pub union-returns-in_err-a-clause-reads : goal.union-returns-in_err-a-clause-reads
union-returns-in_err-a-clause-reads t c =
    rw (handed_on c.from_residual.ensures.1)
    (part_refused c.args.text.now c.args.words.now c.args.given (below c.args.given (given_of c.args.text.now c.args.words.now c.args.given)) Pipe 5 (unions.intersection (given_of c.args.text.now c.args.words.now c.args.given) (below c.args.given (given_of c.args.text.now c.args.words.now c.args.given)) c.args.on) c.args.m c.args.notes.now c.loop-a.invariant.2 c.in_err-a.ensures.reads (refusal_some c.in_err-a.field-0.0.why))

pub union-returns-then-kind_at-ne-PIPE-clause-reads : goal.union-returns-then-kind_at-ne-PIPE-clause-reads
union-returns-then-kind_at-ne-PIPE-clause-reads t c =
    parts_joined c.args.text.now c.args.words.now c.args.given (below c.args.given (given_of c.args.text.now c.args.words.now c.args.given)) Pipe 5 (unions.intersection (given_of c.args.text.now c.args.words.now c.args.given) (below c.args.given (given_of c.args.text.now c.args.words.now c.args.given)) c.args.on) c.args.m c.args.notes.now c.loop-a.invariant.2 c.in_ok-a.ensures.reads refl (is_not_here c.args.words.now c.in_ok-a.a.m c.kind_at.ensures.value c.if-kind_at-ne-PIPE.true) c.joined.ensures.joins (omega arith) refl shape_union

pub union-loop-a-preserved : goal.union-loop-a-preserved
union-loop-a-preserved t c =
    (omega (arith, c.requires, c.past-p.ensures.moved, same_kids c.none-k.ensures, c.in_ok-a.ensures.within, c.in_ok-a.ensures.onward refl, c.inter.auto, c.kind_at.ensures.upper_bound, c.link-k.ensures.under, c.link-k.auto, c.loop-a.invariant.0, c.loop-a.invariant.1), omega arith, parts_again c.args.text.now c.args.words.now c.args.given (below c.args.given (given_of c.args.text.now c.args.words.now c.args.given)) Pipe 5 (unions.intersection (given_of c.args.text.now c.args.words.now c.args.given) (below c.args.given (given_of c.args.text.now c.args.words.now c.args.given)) c.args.on) c.args.m c.args.notes.now c.loop-a.invariant.2 c.in_ok-a.ensures.reads refl (is_here c.args.words.now c.in_ok-a.a.m c.kind_at.ensures.value c.if-kind_at-ne-PIPE.false) refl c.link-k.ensures.links c.link-k.ensures.under.1 (omega arith) (omega (arith, c.requires, c.past-p.ensures.moved, same_kids c.none-k.ensures, c.in_ok-a.ensures.within, c.in_ok-a.ensures.onward refl, c.kind_at.ensures.upper_bound, c.link-k.ensures.under, c.loop-a.invariant.0, c.loop-a.invariant.1)) (omega (arith, c.requires, c.past-p.ensures.moved, same_kids c.none-k.ensures, c.in_ok-a.ensures.within, c.in_ok-a.ensures.onward refl, c.kind_at.ensures.upper_bound, c.link-k.ensures.under, c.loop-a.invariant.0, c.loop-a.invariant.1)))

pub postfix-suffix-requires : goal.postfix-suffix-requires
postfix-suffix-requires t c = (
  omega (arith, c.in_ok-a.ensures.onward refl),
  (ready c.requires (omega arith) (omega arith), suffixed_inside (given_of [] c.args.words.now c.args.given) (view c.loop-given.p []) (sym (c.suffixed.ensures [] [] c.args.given) ∙ c.loop-given-test.true), omega arith, omega arith, omega arith),
)

pub ret-pred-requires : goal.ret-pred-requires
ret-pred-requires t c =
    let inside = predicates_inside (given_of [] c.args.words.now c.args.given) (view c.args.m c.args.notes.now)
    (sym (c.predicates.ensures [] c.args.notes.now c.args.given) ∙ c.if-predicates.true) in
    (omega arith, (ready c.requires (omega arith) (omega arith), omega arith))

pub params-returns-in_err-p-clause-within_params : goal.params-returns-in_err-p-clause-within_params
params-returns-in_err-p-clause-within_params t c =
    let low = freed_low c.args.is_new c.args.m.used c.in_ok-a.a.m.used c.args.given.room (omega (arith, c.requires)) (omega (arith, c.in_ok-a.ensures.within_list)) in
    let few = freed_low c.args.is_new c.args.m.named c.in_ok-a.a.m.named c.in_ok-a.a.m.at (omega (arith, c.in_ok-h.ensures.moved, c.in_ok-a.ensures.within_list, c.in_ok-a.ensures.past refl, c.requires)) (omega (arith, c.in_ok-a.ensures.within_list)) in
    rw (handed_on c.from_residual-in_err-p.ensures.1)
    (omega (arith, low, few, c.requires, c.in_ok-h.ensures.moved, c.before_this.ensures.first_le_first, c.in_ok-a.ensures.within_list, c.in_ok-a.ensures.past refl, c.freed.ensures.at_value, c.in_err-p.ensures.moved))
