-- Each refusal on the way, and then what becomes of the member.
use mathlib.Core.Path.{refl, sym, ap₂, ◌∙◌}
use Rattle.std.specs.Prelude.{Ok}
use Rattle.words.specs.Cursor.{end_byte}
use Rattle.marks.specs.Told.{told}
use Rattle.marks.proofs.ToldLaws.{handed_on, refusal_some}
use Rattle.tuples.proofs.MemberLaws.{member_refused, member_dots, member_asked, member_rest}
use Rattle.tuples.proofs.tuple.member.Goals as goal

pub returns-in_err-c-clause-makes_member : goal.returns-in_err-c-clause-makes_member
returns-in_err-c-clause-makes_member c =
    rw (handed_on c.from_residual.ensures.1)
    (member_refused c.args.words.now c.args.given c.args.l (told (Ok c.args.a)) c.args.nodes.now c.args.notes.now c.convert_type_to_tuple_element-converted.result _ _ _ c.convert_type_to_tuple_element-converted.ensures c.in_err-c.ensures.makes_about (refusal_some c.in_err-c.field-0.0.why) c.args.notes.now)

pub returns-in_err-n-clause-makes_member : goal.returns-in_err-n-clause-makes_member
returns-in_err-n-clause-makes_member c =
    rw (handed_on c.from_residual-in_err-n.ensures.1)
    (member_dots c.args.words.now c.args.given c.args.l (told (Ok c.args.a)) c.args.nodes.now c.args.notes.now c.convert_type_to_tuple_element-converted.result _ (told (Ok c.in_ok-c.c)) _ c.convert_type_to_tuple_element-converted.ensures c.in_ok-c.ensures.makes_about
    c.end_byte-end.result _ _ refl (ap₂ (end_byte c.args.words.now) c.in_ok-c.ensures.put.at_is c.in_ok-c.ensures.put.half_is ∙ sym c.end_byte-end.ensures.value) c.in_err-n.ensures.reports (refusal_some c.in_err-n.field-0.0.why))

pub returns-in_err-n-2-clause-makes_member : goal.returns-in_err-n-2-clause-makes_member
returns-in_err-n-2-clause-makes_member c =
    rw (handed_on c.from_residual-in_err-n-2.ensures.1)
    (member_asked c.args.words.now c.args.given c.args.l (told (Ok c.args.a)) c.args.nodes.now c.args.notes.now c.convert_type_to_tuple_element-converted.result _ (told (Ok c.in_ok-c.c)) _ c.convert_type_to_tuple_element-converted.ensures c.in_ok-c.ensures.makes_about
    c.end_byte-end.result _ _ refl (ap₂ (end_byte c.args.words.now) c.in_ok-c.ensures.put.at_is c.in_ok-c.ensures.put.half_is ∙ sym c.end_byte-end.ensures.value) c.in_ok-n.ensures.reports
    _ _ refl (ap₂ (end_byte c.args.words.now) c.in_ok-n.ensures.noted.at_is c.in_ok-n.ensures.noted.half_is ∙ ap₂ (end_byte c.args.words.now) c.in_ok-c.ensures.put.at_is c.in_ok-c.ensures.put.half_is ∙ sym c.end_byte-end.ensures.value) c.in_err-n-2.ensures.reports (refusal_some c.in_err-n-2.field-0.0.why))

pub returns-clause-makes_member : goal.returns-clause-makes_member
returns-clause-makes_member c =
    member_rest c.args.words.now c.args.given c.args.l (told (Ok c.args.a)) c.args.nodes.now c.args.notes.now c.convert_type_to_tuple_element-converted.result _ (told (Ok c.in_ok-c.c)) _ c.convert_type_to_tuple_element-converted.ensures c.in_ok-c.ensures.makes_about
    c.end_byte-end.result _ _ refl (ap₂ (end_byte c.args.words.now) c.in_ok-c.ensures.put.at_is c.in_ok-c.ensures.put.half_is ∙ sym c.end_byte-end.ensures.value) c.in_ok-n.ensures.reports
    _ _ refl (ap₂ (end_byte c.args.words.now) c.in_ok-n.ensures.noted.at_is c.in_ok-n.ensures.noted.half_is ∙ ap₂ (end_byte c.args.words.now) c.in_ok-c.ensures.put.at_is c.in_ok-c.ensures.put.half_is ∙ sym c.end_byte-end.ensures.value) c.in_ok-n-2.ensures.reports _ _ _ refl c.rest_of.ensures.makes_rest
