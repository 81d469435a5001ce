-- No record for the diagnostic; the rest.
use mathlib.Core.Path.{refl}
use borrow.Author.Tests.{not-false}
use Rattle.marks.proofs.ToldLaws.{handed_on, refusal_some}
use Rattle.tuples.proofs.MemberLaws.{rest_full, rest_about}
use Rattle.tuples.proofs.tuple.rest_of.Goals as goal

pub returns-in_err-q-clause-makes_rest : goal.returns-in_err-q-clause-makes_rest
returns-in_err-q-clause-makes_rest c =
    rw (handed_on c.from_residual.ensures.1)
    (rest_full c.args.words.now c.args.given c.args.l c.args.high c.args.m c.args.nodes.now c.args.notes.now _ _ _ (not-false _ c.if-not-l.false) c.end_byte.result c.end_byte.ensures.value c.in_err-q.ensures.reports (refusal_some c.in_err-q.field-0.0.why))

pub returns-clause-makes_rest : goal.returns-clause-makes_rest
returns-clause-makes_rest c =
    rest_about c.args.words.now c.args.given c.args.l c.args.high c.args.m c.args.nodes.now c.args.notes.now _ _ _ (not-false _ c.if-not-l.false) c.end_byte.result c.end_byte.ensures.value c.in_ok-q.ensures.reports _ refl c.put_about.ensures.makes_about
