-- One diagnostic where there is no entry.
use mathlib.Core.Path.{refl}
use Rattle.marks.proofs.ListLaws.{ends_refused, ends_done}
use Rattle.marks.proofs.ToldLaws.{handed_on, refusal_some}
use Rattle.marks.proofs.list.list_end.Goals as goal

pub returns-in_err-m-clause-ends : goal.returns-in_err-m-clause-ends
returns-in_err-m-clause-ends c =
    rw (handed_on c.from_residual.ensures.1)
    (ends_refused c.args.words.now c.args.given c.args.number c.args.first c.args.k c.args.m c.args.notes.now c.next-p.ensures c.end_byte.ensures.value c.in_err-m.ensures.reports (refusal_some c.in_err-m.field-0.0.why) refl)

pub returns-clause-ends : goal.returns-clause-ends
returns-clause-ends c =
    ends_done c.args.words.now c.args.given c.args.number c.args.first c.args.k c.args.m c.args.notes.now c.next-p.ensures c.end_byte.ensures.value c.in_ok-m.ensures.reports c.in_ok-m.ensures.noted refl
