-- No name; or a name, and its diagnostic.
use mathlib.Core.Path.{refl, ap, ◌∙◌}
use Rattle.rules.specs.Names.{reserved as isReserved}
use Rattle.marks.proofs.BoundLaws.{bound_unnamed, bound_named}
use Rattle.marks.proofs.ReportLaws.{reports_as}
use Rattle.marks.proofs.ToldLaws.{handed_on, refusal_some}
use Rattle.marks.proofs.names.bound.Goals as goal

pub returns-in_err-q-clause-starts_bound : goal.returns-in_err-q-clause-starts_bound
returns-in_err-q-clause-starts_bound c =
    rw (handed_on c.from_residual.ensures.1)
    (λ text w. bound_unnamed text c.args.words.now c.args.given c.args.m c.args.names.now c.args.notes.now (c.in_err-q.ensures.starts_names text c.args.notes.now c.args.given w) (refusal_some c.in_err-q.field-0.0.why))

pub returns-clause-starts_bound : goal.returns-clause-starts_bound
returns-clause-starts_bound c =
    λ text w.
    bound_named text c.args.words.now c.args.given c.args.m c.args.names.now c.args.notes.now ((c.in_ok-q.ensures.starts_names text c.args.notes.now c.args.given w).done refl)
    (reports_as (c.reserved.ensures ∙ ap isReserved c.kind_at.ensures.value) c.first_byte.ensures.value c.end_byte.ensures.value c.report_if.ensures.reports) c.report_if.ensures.noted
