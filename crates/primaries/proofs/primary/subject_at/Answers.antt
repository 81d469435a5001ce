-- This, which is no name; or a name.
use mathlib.Core.Path.{ap}
use Rattle.marks.proofs.BuiltLaws.{spoken_none}
use Rattle.primaries.proofs.PrimaryLaws.{eq_at}
use Rattle.marks.specs.declared.state.Mark.{Mark}
use Rattle.primaries.proofs.primary.subject_at.Goals as goal

pub returns-then-kind_at-eq-THIS-clause-speaks_subject : goal.returns-then-kind_at-eq-THIS-clause-speaks_subject
returns-then-kind_at-eq-THIS-clause-speaks_subject c =
    λ text O given t. rw (eq_at 102 c.kind_at.ensures.value c.if-kind_at-eq-THIS.true) (spoken_none c.args.m c.next.result c.args.names.now (ap (λ (x : Mark). x.used) c.next.ensures) (ap (λ (x : Mark). x.named) c.next.ensures) (ap (λ (x : Mark). x.noted) c.next.ensures))
