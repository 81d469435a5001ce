-- With asserts before it or without.
use mathlib.Core.Path.{refl, subst}
use Rattle.marks.specs.State.{given_of, view}
use Rattle.marks.specs.Laid.{Spoken}
use Rattle.marks.specs.Says.{opt_names}
use Rattle.marks.proofs.BuiltLaws.{spoken_from}
use Rattle.rules.specs.Function.{subject}
use Rattle.marks.specs.declared.state.Mark.{Mark}
use Rattle.primaries.proofs.primary.subject.Goals as goal

pub returns-then-asserts-clause-speaks_subject : goal.returns-then-asserts-clause-speaks_subject
returns-then-asserts-clause-speaks_subject c =
    λ text O given t.
    rw c.if-asserts.true
    (spoken_from c.args.m refl refl refl
    (subst (λ (x : Mark). Spoken (opt_names (subject (given_of text c.args.words.now given) (view x O))) x c.subject_at.result.m c.args.names.now c.subject_at.new.names) c.next.ensures (c.subject_at.ensures.speaks_subject text O given t)))

pub returns-else-asserts-clause-speaks_subject : goal.returns-else-asserts-clause-speaks_subject
returns-else-asserts-clause-speaks_subject c =
    λ text O given t. rw c.if-asserts.false (c.subject_at-else-asserts.ensures.speaks_subject text O given t)
