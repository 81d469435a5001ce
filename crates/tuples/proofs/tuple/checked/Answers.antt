-- Optional, the first, a rest, or none of these: then the diagnostic, where the record says.
use mathlib.Core.Path.{refl, sym, ◌∙◌}
use Rattle.std.specs.Prelude.{Some, None}
use Rattle.marks.proofs.ToldLaws.{handed_on, refusal_some}
use Rattle.tuples.specs.Told.{told_latest}
use Rattle.tuples.proofs.MemberLaws.{checks_optional, checks_first, checks_rest, checks_other}
use Rattle.tuples.proofs.tuple.checked.Goals as goal

pub returns-then-is_optional-clause-checks : goal.returns-then-is_optional-clause-checks
returns-then-is_optional-clause-checks c =
    checks_optional c.args.given (told_latest c.args.latest) c.args.m c.args.nodes.now c.args.notes.now c.requires.2 c.requires.1 c.place_at-place.result (sym c.is_optional.ensures ∙ c.if-is_optional.true) c.place_at-place.ensures.0 c.place_at-place.ensures.1

pub returns-in_default-clause-checks : goal.returns-in_default-clause-checks
returns-in_default-clause-checks c =
    rw c.in_default.is (checks_first c.args.given (told_latest None) c.args.m c.args.nodes.now c.args.notes.now c.requires.2 c.requires.1 (sym c.is_optional.ensures ∙ c.if-is_optional.false) refl)

pub returns-then-last_tag-clause-checks : goal.returns-then-last_tag-clause-checks
returns-then-last_tag-clause-checks c =
    rw c.in-Some.is (checks_rest c.args.given (told_latest (Some c.in-Some.other)) c.args.m c.args.nodes.now c.args.notes.now c.requires.2 c.requires.1 (sym c.is_optional.ensures ∙ c.if-is_optional.false) (sym c.last_tag.ensures ∙ c.if-last_tag.true))

pub returns-in_err-m-clause-checks : goal.returns-in_err-m-clause-checks
returns-in_err-m-clause-checks c =
    rw (handed_on c.from_residual.ensures.1, c.in-Some.is)
    ((checks_other c.args.given (told_latest (Some c.in-Some.other)) c.args.m c.args.nodes.now c.args.notes.now c.requires.2 c.requires.1 c.place_at-place.result _ _ (sym c.is_optional.ensures ∙ c.if-is_optional.false) refl (λ z. c.if-last_tag.false (c.last_tag.ensures ∙ z)) c.place_at-place.ensures.0 c.place_at-place.ensures.1 c.in_err-m.ensures.reports).1 (refusal_some c.in_err-m.field-0.0.why) (told_latest None))

pub returns-clause-checks : goal.returns-clause-checks
returns-clause-checks c =
    rw c.in-Some.is ((checks_other c.args.given (told_latest (Some c.in-Some.other)) c.args.m c.args.nodes.now c.args.notes.now c.requires.2 c.requires.1 c.place_at-place.result _ _ (sym c.is_optional.ensures ∙ c.if-is_optional.false) refl (λ z. c.if-last_tag.false (c.last_tag.ensures ∙ z)) c.place_at-place.ensures.0 c.place_at-place.ensures.1 c.in_ok-m.ensures.reports).0 refl)
