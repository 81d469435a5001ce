-- Whether the table has no form there.
use Rattle.key_parts.proofs.NeverLaws.{some_steps}
use Rattle.key_parts.proofs.never.is_none.Goals as goal

pub returns-else-steps-eq0 : goal.returns-else-steps-eq0
returns-else-steps-eq0 c =
    λ n h. some_steps c.args.forms.now c.args.steps c.args.form c.row_at.result c.row_at.ensures c.if-steps-eq0.false n h
