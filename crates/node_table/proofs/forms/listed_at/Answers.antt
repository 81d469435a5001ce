use Rattle.node_table.proofs.FormsLaws.{lists_in, lists_out}
use Rattle.node_table.proofs.forms.listed_at.Goals as goal

pub returns-then-t-r : goal.returns-then-t-r
returns-then-t-r c =
    lists_in c.args.forms.now c.args.r c.args.t c.word_at-form.result c.if-t-r.true c.word_at-form.ensures.0 c.word_at-form.ensures.1

pub returns-else-t-r : goal.returns-else-t-r
returns-else-t-r c =
    lists_out c.args.forms.now c.args.r c.args.t c.word_at-form-else-t-r.result c.if-t-r.false c.word_at-form-else-t-r.ensures.0 c.word_at-form-else-t-r.ensures.1
