-- A first step that is done 0 times is the form after it.
use Rattle.key_parts.proofs.NeverLaws.{past_words, past_nodes}
use Rattle.key_parts.proofs.never.is_never.Goals as goal
use Rattle.key_parts.proofs.never.is_never.Goals.{then-r-eq-SPELLINGS-via-then-r-eq-SPELLINGS, then-r-eq-SPELLINGS-via-else-r-eq-SPELLINGS+then-r-eq-NODES}

pub returns-then-r-eq-SPELLINGS : goal.returns-then-r-eq-SPELLINGS
returns-then-r-eq-SPELLINGS c =
    elim c.then-r-eq-SPELLINGS.branch [
      | then-r-eq-SPELLINGS-via-then-r-eq-SPELLINGS w ↦ past_words c.args.forms.now c.args.steps c.args.form c.row_at-r.result c.row_at-r.ensures c.if-steps-eq0.false c.args.n c.if-n-ne0.false w.if-r-eq-SPELLINGS.true c.is_none-then-r-eq-SPELLINGS.ensures
      | then-r-eq-SPELLINGS-via-else-r-eq-SPELLINGS+then-r-eq-NODES w ↦ past_nodes c.args.forms.now c.args.steps c.args.form c.row_at-r.result c.row_at-r.ensures c.if-steps-eq0.false c.args.n c.if-n-ne0.false w.if-r-eq-NODES.true c.is_none-then-r-eq-SPELLINGS.ensures
    ]
