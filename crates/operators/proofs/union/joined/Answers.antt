-- Alone, or linked and put.
use mathlib.Core.Path.{refl, sym, ◌∙◌}
use Rattle.operators.specs.Union as union
use Rattle.operators.proofs.union.joined.Goals as goal

pub returns-then-alone-clause-joins : goal.returns-then-alone-clause-joins
returns-then-alone-clause-joins c =
    union.alone (sym c.alone.ensures ∙ c.if-alone.true) refl refl

pub returns-clause-joins : goal.returns-clause-joins
returns-clause-joins c =
    union.joins (sym c.alone.ensures ∙ c.if-alone.false) c.at.result c.at.ensures.first_value.0 c.at.ensures.first_value.1 c.link-l.result _ (rw c.as_read-r.ensures at c.link-l.ensures.links) c.link-l.ensures.under.1
    (rw c.as_read-r.ensures at c.put_list.ensures.makes_list)
