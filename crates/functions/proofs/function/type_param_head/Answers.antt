-- No modifier, then a name.
use mathlib.Core.Path.{sym, ◌∙◌}
use Rattle.functions.proofs.HeadLaws.{type_head_stops, type_head_says}
use Rattle.functions.proofs.function.type_param_head.Goals as goal

pub returns-then-varies-clause-starts_bound : goal.returns-then-varies-clause-starts_bound
returns-then-varies-clause-starts_bound c =
    λ text s. type_head_stops text c.args.words.now c.args.notes.now c.args.given c.args.m (sym (c.varies.ensures text c.args.notes.now c.args.given) ∙ c.if-varies.true)

pub returns-clause-starts_bound : goal.returns-clause-starts_bound
returns-clause-starts_bound c =
    λ text s. type_head_says text c.args.words.now c.args.notes.now c.args.given c.args.m (sym (c.varies.ensures text c.args.notes.now c.args.given) ∙ c.if-varies.false) (c.bound.ensures.starts_bound text s)
