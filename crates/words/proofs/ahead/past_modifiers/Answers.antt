-- A word that modifies leads one further; the first that doesn't is where they end.
use mathlib.Core.Path.{sym, ◌∙◌}
use native.Mathlib.Omega.{arith}
use Rattle.words.proofs.Looks.{past_more, past_end}
use Rattle.words.proofs.ahead.past_modifiers.Goals as goal

pub returns-then-not-modifies : goal.returns-then-not-modifies
returns-then-not-modifies c =
    (sym (c.loop-j.invariant ∙ past_end c.args.words.now c.loop-j.j (sym c.modifies.ensures ∙ c.if-not-modifies.true)), omega arith)

pub loop-j-preserved : goal.loop-j-preserved
loop-j-preserved c =
    c.loop-j.invariant ∙ past_more c.args.words.now c.loop-j.j (sym c.modifies.ensures ∙ c.if-not-modifies.false)
