use mathlib.Core.Path.{ap, sym, ◌∙◌}
use Prim.Native.Nat.{ℕ, ◌+◌}
use lib.ListN.{drop}
use Rattle.words.specs.Check as spec
use Rattle.checks.proofs.Walk.{word_good}
use Rattle.checks.proofs.check.words_from.Goals as goal

pub loop-i-preserved : goal.loop-i-preserved
loop-i-preserved c =
    c.loop-i.invariant ∙ word_good c.args.text.now c.loop-i.before c.args.words.now c.loop-i.i c.loop-i-test.true (sym c.good_word.ensures ∙ c.if-not-good_word.false)
    ∙ ap (λ (b : ℕ). spec.words_from c.args.text.now b (c.loop-i.i + 1) (drop (c.loop-i.i + 1) c.args.words.now)) (sym c.end-before.ensures)
