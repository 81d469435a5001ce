-- The tests in their order, and then the spelling.
use mathlib.Core.Path.{◌≡◌, refl, ap, sym, ◌∙◌}
use Prim.Native.Nat.{ℕ, ◌+◌, ◌-◌}
use native.Mathlib.Omega.{arith}
use borrow.Author.Tests.{eq-eqb}
use Rattle.words.specs.Spelling.{spelled_right}
use Rattle.words.specs.Check.{part}
use Rattle.checks.proofs.Walk.{word_is}
use Rattle.checks.proofs.check.good_word.Goals as goal

pub returns-else-kind-eq-EOF : goal.returns-else-kind-eq-EOF
returns-else-kind-eq-EOF c =
    let size : c.start-from.result + c.length-n.result - c.start-from.result ≡ c.length-n.result = omega arith in
    c.spelled_right.ensures ∙ ap (λ (n : ℕ). spelled_right c.kind-kind.result (part c.args.text.now c.start-from.result n)) size
    ∙ word_is c.args.text.now _ _ _ c.kind-kind.ensures c.zeros.ensures c.length-n.ensures c.start-from.ensures
    (sym c.in_class.ensures ∙ c.if-in_class.true) (eq-eqb _ _ c.if-zeros-eq0.true) (sym c.placed.ensures ∙ c.if-placed.true) (sym c.ends_well.ensures ∙ c.if-ends_well.true) refl
