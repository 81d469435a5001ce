use mathlib.Core.Path.{refl, ap, ◌∙◌}
use Prim.Native.Nat.{ℕ, ◌+◌, ◌-◌, ◌*◌}
use native.Mathlib.Omega.{arith}
use Rattle.words.specs.Word as word
use Rattle.rules.specs.List.{position}
use Rattle.rules.specs.Operator.{operators}
use Rattle.operators.proofs.OperatorLaws.{operator_made, left_none, left_refused, left_put}
use Rattle.std.specs.Prelude.{Ok, Err}
use Rattle.marks.specs.Told.{told}
use Rattle.marks.proofs.ToldLaws.{handed_on, refusal_some}
use Rattle.operators.proofs.operator.put_operators.Goals as goal

pub returns-in_err-r-clause-makes_operators : goal.returns-in_err-r-clause-makes_operators
returns-in_err-r-clause-makes_operators c =
    rw (handed_on c.from_residual.ensures.1)
    (λ text B t M O w n.
    let v = c.loop-i.invariant.10 text B t M O w n in
    left_refused c.loop-i.i v c.loop-i-test.true (operator_made c.args.words.now c.args.given (record { first = c.start.result; name = c.args.name }) (11 + 64 * c.operator_number.result) c.loop-i.r.high c.operator_number.result (c.loop-i.i - 1) c.loop-i.r.m c.loop-i.nodes (told (Err c.in_err-r.field-0.0)) _ c.in_err-r.ensures.makes_about (c.start.ensures ∙ ap word.start c.word_at.ensures) refl (c.operator_number.ensures.0 ∙ ap (λ (k : ℕ). position k operators) c.whole_kind.ensures.value) text B v.tree M O v.stands n) (refusal_some c.in_err-r.field-0.0.why))

pub loop-i-preserved : goal.loop-i-preserved
loop-i-preserved c = (
  c.put_about.auto.nodes ∙ c.loop-i.invariant.0,
  omega arith,
  omega arith,
  c.in_ok-r.ensures.put.at_is ∙ c.loop-i.invariant.3,
  c.in_ok-r.ensures.put.half_is ∙ c.loop-i.invariant.4,
  c.in_ok-r.ensures.put.named_is ∙ c.loop-i.invariant.5,
  c.in_ok-r.ensures.put.noted_is ∙ c.loop-i.invariant.6,
  omega (arith, c.in_ok-r.ensures.put.more),
  c.in_ok-r.ensures.put.roomy,
  c.in_ok-r.ensures.put.low,
  λ text B t M O w n.
      let v = c.loop-i.invariant.10 text B t M O w n in
      left_put c.loop-i.i v c.loop-i-test.true (operator_made c.args.words.now c.args.given (record { first = c.start.result; name = c.args.name }) (11 + 64 * c.operator_number.result) c.loop-i.r.high c.operator_number.result (c.loop-i.i - 1) c.loop-i.r.m c.loop-i.nodes (told (Ok c.in_ok-r.r)) _ c.in_ok-r.ensures.makes_about (c.start.ensures ∙ ap word.start c.word_at.ensures) refl (c.operator_number.ensures.0 ∙ ap (λ (k : ℕ). position k operators) c.whole_kind.ensures.value) text B v.tree M O v.stands n) refl,
)

pub returns-clause-makes_operators : goal.returns-clause-makes_operators
returns-clause-makes_operators c =
    λ text B t M O w n. left_none c.loop-i.i (c.loop-i.invariant.10 text B t M O w n) (omega arith)
