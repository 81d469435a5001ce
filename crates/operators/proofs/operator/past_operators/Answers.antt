use mathlib.Core.Path.{◌≡◌, sym, ap, ◌∙◌}
use mathlib.Core.Bool.{true}
use Prim.Native.Nat.{suc, ◌-◌, ◌<◌}
use native.Mathlib.Omega.{arith}
use lib.ListN.{length}
use Rattle.words.specs.Test.{among}
use Rattle.words.specs.Cursor.{kind_at}
use Rattle.rules.specs.Operator as rule
use Rattle.marks.specs.State.{view, given_of}
use Rattle.operators.specs.Operator.{operators_about}
use Rattle.marks.proofs.MarkLaws.{moved_same}
use Rattle.marks.proofs.StepLaws.{moved_taken, moved_then, inside_moved}
use Rattle.operators.proofs.OperatorLaws.{operator_some, operators_begin, operators_past, operator_end}
use Rattle.marks.specs.declared.state.Mark.{Mark}
use Rattle.operators.proofs.operator.past_operators.Goals as goal

pub loop-p-init : goal.loop-p-init
loop-p-init c =
    (moved_same c.requires.1, λ text O given T on. operators_begin (given_of text c.args.words.now given) T on (view c.args.m O))

pub loop-p-preserved : goal.loop-p-preserved
loop-p-preserved c =
    let stands : among rule.operators c.kind_at.result ≡ true = sym c.operates.ensures ∙ c.loop-p-test.true in
    let inside : c.loop-p.p.at < length c.args.words.now = omega (arith, operator_some c.kind_at.result stands, c.kind_at.ensures.upper_bound) in
    let here : among rule.operators (kind_at c.args.words.now c.loop-p.p.at c.loop-p.p.half) ≡ true = ap (among rule.operators) (sym c.kind_at.ensures.value) ∙ stands in (
      moved_then c.loop-p.invariant.0 (moved_taken c.next-p.ensures (inside_moved c.loop-p.invariant.0) inside),
      λ text O given T on.
          c.loop-p.invariant.1 text O given T on ∙ operators_past (given_of text c.args.words.now given) T on c.args.m.at (view c.loop-p.p O) c.loop-p.invariant.0.ahead inside here
          ∙ ap (λ (q : Mark). operators_about (given_of text c.args.words.now given) c.args.m.at (q.at - c.args.m.at) (rule.operator_from (given_of text c.args.words.now given) T on (suc (length c.args.words.now - (q.at - c.args.m.at))) (view q O))) (sym c.next-p.ensures),
    )

pub returns-clause-passes_operators : goal.returns-clause-passes_operators
returns-clause-passes_operators c =
    let here = ap (among rule.operators) (sym c.kind_at.ensures.value) ∙ sym c.operates.ensures ∙ c.loop-p-test.false in
    λ text O given T on.
    c.loop-p.invariant.1 text O given T on
    ∙ ap (operators_about (given_of text c.args.words.now given) c.args.m.at (c.loop-p.p.at - c.args.m.at)) (operator_end (given_of text c.args.words.now given) T on (length c.args.words.now - (c.loop-p.p.at - c.args.m.at)) (view c.loop-p.p O) here)
