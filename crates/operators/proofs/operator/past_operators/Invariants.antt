-- The prefixes that were passed stand about what is still to be read.
use mathlib.Core.Path.{◌≡◌}
use mathlib.Core.Bool.{Bool}
use mathlib.Core.List.{List}
use Prim.Native.Nat.{ℕ, suc, ◌-◌}
use lib.ListN.{length}
use Rattle.rules.specs.State.{Reader}
use Rattle.rules.specs.Operator as rule
use Rattle.marks.specs.State.{AnyGiven, view, given_of, Moved}
use Rattle.operators.specs.Operator.{operators_about}
use Rattle.operators.proofs.operator.past_operators.Given as goal

abbrev pub invariant-loop-p : goal.invariant-loop-p
invariant-loop-p l =
    Moved (length l.words) l.initial.p l.p
    × ((text O : List ℕ) (given : AnyGiven) (T : Reader) (on : Bool)
    → rule.operator (given_of text l.words given) T on (view l.initial.p O)
    ≡ operators_about (given_of text l.words given) l.initial.p.at (l.p.at - l.initial.p.at) (rule.operator_from (given_of text l.words given) T on (suc (length l.words - (l.p.at - l.initial.p.at))) (view l.p O)))

abbrev pub decreases-loop-p : goal.decreases-loop-p
decreases-loop-p l = length l.words - l.p.at
