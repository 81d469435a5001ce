-- Each turn reads a dot and a name; as many turns are left as tokens.
use mathlib.Core.Path.{◌≡◌}
use mathlib.Core.List.{List}
use Prim.Native.Nat.{ℕ, ◌-◌}
use lib.ListN.{length}
use Rattle.rules.specs.Names as rule
use Rattle.rules.specs.State.{turns}
use Rattle.keys.specs.Placed.{Spelling}
use Rattle.marks.specs.State.{AnyGiven, view, given_of, Spelt, Along}
use Rattle.marks.proofs.NameLaws.{Dotting}
use Rattle.marks.proofs.names.dots.Given as goal

abbrev pub invariant-loop-names : goal.invariant-loop-names
invariant-loop-names l =
    (length l.names ≡ length l.initial.names) × Along (length l.words) l.initial.p l.p
    × ((text O : List ℕ) (given : AnyGiven) (read : List Spelling) → Spelt text l.words
    → Dotting (given_of text l.words given) read (rule.dots_from (given_of text l.words given) (turns (given_of text l.words given)) read (view l.initial.p O)) l.initial.p l.p l.initial.names l.names O)

abbrev pub decreases-loop-names : goal.decreases-loop-names
decreases-loop-names l = length l.words - l.p.at
