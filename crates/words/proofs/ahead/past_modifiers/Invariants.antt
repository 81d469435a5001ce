-- The invariant: the words left lead to the same index. Assumes nothing.
use mathlib.Core.Path.{◌≡◌}
use lib.ListN.{drop}
use Rattle.words.specs.Ahead as spec
use Rattle.words.proofs.ahead.past_modifiers.Given as goal

abbrev pub invariant-loop-j : goal.invariant-loop-j
invariant-loop-j l = spec.past_modifiers l.at (drop l.at l.words) ≡ spec.past_modifiers l.j (drop l.j l.words)
