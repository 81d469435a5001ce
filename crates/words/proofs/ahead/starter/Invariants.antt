-- The invariant: the test answers the same at j as at i. Assumes nothing.
use mathlib.Core.Path.{◌≡◌}
use Rattle.words.specs.Ahead as spec
use Rattle.words.proofs.ahead.starter.Given as goal

abbrev pub invariant-loop-j : goal.invariant-loop-j
invariant-loop-j l = spec.starter l.words l.i ≡ spec.starter l.words l.j
