-- The invariant: the words left give the verdict of the whole list. Assumes nothing.
use mathlib.Core.Path.{◌≡◌}
use lib.ListN.{drop}
use Rattle.words.specs.Check as spec
use Rattle.checks.proofs.check.words_from.Given as goal

abbrev pub invariant-loop-i : goal.invariant-loop-i
invariant-loop-i l = spec.words_from l.text 0 0 l.words ≡ spec.words_from l.text l.before l.i (drop l.i l.words)
