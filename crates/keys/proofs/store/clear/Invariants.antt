-- From a word on, those that were passed are zero now.
use Prim.Native.Nat.{◌-◌}
use mathlib.Core.Path.{◌≡◌}
use lib.ListN.{replicate}
use lib.Seq.{paste}
use Rattle.keys.proofs.store.clear.Given as goal

abbrev pub invariant-loop-i : goal.invariant-loop-i
invariant-loop-i g l = l.words ≡ paste l.initial.words l.from (replicate (l.i - l.from) l.zero) (l.i - l.from)
