-- The records from the next on, stored into what the slice holds by now, make what all of them make of the slice that was lent.
use Rattle.std.proofs.Common.{◌-◌, ◌≡◌}
use Rattle.noted.specs.Structs.{store_from}
use Rattle.noted.proofs.store_notes.Given as goal

abbrev pub invariant-loop-i : goal.invariant-loop-i
invariant-loop-i l = store_from l.words l.i l.at (l.count - l.i) l.notes ≡ store_from l.words 0 0 l.count l.initial.notes
