use Rattle.fields.proofs.Windows.{Across}
use Rattle.fields.proofs.put.put_across.Given as goal

abbrev pub invariant-loop-i : goal.invariant-loop-i
invariant-loop-i l =
    Across l.bytes l.at l.skip l.initial.key l.i l.last l.key
