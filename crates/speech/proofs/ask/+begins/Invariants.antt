-- `ask::begins` ends: each step takes a name off the list. Assumes nothing.
use Rattle.std.proofs.Common.{length}
use Rattle.speech.proofs.ask.+begins.Given as goal

abbrev pub decreases-begins : goal.decreases-begins
decreases-begins l = length l.list.now
