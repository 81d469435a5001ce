-- `Cutter::skip` ends: each blank or comment that is passed has a byte. Assumes nothing.
use Rattle.std.proofs.Common.{length, ◌-◌}
use Rattle.intake.proofs.cut.Cutter.skip.Given as goal

abbrev pub decreases-loop-self : goal.decreases-loop-self
decreases-loop-self l = length l.self.text.now - l.self.at
