-- `Feed::line` is safe: what is kept of the line lies in the text. Assumes nothing.
use Rattle.std.proofs.Common.{◌≤◌, length}
use Rattle.intake.proofs.feed.Feed.line.Given as goal

abbrev pub invariant-loop : goal.invariant-loop
invariant-loop g l = l.size ≤ length l.text
