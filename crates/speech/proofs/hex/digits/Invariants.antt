-- `hex::digits` is safe: the first digit of a byte is one, and the bytes made have their places. Assumes nothing.
use Rattle.std.proofs.Common.{◌<◌, ◌≤◌, length, IfSome}
use Rattle.speech.proofs.hex.digits.Given as goal

abbrev pub invariant-loop-b : goal.invariant-loop-b
invariant-loop-b l = IfSome l.high (λ d. d < 16) × (l.made ≤ length l.key)
