-- Bytes compared one after the other.
use Rattle.walks.specs.Walk.{left_bits, right_bits}
use Rattle.walks.proofs.Walking.{Comparing}
use Rattle.walks.proofs.sides.Sides.same_bytes.Given as goal

abbrev pub invariant-loop-i : goal.invariant-loop-i
invariant-loop-i l = Comparing (left_bits l.self) (right_bits l.self) l.at.left l.at.right l.count l.i
