-- `record::put_words`: the bytes of the words so far are as many eights.
use Rattle.std.proofs.Common.{◌≡◌, take}
use Rattle.std.specs.Prelude.{flat_map}
use Rattle.std.specs.Int.{to_le_bytes, w64}
use Rattle.lines.proofs.record.put_words.Given as goal

abbrev pub invariant-loop-i : goal.invariant-loop-i
invariant-loop-i l = flat_map (to_le_bytes w64) (take l.i l.words) ≡ flat_map (λ x. x) (take l.i l.eights)
