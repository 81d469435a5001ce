-- `record::load_words` reads part after part: what was read is the bytes of the words so far.
use Rattle.std.proofs.Common.{◌≡◌, ◌≤◌, ◌-◌, length, take}
use Rattle.std.specs.Prelude.{flat_map}
use Rattle.std.specs.Int.{to_le_bytes, w64}
use Rattle.std.specs.Io.KnownBytes.{Consumes}
use Rattle.lines.proofs.record.load_words.Given as goal

abbrev pub invariant-loop-done : goal.invariant-loop-done
invariant-loop-done g l = record {
  same : length l.words ≡ length l.initial.words;
  within : l.done ≤ length l.words;
  read : Consumes (g.R.Read.remaining l.initial.from) (g.R.Read.remaining l.from) (flat_map (to_le_bytes w64) (take l.done l.words));
}

abbrev pub decreases-loop-done : goal.decreases-loop-done
decreases-loop-done g l = length l.initial.words - l.done
