-- `record::word_of` gives the number that is written in the bytes.
use Rattle.std.proofs.Common.{rules}
use Rattle.std.proofs.lemmas.Nat.{le_bytes_8}
use Rattle.lines.proofs.record.word_of.Goals as goal

pub returns : goal.returns
returns c = le_bytes_8 c.args.eight _ (search rules) (search rules) c.from_le_bytes.ensures
