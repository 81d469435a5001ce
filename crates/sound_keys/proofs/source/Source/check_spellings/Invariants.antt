-- n spellings, one after the other.
use Rattle.sound_keys.specs.Sound.{bits}
use Rattle.sound_keys.proofs.Checking.{Spelling}
use Rattle.sound_keys.proofs.source.Source.check_spellings.Given as goal

abbrev pub invariant-loop : goal.invariant-loop
invariant-loop l = Spelling (bits l.self) l.w l.n l.bit l.counter l.at
