-- What the answer of the check says in 01's numbers: the refusal and its place.
use Rattle.std.specs.Prelude.{Result, Ok, Err}
use Rattle.words.specs.Check.{Verdict, sound, refused}
use Rattle.checks.specs.declared.check.Fault.{Fault}
use Rattle.checks.specs.declared.check.Fault.TheVariants.{List, Token}

abbrev pub verdict : Result (Unit {0}) Fault → Verdict
verdict (Ok _) = sound
verdict (Err List) = refused 1 0
verdict (Err (Token i)) = refused 2 i
