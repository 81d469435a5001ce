-- Each guess is a kind.
use mathlib.Core.Path.{ap}
use mathlib.Core.List.{List}
use Prim.Native.Nat.{ℕ}
use native.Mathlib.Omega.{arith}
use lib.ListN.{get_or}
use Rattle.words.specs.Spelling.{guess_place_of}
use Rattle.checks.proofs.Fixed.{guess_low}
use Rattle.checks.proofs.spelling.guess.Goals as goal

pub returns : goal.returns
returns c = (
  ap (λ (l : List ℕ). get_or l (guess_place_of c.args.bytes.now) 0) c.spelling_guesses.ensures,
  guess_low _ c.spelling_guesses.ensures (guess_place_of c.args.bytes.now) (omega arith),
)
