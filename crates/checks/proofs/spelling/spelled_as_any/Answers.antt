-- Some bytes are a fixed spelling exactly when they are that of their guess.
use mathlib.Core.Path.{refl, sym, ap, ◌∙◌}
use Prim.Native.Nat.{ℕ}
use Rattle.words.specs.Test.{same}
use Rattle.words.specs.Spelling.{spelling, fixed_guesses}
use Rattle.checks.proofs.Fixed.{guess_tells}
use Rattle.checks.proofs.spelling.spelled_as_any.Goals as goal

pub returns : goal.returns
returns c =
    c.spelled.ensures ∙ ap (λ (k : ℕ). same (spelling k) c.args.bytes.now) c.guess.ensures.0 ∙ sym (guess_tells fixed_guesses refl c.args.bytes.now c.requires)
