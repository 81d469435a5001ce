-- A step that goes into no child, by its operation.
use native.Mathlib.Omega.{arith}
use Rattle.std.proofs.lemmas.Result.{err_from_is_err_and}
use Rattle.keys.proofs.BitsLaws.{length_bytes}
use Rattle.sound_keys.specs.Sound.{bits}
use Rattle.sound_keys.proofs.Checking.{plain_choice, plain_words, words_stop, plain_never}
use Rattle.sound_keys.proofs.source.Source.check_plain.Goals as goal

pub returns-in_err-check_spellings-in-2 : goal.returns-in_err-check_spellings-in-2
returns-in_err-check_spellings-in-2 c =
    let p = err_from_is_err_and c.from_residual.result c.from_residual.ensures.1 in rw (p.1, p.2) (words_stop (bits c.args.self.now) c.args.self.now.forms.now c.args.steps c.args.r c.args.s c.in-2.is c.in_err-check_spellings-in-2.ensures)

pub returns-in_ok-check_spellings-in-2 : goal.returns-in_ok-check_spellings-in-2
returns-in_ok-check_spellings-in-2 c =
    plain_words (bits c.args.self.now) c.args.self.now.forms.now c.args.steps c.args.r c.args.s c.in-2.is c.requires.1.b c.in_ok-check_spellings-in-2.ensures

pub returns-in_default : goal.returns-in_default
returns-in_default c =
    plain_never (bits c.args.self.now) c.args.self.now.forms.now c.args.steps c.args.r c.args.s (omega arith) (omega (arith, c.requires.0.in_key, length_bytes c.args.self.now.key.now)) c.bad_key.ensures

pub returns-in-5-to-max : goal.returns-in-5-to-max
returns-in-5-to-max c =
    plain_choice (bits c.args.self.now) c.args.self.now.forms.now c.args.steps c.args.r c.args.s (omega arith) c.check_choice.result c.check_choice.ensures
