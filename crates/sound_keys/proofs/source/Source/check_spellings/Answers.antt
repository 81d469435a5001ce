use native.Mathlib.Omega.{arith}
use Rattle.std.proofs.lemmas.Result.{err_from_is_err_and}
use Rattle.keys.proofs.BitsLaws.{length_bytes}
use Rattle.sound_keys.specs.Sound.{bits}
use Rattle.sound_keys.proofs.Checking.{spelling_none, spelling_more, spelling_stop, spelling_all}
use Rattle.sound_keys.proofs.source.Source.check_spellings.Goals as goal

pub loop-init : goal.loop-init
loop-init c =
    spelling_none (bits c.args.self.now) c.args.w c.args.n c.args.bit (omega (arith, c.requires.0, length_bytes c.args.self.now.key.now))

pub check_spelling-requires : goal.check_spelling-requires
check_spelling-requires c =
    (omega (arith, c.loop.invariant.in_key, length_bytes c.args.self.now.key.now), c.requires.1)

pub returns-in_err-at : goal.returns-in_err-at
returns-in_err-at c =
    let p = err_from_is_err_and c.from_residual.result c.from_residual.ensures.1 in rw (p.1, p.2) (spelling_stop c.loop.invariant c.loop-test.true c.in_err-at.ensures)

pub loop-preserved : goal.loop-preserved
loop-preserved c =
    spelling_more c.loop.invariant c.loop-test.true c.in_ok-at.ensures

pub returns : goal.returns
returns c =
    spelling_all c.loop.invariant c.loop-test.false
