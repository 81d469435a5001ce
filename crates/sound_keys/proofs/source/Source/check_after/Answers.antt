-- The spelling after a child, if there is one.
use native.Mathlib.Omega.{arith}
use Rattle.keys.proofs.BitsLaws.{length_bytes}
use Rattle.sound_keys.specs.Sound.{bits}
use Rattle.sound_keys.proofs.Checking.{after_none}
use Rattle.sound_keys.proofs.source.Source.check_after.Goals as goal

pub returns-then-w-eq0 : goal.returns-then-w-eq0
returns-then-w-eq0 c =
    after_none (bits c.args.self.now) c.args.w c.args.bit (omega (arith, c.requires.0, length_bytes c.args.self.now.key.now)) c.if-w-eq0.true
