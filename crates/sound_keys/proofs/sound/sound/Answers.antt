-- A check by our own table.
use Rattle.sound_keys.proofs.Whole.{judged}
use Rattle.sound_keys.proofs.sound.sound.Goals as goal

pub returns : goal.returns
returns c =
    judged _ c.args.key.now c.check_whole.result c.check_whole.ensures
