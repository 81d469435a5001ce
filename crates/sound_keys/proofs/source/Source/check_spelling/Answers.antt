-- A spelling: cut short, without a byte, or passed.
use Rattle.sound_keys.proofs.Checking.{spell_short, spell_within, spell_zero, spell_cut, spell_done}
use Rattle.sound_keys.proofs.source.Source.check_spelling.Goals.{then-count-eq0-via-then-count-eq0, then-count-eq0-via-else-count-eq0+then-self-from}
use Rattle.sound_keys.proofs.source.Source.check_spelling.Goals as goal

pub returns-in_default : goal.returns-in_default
returns-in_default c =
    spell_short c.args.self.now.key.now c.args.w c.args.bit c.requires.0 c.in_default.ensures c.bad_key.ensures

pub overflow_sub-self : goal.overflow_sub-self
overflow_sub-self c =
    spell_within c.args.self.now.key.now c.args.w c.args.bit c.requires.0 c.in-Some.ensures

pub returns-then-count-eq0 : goal.returns-then-count-eq0
returns-then-count-eq0 c =
    elim c.then-count-eq0.branch [
      | then-count-eq0-via-then-count-eq0 w ↦ spell_zero c.args.self.now.key.now c.args.w c.args.bit c.requires.0 c.in-Some.ensures w.if-count-eq0.true c.bad_key-then-count-eq0.ensures
      | then-count-eq0-via-else-count-eq0+then-self-from w ↦ spell_cut c.args.self.now.key.now c.args.w c.args.bit c.requires.0 c.in-Some.ensures w.if-count-eq0.false w.if-self-from.true c.bad_key-then-count-eq0.ensures
    ]

pub returns : goal.returns
returns c =
    spell_done c.args.self.now.key.now c.args.w c.args.bit c.requires.0 c.in-Some.ensures c.if-count-eq0.false c.if-self-from.false
