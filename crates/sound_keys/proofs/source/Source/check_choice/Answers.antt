-- A choice, as taking a key back takes it.
use native.Mathlib.Omega.{arith}
use Prim.Native.Nat.{◌-◌}
use Rattle.std.proofs.lemmas.Result.{err_from_is_err_and}
use Rattle.keys.proofs.BitsLaws.{length_bytes}
use Rattle.node_table.specs.Forms.{leads, form_of, entry_of}
use Rattle.sound_keys.specs.Sound.{bits}
use Rattle.sound_keys.proofs.Checking.{chosen_as, unchosen_as}
use Rattle.sound_keys.proofs.source.Source.check_choice.Goals as goal

pub returns-in_err-c : goal.returns-in_err-c
returns-in_err-c c =
    let p = err_from_is_err_and c.from_residual.result c.from_residual.ensures.1 in rw (p.1, p.2)
    (unchosen_as (bits c.args.self.now) c.args.self.now.forms.now c.args.steps c.args.r.w (leads c.args.self.now.forms.now (form_of c.args.self.now.forms.now c.args.steps) (entry_of c.args.r) (c.args.r.op - 5)) c.args.bit (omega (arith, length_bytes c.args.self.now.key.now, c.requires.0)) c.in_err-c.ensures.stopped.2)

pub returns : goal.returns
returns c =
    chosen_as (bits c.args.self.now) c.args.self.now.forms.now c.args.steps c.args.r.w (leads c.args.self.now.forms.now (form_of c.args.self.now.forms.now c.args.steps) (entry_of c.args.r) (c.args.r.op - 5)) c.args.bit c.in_ok-c.ensures.picked
