-- A choice: its number, whether it leads anywhere, and where.
use native.Mathlib.Omega.{arith}
use mathlib.Core.Path.{sym, ap, ◌∙◌}
use Rattle.keys.specs.Bits.{bits_of_bytes}
use Rattle.keys.specs.Form.{is_never}
use Rattle.keys.proofs.BitsLaws.{length_bytes}
use Rattle.key_parts.proofs.Steps.{picked_short, picked_never, picked_to}
use Rattle.key_parts.proofs.choice.take_by.Goals as goal

pub returns-in_default : goal.returns-in_default
returns-in_default g c fs h =
    picked_short (bits_of_bytes c.args.key.now) c.args.forms.now c.args.steps c.args.w fs c.args.bit (omega (arith, length_bytes c.args.key.now, c.requires.1)) (sym c.in_default.is ∙ c.field_at.ensures)

pub is_never-requires : goal.is_never-requires
is_never-requires g c =
    c.requires.4 _ _ c.jump-form.ensures

pub returns-then-is_never : goal.returns-then-is_never
returns-then-is_never g c fs h =
    let j = h _ _ c.jump-form.ensures in
    picked_never (bits_of_bytes c.args.key.now) c.args.forms.now c.args.steps c.args.w fs c.args.bit (omega (arith, length_bytes c.args.key.now, c.requires.1)) _ _ (sym c.in-Some.is ∙ c.field_at.ensures) (ap is_never j.to ∙ sym c.is_never.ensures ∙ c.if-is_never.true)

pub returns : goal.returns
returns g c fs h =
    let j = h _ _ c.jump-form.ensures in
    picked_to (bits_of_bytes c.args.key.now) c.args.forms.now c.args.steps c.args.w fs c.args.bit (omega (arith, length_bytes c.args.key.now, c.requires.1)) _ _ (sym c.in-Some.is ∙ c.field_at.ensures) _ _ (ap is_never j.to ∙ sym c.is_never.ensures ∙ c.if-is_never.false) j.to j.in_table j.few
