-- A choice joins those before it.
use native.Mathlib.Omega.{arith}
use mathlib.Core.Path.{ap}
use Prim.Native.Nat.{ℕ, ◌+◌}
use Rattle.key_parts.specs.Place.{at_bit}
use Rattle.key_parts.proofs.ChoiceLaws.{pack_moved, pack_fits}
use Rattle.key_parts.proofs.choice.choose.Goals as goal

pub overflow_add-result : goal.overflow_add-result
overflow_add-result c =
    omega (arith, pack_moved c.args.s.shift c.args.c.number c.args.w c.requires.2 c.requires.1, pack_fits c.args.s.word c.args.s.shift c.args.c.number c.args.w c.requires.0 c.requires.2 c.requires.1)

pub returns : goal.returns
returns c =
    ap (λ (x : ℕ). record { at = at_bit c.args.s.at c.args.c.bit; base = c.args.s.base; word = c.args.s.word + x; shift = c.args.s.shift + c.args.w; child = c.args.s.child; form = c.args.c.form; n = c.args.c.n })
    (pack_moved c.args.s.shift c.args.c.number c.args.w c.requires.2 c.requires.1)
