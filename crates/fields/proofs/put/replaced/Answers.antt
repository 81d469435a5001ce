use native.Mathlib.Omega.{arith}
use Rattle.fields.proofs.Windows.{replaced_below, replaced_fits, replaced_is}
use Rattle.fields.proofs.put.replaced.Goals as goal

pub overflow_sub-result : goal.overflow_sub-result
overflow_sub-result c =
    replaced_below c.args.old c.args.width c.args.rest c.args.number c.lowest-part.result c.requires.0 c.requires.1 c.requires.2 c.lowest-part.ensures

pub overflow_add-result : goal.overflow_add-result
overflow_add-result c =
    omega (arith, replaced_fits c.args.old c.args.width c.args.rest c.args.number c.lowest-part.result c.requires.0 c.requires.1 c.requires.2 c.lowest-part.ensures)

pub returns : goal.returns
returns c =
    replaced_is c.args.old c.args.width c.args.rest c.args.number c.lowest-part.result c.requires.0 c.requires.1 c.requires.2 c.lowest-part.ensures
