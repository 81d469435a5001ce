-- The spelling stands among the letters at the kind's place.
use native.Mathlib.Omega.{arith}
use Rattle.checks.proofs.Fixed.{entry_inside, entry_spells}
use Rattle.checks.proofs.spelling.spelling.Goals as goal

pub slice_bounds-result-end : goal.slice_bounds-result-end
slice_bounds-result-end c =
    let inside = entry_inside _ _ c.args.kind c.spelling_places.ensures c.spelling_letters.ensures c.requires in
    omega (arith, inside)

pub returns : goal.returns
returns c =
    entry_spells _ _ c.args.kind c.spelling_places.ensures c.spelling_letters.ensures c.requires _ (omega arith)
