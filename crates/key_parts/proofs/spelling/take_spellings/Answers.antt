use native.Mathlib.Omega.{arith}
use lib.ListN.{length}
use Rattle.keys.specs.Bits.{bits_of_bytes}
use Rattle.std.proofs.lemmas.Result.{err_from_is_err_and}
use Rattle.key_parts.proofs.Steps.{spelling_none, spelling_more, spelling_stop, spelling_all, spelling_as, inside_as}
use Rattle.key_parts.proofs.spelling.take_spellings.Goals as goal

pub loop-init : goal.loop-init
loop-init c =
    spelling_none (bits_of_bytes c.args.key.now) (length c.args.names.now) (length c.args.text.now) _ _ c.args.p _ _ c.requires.2

pub take_spelling-requires : goal.take_spelling-requires
take_spelling-requires c =
    (c.requires.0, c.requires.1, inside_as c.loop.invariant.inside c.loop.invariant.names_same c.loop.invariant.text_same)

pub returns-in_err-q : goal.returns-in_err-q
returns-in_err-q c =
    let p = err_from_is_err_and c.from_residual.result c.from_residual.ensures.1 in
    rw (p.1, p.2) (spelling_stop (bits_of_bytes c.args.key.now) (length c.args.names.now) (length c.args.text.now) c.loop.invariant c.loop-test.true (spelling_as c.loop.invariant.names_same c.loop.invariant.text_same c.in_err-q.ensures))

pub loop-preserved : goal.loop-preserved
loop-preserved c =
    spelling_more (bits_of_bytes c.args.key.now) (length c.args.names.now) (length c.args.text.now) c.loop.invariant c.loop-test.true (spelling_as c.loop.invariant.names_same c.loop.invariant.text_same c.in_ok-q.ensures)

pub returns : goal.returns
returns c =
    spelling_all (bits_of_bytes c.args.key.now) (length c.args.names.now) (length c.args.text.now) c.loop.invariant (omega arith)
