-- The spelling after a child, if there is one.
use lib.ListN.{length}
use Rattle.keys.specs.Bits.{bits_of_bytes}
use Rattle.std.proofs.lemmas.Result.{err_from_is_err_and}
use Rattle.key_parts.proofs.Walk.{after_none, after_some, after_stop}
use Rattle.key_parts.proofs.step.take_after.Goals as goal

pub returns-then-w-eq0 : goal.returns-then-w-eq0
returns-then-w-eq0 c =
    after_none (bits_of_bytes c.args.key.now) (length c.args.names.now) (length c.args.text.now) c.args.w c.args.s c.args.names.now c.args.text.now c.if-w-eq0.true c.requires.2

pub returns-in_err-at : goal.returns-in_err-at
returns-in_err-at c =
    let p = err_from_is_err_and c.from_residual.result c.from_residual.ensures.1 in
    rw (p.1, p.2) (after_stop (bits_of_bytes c.args.key.now) (length c.args.names.now) (length c.args.text.now) c.args.w c.args.s c.args.names.now c.args.text.now c.if-w-eq0.false _ _ _ c.in_err-at.ensures)

pub returns : goal.returns
returns c =
    after_some (bits_of_bytes c.args.key.now) (length c.args.names.now) (length c.args.text.now) c.args.w c.args.s c.args.names.now c.args.text.now c.if-w-eq0.false _ _ c.in_ok-at.at c.in_ok-at.ensures
