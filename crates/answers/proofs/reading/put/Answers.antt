-- All bytes are lent for the key, or as many as a key may have and zeros behind them.
use mathlib.Core.Path.{sym}
use native.Mathlib.Omega.{arith}
use lib.ListN.{take}
use lib.Seq.{length-take-le}
use Rattle.keys.proofs.StoreLaws.{zeros}
use Rattle.answers.proofs.Finished.{cleared}
use Rattle.answers.proofs.Fronts.{wrote_all, wrote_front, short_front}
use Rattle.answers.proofs.reading.put.Goals as goal

pub returns-then-key-le-MOST : goal.returns-then-key-le-MOST
returns-then-key-le-MOST c =
    wrote_all c.put_key.ensures

pub slice_bounds-put_key-end-2 : goal.slice_bounds-put_key-end-2
slice_bounds-put_key-end-2 c =
    sym (length-take-le 262144 c.fill.new.self (omega (arith, c.if-key-le-MOST.false, c.fill.auto)))

pub put_key-requires-2 : goal.put_key-requires-2
put_key-requires-2 c =
    (short_front (take 262144 c.fill.new.self) (length-take-le 262144 c.fill.new.self (omega (arith, c.if-key-le-MOST.false, c.fill.auto))), c.requires)

pub returns : goal.returns
returns c =
    wrote_front (length-take-le 262144 c.fill.new.self (omega (arith, c.if-key-le-MOST.false, c.fill.auto))) (omega (arith, c.if-key-le-MOST.false)) (zeros c.fill.new.self c.args.key.now (cleared _ (c.fill.ensures.after (λ y e. e)))) c.put_key-2.ensures
