-- One more, or the limit.
use Rattle.marks.proofs.TallyLaws.{tallied_more}
use Rattle.marks.proofs.tally.enter.Goals as goal

pub returns-then-n-lt-MOST : goal.returns-then-n-lt-MOST
returns-then-n-lt-MOST c =
    tallied_more c.args.notes.now c.entered-n.ensures c.if-n-lt-MOST.true c.put_tally.ensures.at_in_bounds c.put_tally.ensures.notes_after
