-- The word of the trials.
use Rattle.marks.proofs.TallyLaws.{tallied_open}
use Rattle.marks.proofs.tally.set_trials.Goals as goal

pub returns : goal.returns
returns c =
    tallied_open c.args.notes.now c.put_tally.ensures.at_in_bounds c.put_tally.ensures.notes_after
