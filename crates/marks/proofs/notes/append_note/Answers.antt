-- The words stored are one diagnostic.
use Rattle.rules.specs.Notes.{note_both}
use Rattle.marks.proofs.LaidLaws.{notes_recorded}
use Rattle.marks.proofs.notes.append_note.Goals as goal

pub returns-clause-at_after : goal.returns-clause-at_after
returns-clause-at_after c =
    let z = note_both c.args.number c.args.place.first c.args.place.end c.args.other.first c.args.other.end in
    notes_recorded c.args.notes.now c.args.at z c.requires
