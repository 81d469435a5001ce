-- Nothing, or the diagnostic.
use borrow.Author.Tests.{not-false}
use Rattle.members.proofs.SignatureLaws.{this_noted_lem}
use Rattle.members.proofs.object.note_this.Goals as goal

pub returns-clause-notes_this : goal.returns-clause-notes_this
returns-clause-notes_this c =
    this_noted_lem c.args.given c.args.is_new c.args.this (not-false _ c.if-not-is_new.false-raw) c.report_if.ensures.reports c.report_if.ensures.noted
