-- Not one parameter; one of a literal type; one of another.
use mathlib.Core.Path.{sym, ◌∙◌}
use Rattle.members.proofs.IndexLaws.{notes_other, notes_literal, notes_keyword}
use Rattle.members.proofs.object.note_index.Goals as goal

pub returns-then-ps-ne1-clause-notes_index : goal.returns-then-ps-ne1-clause-notes_index
returns-then-ps-ne1-clause-notes_index c =
    notes_other c.args.given c.args.b c.args.end c.args.first c.args.ps c.args.m c.args.nodes.now c.args.notes.now c.if-ps-ne1.true c.report.ensures.reports c.report.ensures.noted

pub returns-then-is_literal-clause-notes_index : goal.returns-then-is_literal-clause-notes_index
returns-then-is_literal-clause-notes_index c =
    notes_literal c.args.given c.args.b c.args.end c.args.first c.args.ps c.args.m c.args.nodes.now c.args.notes.now c.if-ps-ne1.false c.requires.0 (sym c.is_literal.ensures ∙ c.if-is_literal.true) c.place_at-place.ensures.0 c.place_at-place.ensures.1 c.report-then-is_literal.ensures.reports c.report-then-is_literal.ensures.noted

pub returns-clause-notes_index : goal.returns-clause-notes_index
returns-clause-notes_index c =
    notes_keyword c.args.given c.args.b c.args.end c.args.first c.args.ps c.args.m c.args.nodes.now c.args.notes.now c.if-ps-ne1.false c.requires.0 (sym c.is_literal.ensures ∙ c.if-is_literal.false) c.is_no_index.ensures c.report_if.ensures.reports c.report_if.ensures.noted
