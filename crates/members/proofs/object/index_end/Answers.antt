-- No record for the diagnostic; no colon; the type may follow.
use Rattle.marks.proofs.ToldLaws.{handed_on, refusal_some}
use mathlib.Core.Path.{refl}
use lib.Dec.{eqb}
use borrow.Author.Tests.{eq-eqb}
use Rattle.words.specs.Kind.{RBrack}
use Rattle.words.specs.Cursor.{kind_at}
use Rattle.marks.proofs.MarkLaws.{is_here, is_not_here, kind_inside}
use Rattle.members.proofs.IndexLaws.{end_full, end_no_colon, end_colon}
use Rattle.members.proofs.object.index_end.Goals as goal

pub returns-then-kind_at-ne-COLON-clause-ends_index : goal.returns-then-kind_at-ne-COLON-clause-ends_index
returns-then-kind_at-ne-COLON-clause-ends_index c =
    let inside = kind_inside (λ k. eqb k RBrack) c.args.words.now c.args.m.at c.args.m.half refl (eq-eqb (kind_at c.args.words.now c.args.m.at c.args.m.half) RBrack c.requires.3) in
    end_no_colon c.args.words.now c.args.given c.args.b c.args.first c.args.ps c.args.m c.next-p.result c.args.nodes.now c.args.notes.now (eq-eqb (kind_at c.args.words.now c.args.m.at c.args.m.half) RBrack c.requires.3) c.next-p.ensures c.end_byte.ensures.value c.in_ok-q.ensures.notes_index refl (is_not_here c.args.words.now c.in_ok-q.q c.kind_at.ensures.value c.if-kind_at-ne-COLON.true) refl

pub returns-clause-ends_index : goal.returns-clause-ends_index
returns-clause-ends_index c =
    let inside = kind_inside (λ k. eqb k RBrack) c.args.words.now c.args.m.at c.args.m.half refl (eq-eqb (kind_at c.args.words.now c.args.m.at c.args.m.half) RBrack c.requires.3) in
    end_colon c.args.words.now c.args.given c.args.b c.args.first c.args.ps c.args.m c.next-p.result c.args.nodes.now c.args.notes.now (eq-eqb (kind_at c.args.words.now c.args.m.at c.args.m.half) RBrack c.requires.3) c.next-p.ensures c.end_byte.ensures.value c.in_ok-q.ensures.notes_index refl (is_here c.args.words.now c.in_ok-q.q c.kind_at.ensures.value c.if-kind_at-ne-COLON.false) refl c.next.ensures

pub returns-in_err-q-clause-ends_index : goal.returns-in_err-q-clause-ends_index
returns-in_err-q-clause-ends_index c =
    rw (handed_on c.from_residual.ensures.1)
    (let inside = kind_inside (λ k. eqb k RBrack) c.args.words.now c.args.m.at c.args.m.half refl (eq-eqb (kind_at c.args.words.now c.args.m.at c.args.m.half) RBrack c.requires.3) in
    end_full c.args.words.now c.args.given c.args.b c.args.first c.args.ps c.args.m c.next-p.result c.args.nodes.now c.args.notes.now (eq-eqb (kind_at c.args.words.now c.args.m.at c.args.m.half) RBrack c.requires.3) c.next-p.ensures c.end_byte.ensures.value c.in_err-q.ensures.notes_index (refusal_some c.in_err-q.field-0.0.why))
