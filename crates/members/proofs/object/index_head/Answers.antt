-- No name; no record for the diagnostic; no colon; the type may follow.
use Rattle.marks.proofs.ToldLaws.{handed_on, refusal_some}
use mathlib.Core.Path.{refl, ap, ◌∙◌}
use Prim.Native.Nat.{ℕ, ◌<◌}
use native.Mathlib.Omega.{arith}
use lib.Dec.{eqb}
use lib.ListN.{length}
use Rattle.words.specs.Kind.{Question}
use Rattle.words.specs.Cursor.{end_byte}
use Rattle.marks.proofs.MarkLaws.{is_here, is_not_here}
use Rattle.marks.proofs.StepLaws.{moved_then, moved_taken, inside_moved}
use Rattle.marks.proofs.ReportLaws.{reports_as}
use Rattle.members.proofs.IndexLaws.{index_full, index_no_colon, index_colon}
use Rattle.marks.specs.declared.state.Mark.{Mark}
use Rattle.members.proofs.object.index_head.Goals as goal

pub returns-then-kind_at-ne-COLON-clause-starts_bound : goal.returns-then-kind_at-ne-COLON-clause-starts_bound
returns-then-kind_at-ne-COLON-clause-starts_bound c =
    λ text w.
    index_no_colon text c.args.words.now c.args.given c.args.m c.args.names.now c.args.notes.now ((c.in_ok-p.ensures.starts_names text c.args.notes.now c.args.given w).done refl) (reports_as (ap (λ (n : ℕ). eqb n Question) c.kind_at.ensures.value) c.first_byte.ensures.value (c.end_byte.ensures.value ∙ ap (λ (x : Mark). end_byte c.args.words.now x.at x.half) c.next.ensures) c.in_ok-a.ensures.reports) refl c.past-q.ensures.value
    (is_not_here c.args.words.now c.past-q.result c.kind_at-2.ensures.value c.if-kind_at-ne-COLON.true) refl

pub returns-clause-starts_bound : goal.returns-clause-starts_bound
returns-clause-starts_bound c =
    let inside : c.past-q.result.at < length c.args.words.now = omega (arith, c.kind_at-2.ensures.upper_bound, c.if-kind_at-ne-COLON.false) in
    let moved = moved_then c.past-q.ensures.moved (moved_taken c.next-2.ensures (inside_moved c.past-q.ensures.moved) inside) in
    λ text w.
    index_colon text c.args.words.now c.args.given c.args.m c.args.names.now c.args.notes.now ((c.in_ok-p.ensures.starts_names text c.args.notes.now c.args.given w).done refl) (reports_as (ap (λ (n : ℕ). eqb n Question) c.kind_at.ensures.value) c.first_byte.ensures.value (c.end_byte.ensures.value ∙ ap (λ (x : Mark). end_byte c.args.words.now x.at x.half) c.next.ensures) c.in_ok-a.ensures.reports) refl c.past-q.ensures.value
    (is_here c.args.words.now c.past-q.result c.kind_at-2.ensures.value c.if-kind_at-ne-COLON.false) refl c.next-2.ensures c.in_ok-a.ensures.noted c.past-q.ensures.moved

pub returns-in_err-a-clause-starts_bound : goal.returns-in_err-a-clause-starts_bound
returns-in_err-a-clause-starts_bound c =
    rw (handed_on c.from_residual-in_err-a.ensures.1)
    (λ text w. index_full text c.args.words.now c.args.given c.args.m c.args.names.now c.args.notes.now ((c.in_ok-p.ensures.starts_names text c.args.notes.now c.args.given w).done refl) (reports_as (ap (λ (n : ℕ). eqb n Question) c.kind_at.ensures.value) c.first_byte.ensures.value (c.end_byte.ensures.value ∙ ap (λ (x : Mark). end_byte c.args.words.now x.at x.half) c.next.ensures) c.in_err-a.ensures.reports) (refusal_some c.in_err-a.field-0.0.why))
