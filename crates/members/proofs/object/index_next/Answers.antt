-- At the bracket, at no comma, or past one.
use mathlib.Core.Path.{ap}
use Prim.Native.Nat.{ℕ, ◌<◌}
use native.Mathlib.Omega.{arith}
use lib.Dec.{eqb}
use lib.ListN.{length}
use Rattle.words.specs.Kind.{RBrack}
use Rattle.marks.proofs.MarkLaws.{is_here, is_not_here}
use Rattle.marks.proofs.ReportLaws.{reports_as}
use Rattle.members.proofs.IndexLaws.{next_goes}
use Rattle.members.proofs.object.index_next.Goals as goal

pub returns-clause-by_index : goal.returns-clause-by_index
returns-clause-by_index c =
    let inside : c.args.m.at < length c.args.words.now = omega (arith, c.kind_at-kind.ensures.upper_bound, c.if-kind-ne-COMMA.false) in
    λ text.
    next_goes text c.args.words.now c.args.given c.args.m c.args.notes.now (is_not_here c.args.words.now c.args.m c.kind_at-kind.ensures.value c.if-kind-eq-R_BRACK.false) (is_here c.args.words.now c.args.m c.kind_at-kind.ensures.value c.if-kind-ne-COMMA.false) c.next-p.ensures
    (reports_as (ap (λ (n : ℕ). eqb n RBrack) c.kind_at.ensures.value) c.first_byte.ensures.value c.end_byte.ensures.value c.report_if.ensures.reports) c.report_if.ensures.noted
