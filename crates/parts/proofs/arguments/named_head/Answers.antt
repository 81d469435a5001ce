-- By the word that begins it.
use mathlib.Core.Path.{refl, sym, ap, ◌∙◌}
use mathlib.Core.Bool.{false}
use native.Mathlib.Omega.{arith}
use lib.ListN.{length}
use Rattle.marks.specs.State.{view, given_of, Moved}
use Rattle.parts.specs.Arguments as naming
use Rattle.marks.proofs.MarkLaws.{is_here, is_not_here}
use Rattle.marks.proofs.StepLaws.{names_behind, moved_taken}
use Rattle.parts.proofs.ArgumentLaws.{naming_typeof, naming_import}
use Rattle.marks.specs.declared.state.Mark.{Mark}
use Rattle.parts.proofs.arguments.named_head.Goals as goal

pub returns-then-kind-eq-TYPEOF-clause-starts_names : goal.returns-then-kind-eq-TYPEOF-clause-starts_names
returns-then-kind-eq-TYPEOF-clause-starts_names c =
    let moved : Moved (length c.args.words.now) c.args.m c.next.result = moved_taken c.next.ensures c.requires.1 (omega (arith, c.kind_at-kind.ensures.upper_bound, c.if-kind-eq-TYPEOF.true)) in
    λ text O given spelt.
    names_behind
    (naming_typeof (given_of text c.args.words.now given) (view c.args.m O) (is_here c.args.words.now c.args.m c.kind_at-kind.ensures.value c.if-kind-eq-TYPEOF.true) ∙ ap (λ (q : Mark). naming.query_head (given_of text c.args.words.now given) (view q O)) (sym c.next.ensures))
    moved (c.query.ensures.starts_names text O given spelt)

pub returns-then-kind-eq-IMPORT-clause-starts_names : goal.returns-then-kind-eq-IMPORT-clause-starts_names
returns-then-kind-eq-IMPORT-clause-starts_names c =
    let moved : Moved (length c.args.words.now) c.args.m c.next-then-kind-eq-IMPORT.result = moved_taken c.next-then-kind-eq-IMPORT.ensures c.requires.1 (omega (arith, c.kind_at-kind.ensures.upper_bound, c.if-kind-eq-IMPORT.true)) in
    λ text O given spelt.
    names_behind
    (naming_import (given_of text c.args.words.now given) (view c.args.m O) (is_not_here c.args.words.now c.args.m c.kind_at-kind.ensures.value c.if-kind-eq-TYPEOF.false) (is_here c.args.words.now c.args.m c.kind_at-kind.ensures.value c.if-kind-eq-IMPORT.true)
    ∙ ap (λ (q : Mark). naming.import_head (given_of text c.args.words.now given) false (view q O)) (sym c.next-then-kind-eq-IMPORT.ensures))
    moved (c.import.ensures.starts_import text O given false refl spelt)
