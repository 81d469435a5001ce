-- An import, or names with dots between.
use mathlib.Core.Path.{refl, sym, ap, ◌∙◌}
use mathlib.Core.Bool.{true}
use native.Mathlib.Omega.{arith}
use lib.ListN.{length}
use Rattle.marks.specs.State.{view, given_of, Moved}
use Rattle.parts.specs.Arguments as naming
use Rattle.marks.proofs.MarkLaws.{is_here}
use Rattle.marks.proofs.StepLaws.{names_behind, moved_taken}
use Rattle.parts.proofs.ArgumentLaws.{query_import}
use Rattle.marks.specs.declared.state.Mark.{Mark}
use Rattle.parts.proofs.arguments.query.Goals as goal

pub returns-then-kind_at-eq-IMPORT-clause-starts_names : goal.returns-then-kind_at-eq-IMPORT-clause-starts_names
returns-then-kind_at-eq-IMPORT-clause-starts_names c =
    let moved : Moved (length c.args.words.now) c.args.m c.next.result = moved_taken c.next.ensures c.requires.1 (omega (arith, c.kind_at.ensures.upper_bound, c.if-kind_at-eq-IMPORT.true)) in
    λ text O given spelt.
    names_behind
    (query_import (given_of text c.args.words.now given) (view c.args.m O) (is_here c.args.words.now c.args.m c.kind_at.ensures.value c.if-kind_at-eq-IMPORT.true) ∙ ap (λ (q : Mark). naming.import_head (given_of text c.args.words.now given) true (view q O)) (sym c.next.ensures))
    moved (c.import.ensures.starts_import text O given true refl spelt)
