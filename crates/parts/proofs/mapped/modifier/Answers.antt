-- The word or mark itself, a sign before it, or none.
use mathlib.Core.Path.{refl, sym, ap, ◌∙◌}
use Rattle.rules.specs.State.{expect, read}
use Rattle.marks.specs.State.{view, given_of}
use Rattle.marks.proofs.MarkLaws.{is_here, is_not_here}
use Rattle.marks.proofs.StepLaws.{number_read, number_same}
use Rattle.parts.proofs.MappingLaws.{modifier_here, modifier_plus, modifier_minus, modifier_none}
use Rattle.marks.specs.declared.state.Mark.{Mark}
use Rattle.parts.proofs.mapped.modifier.Goals as goal

pub returns-then-here-kind-clause-by_index : goal.returns-then-here-kind-clause-by_index
returns-then-here-kind-clause-by_index c =
    λ text O given. number_read 1 c.next.ensures (modifier_here (given_of text c.args.words.now given) c.args.kind (view c.args.m O) (is_here c.args.words.now c.args.m c.kind_at-here.ensures.value c.if-here-kind.true))

pub returns-then-here-eq-PLUS-clause-by_index : goal.returns-then-here-eq-PLUS-clause-by_index
returns-then-here-eq-PLUS-clause-by_index c =
    λ text O given.
    number_same
    (modifier_plus (given_of text c.args.words.now given) c.args.kind (view c.args.m O) (is_not_here c.args.words.now c.args.m c.kind_at-here.ensures.value c.if-here-kind.false) (is_here c.args.words.now c.args.m c.kind_at-here.ensures.value c.if-here-eq-PLUS.true)
    ∙ ap (λ (q : Mark). expect (given_of text c.args.words.now given) c.args.kind (view q O) (read 2)) (sym c.next-then-here-eq-PLUS.ensures))
    (c.signed.ensures.by_index text O given)

pub returns-then-here-eq-MINUS-clause-by_index : goal.returns-then-here-eq-MINUS-clause-by_index
returns-then-here-eq-MINUS-clause-by_index c =
    λ text O given.
    number_same
    (modifier_minus (given_of text c.args.words.now given) c.args.kind (view c.args.m O) (is_not_here c.args.words.now c.args.m c.kind_at-here.ensures.value c.if-here-kind.false) (is_not_here c.args.words.now c.args.m c.kind_at-here.ensures.value c.if-here-eq-PLUS.false) (is_here c.args.words.now c.args.m c.kind_at-here.ensures.value c.if-here-eq-MINUS.true)
    ∙ ap (λ (q : Mark). expect (given_of text c.args.words.now given) c.args.kind (view q O) (read 3)) (sym c.next-then-here-eq-MINUS.ensures))
    (c.signed-then-here-eq-MINUS.ensures.by_index text O given)

pub returns-clause-by_index : goal.returns-clause-by_index
returns-clause-by_index c =
    λ text O given.
    number_read 0 refl
    (modifier_none (given_of text c.args.words.now given) c.args.kind (view c.args.m O) (is_not_here c.args.words.now c.args.m c.kind_at-here.ensures.value c.if-here-kind.false) (is_not_here c.args.words.now c.args.m c.kind_at-here.ensures.value c.if-here-eq-PLUS.false) (is_not_here c.args.words.now c.args.m c.kind_at-here.ensures.value c.if-here-eq-MINUS.false))
