-- By the kind: true, false, a sign and a number, or a spelling alone.
use mathlib.Core.Path.{sym, ap, ◌∙◌, subst}
use mathlib.Core.List.{[]}
use Prim.Native.Nat.{ℕ}
use Rattle.rules.specs.State.{spelling, make, end, next}
use Rattle.keys.specs.Placed.{tree, pick, present, literal_spelling}
use Rattle.marks.specs.State.{given_of, view}
use Rattle.marks.specs.Laid.{name_run, Shape}
use Rattle.primaries.specs.Primary.{literal_choices, SaysNegative}
use Rattle.marks.proofs.Answers.{says_same}
use Rattle.primaries.proofs.PrimaryLaws.{shape_truth, literal_true, literal_false, literal_minus, literal_named, minus_next, negative_is}
use Rattle.marks.proofs.LeafLaws.{plain_says}
use Rattle.rules.specs.Primary as rule
use Rattle.rules.specs.State as state
use Rattle.marks.specs.declared.state.Mark.{Mark}
use Rattle.marks.specs.Told.{told}
use Rattle.primaries.proofs.primary.literal.Goals as goal

pub returns-then-kind-eq-TRUE-clause-says_literal : goal.returns-then-kind-eq-TRUE-clause-says_literal
returns-then-kind-eq-TRUE-clause-says_literal c =
    λ text O t l.
    let g = given_of text c.args.words.now c.args.given in
    let s = view c.args.m O in
    says_same (literal_true g s (sym c.kind_at-kind.ensures.value ∙ c.if-kind-eq-TRUE.true))
    (plain_says c.args.words.now c.args.given c.at-b.result 195 c.args.m c.args.nodes.now (told c.put.result) c.put.new.nodes c.at-b.ensures.first_value.0 c.at-b.ensures.first_value.1 c.none.ensures c.next.ensures
    (shape_truth 3)
    c.put.ensures.makes
    text c.args.names.now O)

pub returns-then-kind-eq-FALSE-clause-says_literal : goal.returns-then-kind-eq-FALSE-clause-says_literal
returns-then-kind-eq-FALSE-clause-says_literal c =
    λ text O t l.
    let g = given_of text c.args.words.now c.args.given in
    let s = view c.args.m O in
    says_same (literal_false g s (sym c.kind_at-kind.ensures.value ∙ c.if-kind-eq-FALSE.true))
    (plain_says c.args.words.now c.args.given c.at-b.result 259 c.args.m c.args.nodes.now (told c.put-then-kind-eq-FALSE.result) c.put-then-kind-eq-FALSE.new.nodes c.at-b.ensures.first_value.0 c.at-b.ensures.first_value.1 c.none-then-kind-eq-FALSE.ensures c.next-then-kind-eq-FALSE.ensures
    (shape_truth 4)
    c.put-then-kind-eq-FALSE.ensures.makes
    text c.args.names.now O)

pub returns-then-kind-eq-MINUS-clause-says_literal : goal.returns-then-kind-eq-MINUS-clause-says_literal
returns-then-kind-eq-MINUS-clause-says_literal c =
    λ text O t l.
    let g = given_of text c.args.words.now c.args.given in
    let s = view c.args.m O in
    says_same
    (literal_minus g s (sym c.kind_at-kind.ensures.value ∙ c.if-kind-eq-MINUS.true) ∙ negative_is g s
    ∙ ap (λ (x : ℕ). make g [] (tree 3 x (end g (next (next s))) (pick (rule.negated (state.kind g (next s))) (literal_spelling (present (spelling g (next s)))))) (next (next s))) (sym c.at-b.ensures.first_value.0))
    (subst (λ (x : Mark). SaysNegative c.args.words.now c.args.given c.at-b.result x c.args.nodes.now c.args.names.now (told c.literal_negative.result) c.literal_negative.new.nodes c.literal_negative.new.names) c.next-then-kind-eq-MINUS.ensures c.literal_negative.ensures.says_negative
    text O t c.at-b.ensures.first_value.1 (minus_next g s (sym c.kind_at-kind.ensures.value ∙ c.if-kind-eq-MINUS.true) l))

pub returns-clause-says_literal : goal.returns-clause-says_literal
returns-clause-says_literal c =
    λ text O t l.
    let g = given_of text c.args.words.now c.args.given in
    let s = view c.args.m O in
    let o = literal_named g s l (λ e. c.if-kind-eq-TRUE.false (c.kind_at-kind.ensures.value ∙ e)) (λ e. c.if-kind-eq-FALSE.false (c.kind_at-kind.ensures.value ∙ e)) (λ e. c.if-kind-eq-MINUS.false (c.kind_at-kind.ensures.value ∙ e)) in
    says_same (o.is ∙ ap (λ (x : ℕ). make g [] (tree o.tag x (end g (next s)) o.holds) (next s)) (sym c.at-b.ensures.first_value.0))
    (c.spelled.ensures.says_spelled text O o.tag o.holds t c.at-b.ensures.first_value.1
    (subst (λ (x : ℕ). Shape 0 o.tag o.holds (name_run (spelling g s)) x) (sym (c.literal_choices.ensures ∙ ap literal_choices c.kind_at-kind.ensures.value)) o.shape))
