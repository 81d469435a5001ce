-- No key; a method's; a property's.
use Rattle.marks.proofs.MarkLaws.{bit_is}
use mathlib.Core.Path.{refl, ◌≡◌, sym, ap, ◌∙◌}
use mathlib.Core.Bool.{false}
use Prim.Native.Nat.{ℕ}
use native.Mathlib.Omega.{arith}
use lib.Dec.{eqb}
use borrow.Author.Tests.{not-true, not-false}
use Rattle.words.specs.Kind.{Question}
use Rattle.words.specs.Cursor.{kind_at}
use Rattle.words.specs.Ahead.{property_key}
use Rattle.rules.specs.Refusal.{unexpected}
use Rattle.rules.specs.Object as object
use Rattle.marks.specs.State.{view, given_of}
use Rattle.marks.proofs.MarkLaws.{kind_inside}
use Rattle.members.proofs.HeadLaws.{key_none, finds_refused, finds_got, got_method, got_property}
use Rattle.members.proofs.object.with_key.Goals as goal

pub returns-then-not-property_key-clause-starts_key : goal.returns-then-not-property_key-clause-starts_key
returns-then-not-property_key-clause-starts_key c =
    let none : property_key (kind_at c.args.words.now c.args.m.at c.args.m.half) ≡ false = ap property_key (sym c.kind_at-kind.ensures.value) ∙ sym c.property_key.ensures ∙ not-true _ c.if-not-property_key.true-raw in
    λ text w O given b.
    finds_refused unexpected c.args.m (λ z. omega arith) refl
    (λ T. key_none (given_of text c.args.words.now given) T b c.args.readonly (view c.args.m O) none)

pub returns-then-signs-clause-starts_key : goal.returns-then-signs-clause-starts_key
returns-then-signs-clause-starts_key c =
    let is_key = sym c.property_key.ensures ∙ not-false _ c.if-not-property_key.false-raw in
    let inside = kind_inside property_key c.args.words.now c.args.m.at c.args.m.half refl (ap property_key (sym c.kind_at-kind.ensures.value) ∙ sym c.property_key.ensures ∙ not-false _ c.if-not-property_key.false-raw) in
    let begins = ap object.signs (sym c.kind_at-2.ensures.value) ∙ sym c.signs.ensures ∙ c.if-signs.true in
    λ text w O given b.
    finds_got
    (got_method text c.args.words.now given b c.args.readonly c.args.m c.spell-p.result c.past-q.result c.args.names.now _ O c.kind_at-kind.ensures.value is_key c.spell-p.ensures.0 c.past-q.ensures.value c.past-q.ensures.moved c.spell-p.ensures.1 w
    (ap (λ (n : ℕ). eqb n Question) c.kind_at.ensures.value) c.key_choices-key.ensures.0 begins)

pub returns-clause-starts_key : goal.returns-clause-starts_key
returns-clause-starts_key c =
    let is_key = sym c.property_key.ensures ∙ not-false _ c.if-not-property_key.false-raw in
    let inside = kind_inside property_key c.args.words.now c.args.m.at c.args.m.half refl (ap property_key (sym c.kind_at-kind.ensures.value) ∙ sym c.property_key.ensures ∙ not-false _ c.if-not-property_key.false-raw) in
    let begins = ap object.signs (sym c.kind_at-2.ensures.value) ∙ sym c.signs.ensures ∙ c.if-signs.false in
    λ text w O given b.
    finds_got
    (got_property text c.args.words.now given b c.args.readonly c.args.m c.spell-p.result c.past-q.result c.args.names.now _ O c.kind_at-kind.ensures.value is_key c.spell-p.ensures.0 c.past-q.ensures.value c.past-q.ensures.moved c.spell-p.ensures.1 w
    (ap (λ (n : ℕ). eqb n Question) c.kind_at.ensures.value) c.key_choices-key.ensures.0 (c.from.ensures ∙ bit_is _) begins)
