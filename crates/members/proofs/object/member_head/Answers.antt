-- By what it begins with.
use mathlib.Core.Path.{refl, sym, ap, ◌∙◌}
use mathlib.Core.Bool.{true}
use mathlib.Core.List.{[]}
use Prim.Native.Nat.{◌+◌}
use native.Mathlib.Omega.{arith}
use lib.Dec.{eqb}
use Rattle.words.specs.Kind.{New, Readonly}
use Rattle.words.specs.Test.{◌and◌}
use Rattle.words.specs.Ahead.{key_follows}
use Rattle.words.specs.Cursor.{kind_at, whole_kind, same_line, first_byte}
use Rattle.rules.specs.State.{first}
use Rattle.rules.specs.Object as object
use Rattle.rules.proofs.TokenLaws.{both_true}
use Rattle.marks.specs.State.{view, given_of}
use Rattle.marks.proofs.MarkLaws.{kind_inside, along_moved}
use Rattle.marks.proofs.StepLaws.{moved_taken, inside_taken}
use Rattle.primaries.proofs.PrimaryLaws.{no_given}
use Rattle.members.proofs.HeadLaws.{finds_got, finds_from, got_call, got_construct, member_readonly, member_plain}
use Rattle.marks.specs.declared.state.Mark.{Mark}
use Rattle.members.proofs.object.member_head.Goals as goal

pub returns-then-signs-clause-starts_member : goal.returns-then-signs-clause-starts_member
returns-then-signs-clause-starts_member c =
    let begins = ap object.signs (sym c.kind_at.ensures.value) ∙ sym c.signs.ensures ∙ c.if-signs.true in
    λ O given. finds_got (got_call c.args.text.now c.args.words.now given c.args.m c.args.names.now O refl begins)

pub returns-then-constructs-clause-starts_member : goal.returns-then-constructs-clause-starts_member
returns-then-constructs-clause-starts_member c =
    let begins = ap object.signs (sym c.kind_at.ensures.value) ∙ sym c.signs.ensures ∙ c.if-signs.false in
    let inside = kind_inside object.signs c.args.words.now (c.args.m.at + 1) 0 refl (both_true (eqb (kind_at c.args.words.now c.args.m.at c.args.m.half) New) (object.signs (whole_kind c.args.words.now (c.args.m.at + 1))) (sym (c.constructs.ensures c.args.text.now [] no_given) ∙ c.if-constructs.true)).1 in
    λ O given. finds_got (got_construct c.args.text.now c.args.words.now given c.args.m c.args.names.now O refl c.next.ensures begins (sym (c.constructs.ensures c.args.text.now O given) ∙ c.if-constructs.true))

pub returns-then-constructs-clause-along : goal.returns-then-constructs-clause-along
returns-then-constructs-clause-along c =
    let begins = ap object.signs (sym c.kind_at.ensures.value) ∙ sym c.signs.ensures ∙ c.if-signs.false in
    let inside = kind_inside object.signs c.args.words.now (c.args.m.at + 1) 0 refl (both_true (eqb (kind_at c.args.words.now c.args.m.at c.args.m.half) New) (object.signs (whole_kind c.args.words.now (c.args.m.at + 1))) (sym (c.constructs.ensures c.args.text.now [] no_given) ∙ c.if-constructs.true)).1 in (
      along_moved (moved_taken c.next.ensures c.requires.0.1 (omega (arith, inside))),
      record { some = omega (arith, inside, ap (λ (x : Mark). x.at) c.next.ensures); past = omega (arith, ap (λ (x : Mark). x.at) c.next.ensures); few = omega arith },
    )

pub behind_readonly-requires : goal.behind_readonly-requires
behind_readonly-requires c =
    let inside = kind_inside (λ k. eqb k Readonly) c.args.words.now c.args.m.at c.args.m.half refl (both_true (eqb (kind_at c.args.words.now c.args.m.at c.args.m.half) Readonly) (key_follows c.args.words.now c.args.m.at and same_line c.args.words.now (c.args.m.at + 1) 0) (sym (c.is_readonly.ensures c.args.text.now [] no_given) ∙ c.if-is_readonly.true)).0 in
    ((c.requires.0.0, inside_taken c.args.m c.next-then-is_readonly.ensures inside, omega (arith, c.requires.0.2, ap (λ (x : Mark). x.at) c.next-then-is_readonly.ensures, ap (λ (x : Mark). x.named) c.next-then-is_readonly.ensures)), c.requires.1)

pub returns-then-is_readonly-clause-starts_member : goal.returns-then-is_readonly-clause-starts_member
returns-then-is_readonly-clause-starts_member c =
    let begins = ap object.signs (sym c.kind_at.ensures.value) ∙ sym c.signs.ensures ∙ c.if-signs.false in
    let inside = kind_inside (λ k. eqb k Readonly) c.args.words.now c.args.m.at c.args.m.half refl (both_true (eqb (kind_at c.args.words.now c.args.m.at c.args.m.half) Readonly) (key_follows c.args.words.now c.args.m.at and same_line c.args.words.now (c.args.m.at + 1) 0) (sym (c.is_readonly.ensures c.args.text.now [] no_given) ∙ c.if-is_readonly.true)).0 in
    λ O given.
    finds_from (sym (ap (λ (x : Mark). x.used) c.next-then-is_readonly.ensures)) (sym (ap (λ (x : Mark). x.named) c.next-then-is_readonly.ensures)) (sym (ap (λ (x : Mark). x.noted) c.next-then-is_readonly.ensures))
    (λ T.
    member_readonly (given_of c.args.text.now c.args.words.now given) T (view c.args.m O) begins (sym (c.constructs.ensures c.args.text.now O given) ∙ c.if-constructs.false) (sym (c.is_readonly.ensures c.args.text.now O given) ∙ c.if-is_readonly.true)
    ∙ ap (λ (x : Mark). object.behind_readonly (given_of c.args.text.now c.args.words.now given) T (first (given_of c.args.text.now c.args.words.now given) (view c.args.m O)) true (view x O)) (sym c.next-then-is_readonly.ensures))
    (c.behind_readonly.ensures.says_member O given (first_byte c.args.words.now c.args.m.at c.args.m.half))

pub returns-clause-starts_member : goal.returns-clause-starts_member
returns-clause-starts_member c =
    let begins = ap object.signs (sym c.kind_at.ensures.value) ∙ sym c.signs.ensures ∙ c.if-signs.false in
    λ O given.
    finds_from refl refl refl (λ T. member_plain (given_of c.args.text.now c.args.words.now given) T (view c.args.m O) begins (sym (c.constructs.ensures c.args.text.now O given) ∙ c.if-constructs.false) (sym (c.is_readonly.ensures c.args.text.now O given) ∙ c.if-is_readonly.false))
    (c.behind_readonly-2.ensures.says_member O given (first_byte c.args.words.now c.args.m.at c.args.m.half))
