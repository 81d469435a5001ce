-- Each way out is one step of the rule.
use mathlib.Core.Path.{refl, sym, ap, ◌∙◌}
use mathlib.Core.List.{[]}
use native.Mathlib.Omega.{arith}
use Rattle.std.specs.Prelude.{Ok}
use Rattle.words.specs.Test.{among}
use Rattle.marks.specs.State.{given_of, view}
use Rattle.primaries.proofs.PrimaryLaws.{eq_at, ne_at, keyword_inside, negative_inside, minus_off, no_given, start_from, primary_keyword, primary_this, primary_literal, primary_negative, primary_worded, literal_at_lem, negative_at, literal_here, negative_here}
use Rattle.marks.proofs.MarkLaws.{kind_inside}
use Rattle.rules.specs.Primary as rule
use Rattle.primaries.proofs.primary.primary_start.Goals as goal

pub returns-then-is_keyword-clause-by_index : goal.returns-then-is_keyword-clause-by_index
returns-then-is_keyword-clause-by_index c =
    λ text O given T.
    let g = given_of text c.args.words.now given in
    let s = view c.args.m O in
    primary_keyword g T s (sym (c.is_keyword.ensures text O given) ∙ c.if-is_keyword.true)

pub returns-then-is_keyword-clause-start_has : goal.returns-then-is_keyword-clause-start_has
returns-then-is_keyword-clause-start_has c =
    keyword_inside (given_of [] c.args.words.now no_given) (view c.args.m []) (sym (c.is_keyword.ensures [] [] no_given) ∙ c.if-is_keyword.true)

pub returns-then-kind_at-eq-THIS-clause-by_index : goal.returns-then-kind_at-eq-THIS-clause-by_index
returns-then-kind_at-eq-THIS-clause-by_index c =
    λ text O given T.
    let g = given_of text c.args.words.now given in
    let s = view c.args.m O in
    start_from (Ok c.this_start.result) g T s (primary_this g T s (sym (c.is_keyword.ensures text O given) ∙ c.if-is_keyword.false) (eq_at 102 c.kind_at.ensures.value c.if-kind_at-eq-THIS.true)) (c.this_start.ensures.starts_as text O given T)

pub returns-then-is_literal-clause-by_index : goal.returns-then-is_literal-clause-by_index
returns-then-is_literal-clause-by_index c =
    λ text O given T.
    let g = given_of text c.args.words.now given in
    let s = view c.args.m O in
    let l = (ap (among rule.literals) (sym c.kind_at-2.ensures.value) ∙ sym c.is_literal.ensures ∙ c.if-is_literal.true) in
    (primary_literal g T s (sym (c.is_keyword.ensures text O given) ∙ c.if-is_keyword.false) (ne_at 102 c.kind_at.ensures.value c.if-kind_at-eq-THIS.false) l ∙ sym (literal_at_lem g T s l), literal_here g T s l)

pub returns-then-is_literal-clause-start_has : goal.returns-then-is_literal-clause-start_has
returns-then-is_literal-clause-start_has c =
    let l = ap (among rule.literals) (sym c.kind_at-2.ensures.value) ∙ sym c.is_literal.ensures ∙ c.if-is_literal.true in
    (kind_inside (among rule.literals) c.args.words.now c.args.m.at c.args.m.half refl l, λ h. absurd (minus_off (among rule.literals) c.args.words.now c.args.m refl l h))

pub returns-then-is_negative-clause-by_index : goal.returns-then-is_negative-clause-by_index
returns-then-is_negative-clause-by_index c =
    λ text O given T.
    let g = given_of text c.args.words.now given in
    let s = view c.args.m O in
    let n = (sym (c.is_negative.ensures text O given) ∙ c.if-is_negative.true) in
    (primary_negative g T s (sym (c.is_keyword.ensures text O given) ∙ c.if-is_keyword.false) (ne_at 102 c.kind_at.ensures.value c.if-kind_at-eq-THIS.false) (ap (among rule.literals) (sym c.kind_at-2.ensures.value) ∙ sym c.is_literal.ensures ∙ c.if-is_literal.false) n ∙ sym (negative_at g T s n), negative_here g T s n)

pub returns-then-is_negative-clause-start_has : goal.returns-then-is_negative-clause-start_has
returns-then-is_negative-clause-start_has c =
    let n = negative_inside (given_of [] c.args.words.now no_given) (view c.args.m []) (sym (c.is_negative.ensures [] [] no_given) ∙ c.if-is_negative.true) in
    (omega (arith, n), λ h. n)

pub returns-clause-by_index : goal.returns-clause-by_index
returns-clause-by_index c =
    λ text O given T.
    let g = given_of text c.args.words.now given in
    let s = view c.args.m O in
    start_from c.worded.result g T s (primary_worded g T s (sym (c.is_keyword.ensures text O given) ∙ c.if-is_keyword.false) (ne_at 102 c.kind_at.ensures.value c.if-kind_at-eq-THIS.false) (ap (among rule.literals) (sym c.kind_at-2.ensures.value) ∙ sym c.is_literal.ensures ∙ c.if-is_literal.false) (sym (c.is_negative.ensures text O given) ∙ c.if-is_negative.false)) (c.worded.ensures.starts_as text O given T)
