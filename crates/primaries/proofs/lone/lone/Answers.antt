-- A name, a literal or a keyword: each is all that an intersection reads there.
use mathlib.Core.Path.{◌≡◌, sym, ap, ◌∙◌}
use mathlib.Core.Bool.{false}
use mathlib.Core.List.{[], ◌∷◌}
use Prim.Native.Nat.{ℕ, ◌+◌}
use Rattle.words.specs.Test.{among}
use Rattle.words.specs.Cursor.{kind_at, whole_kind}
use Rattle.keys.specs.Placed.{absent, tree, join, listed_names, maybe_list}
use Rattle.rules.specs.State.{spelling, make, end, next}
use Rattle.rules.specs.Primary.{literals}
use Rattle.marks.specs.State.{given_of, view}
use Rattle.marks.proofs.Answers.{says_same}
use Rattle.primaries.proofs.LoneLaws.{lone_name, lone_literal, lone_keyword, literal_here, shape_name, lone_word}
use Rattle.primaries.proofs.lone.lone.Goals as goal

pub returns-then-kind-eq-WORD-clause-says_lone : goal.returns-then-kind-eq-WORD-clause-says_lone
returns-then-kind-eq-WORD-clause-says_lone c =
    λ text O T on t.
    let g = given_of text c.args.words.now c.args.given in
    let s = view c.args.m O in
    let name = join (listed_names (spelling g s ∷ [])) (maybe_list absent) in
    says_same (lone_name g T s c.requires.1 on (sym c.kind_at-kind.ensures.value ∙ c.if-kind-eq-WORD.true) ∙ ap (λ (x : ℕ). make g [] (tree 1 x (end g (next s)) name) (next s)) (sym c.at-b.ensures.first_value.0))
    (c.spelled.ensures.says_spelled text O 1 name t c.at-b.ensures.first_value.1 (shape_name (spelling g s)))

pub returns-then-is_literal-clause-says_lone : goal.returns-then-is_literal-clause-says_lone
returns-then-is_literal-clause-says_lone c =
    λ text O T on t.
    let g = given_of text c.args.words.now c.args.given in
    let s = view c.args.m O in
    let l = ap (among literals) (sym c.kind_at-kind.ensures.value) ∙ sym c.is_literal.ensures ∙ c.if-is_literal.true in
    says_same (lone_literal g T s c.requires.1 on l) (c.literal.ensures.says_literal text O t (literal_here g T s c.requires.1 l))

pub returns-clause-says_lone : goal.returns-clause-says_lone
returns-clause-says_lone c =
    λ text O T on t.
    let g = given_of text c.args.words.now c.args.given in
    let s = view c.args.m O in
    let no : among literals (kind_at c.args.words.now c.args.m.at c.args.m.half) ≡ false = ap (among literals) (sym c.kind_at-kind.ensures.value) ∙ sym c.is_literal.ensures ∙ c.if-is_literal.false in
    says_same (lone_keyword g T s c.requires.1 on (lone_word (kind_at c.args.words.now c.args.m.at c.args.m.half) (whole_kind c.args.words.now (c.args.m.at + 1)) c.requires.1 (λ e. c.if-kind-eq-WORD.false (c.kind_at-kind.ensures.value ∙ e)) no)) (c.keyword.ensures.by_index text c.args.names.now O)
