-- The node of a keyword, whose number is its place in the list.
use mathlib.Core.Path.{ap, ◌∙◌, subst}
use Prim.Native.Nat.{ℕ, ◌+◌, ◌*◌}
use Rattle.keys.specs.Store.{done}
use Rattle.rules.specs.List.{position}
use Rattle.keys.specs.Placed.{number}
use Rattle.marks.specs.State.{given_of, view}
use Rattle.marks.specs.Laid.{Shape}
use Rattle.marks.proofs.Answers.{says_same}
use Rattle.primaries.proofs.PrimaryLaws.{shape_keyword, keyword_is}
use Rattle.marks.proofs.LeafLaws.{plain_says}
use Rattle.rules.specs.Primary as rule
use Rattle.marks.specs.Told.{told}
use Rattle.primaries.proofs.primary.keyword.Goals as goal

pub returns-clause-by_index : goal.returns-clause-by_index
returns-clause-by_index c =
    λ text M O.
    let g = given_of text c.args.words.now c.args.given in
    let s = view c.args.m O in
    says_same (keyword_is g s)
    (plain_says c.args.words.now c.args.given c.at.result (2 + 64 * c.keyword_number.result) c.args.m c.args.nodes.now (told c.put.result) c.put.new.nodes c.at.ensures.first_value.0 c.at.ensures.first_value.1 c.none.ensures c.next.ensures
    (subst (λ (x : ℕ). Shape 0 2 (number x) done (2 + 64 * c.keyword_number.result)) (c.keyword_number.ensures.value ∙ ap (λ (k : ℕ). position k rule.keywords) c.kind_at.ensures.value) (shape_keyword c.keyword_number.result))
    c.put.ensures.makes
    text M O)
