-- No `)`; a node about the type; or the type itself.
use mathlib.Core.Path.{ap}
use Rattle.marks.specs.State.{given_of, view}
use Rattle.marks.proofs.Answers.{says_same}
use Rattle.primaries.proofs.PrimaryLaws.{eq_at, shape_parens, parens_kept}
use Rattle.marks.proofs.LeafLaws.{one_kid, about_says}
use Rattle.marks.specs.declared.state.Mark.{Mark}
use Rattle.marks.specs.Told.{told}
use Rattle.primaries.proofs.primary.parens_node.Goals as goal

pub returns-then-given-clause-makes_parens : goal.returns-then-given-clause-makes_parens
returns-then-given-clause-makes_parens c =
    λ text B t M O st n.
    let g = given_of text c.args.words.now c.args.given in
    let s = view c.args.m O in
    says_same (parens_kept g c.args.b.first t s (eq_at 21 c.kind_at.ensures.value c.if-kind_at-ne-R_PAREN.false) c.if-given.true)
    (about_says c.args.words.now c.args.given c.args.b 4 c.args.m c.args.nodes.now (told c.put_about.result) c.put_about.new.nodes text M O (ap (λ (x : Mark). one_kid x.used c.args.high) c.next-q.ensures) c.next-q.ensures st n (shape_parens st.is_node) c.put_about.ensures.makes_about)
