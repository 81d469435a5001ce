-- No `]`, or the node past it.
use Rattle.marks.specs.Told.{told}
use mathlib.Core.Path.{refl}
use mathlib.Core.List.{[]}
use Rattle.rules.specs.State.{make, end}
use Rattle.keys.specs.Placed.{tree}
use Rattle.marks.specs.State.{given_of, view}
use Rattle.marks.proofs.Answers.{says_same}
use Rattle.primaries.proofs.PrimaryLaws.{eq_at}
use Rattle.marks.proofs.LeafLaws.{makes_at}
use Rattle.parts.proofs.RingLaws.{expect_yes}
use Rattle.parts.proofs.postfix.bracketed.Goals as goal

pub returns-clause-makes_closed : goal.returns-clause-makes_closed
returns-clause-makes_closed c =
    λ text B t tag p M O d n z.
    let g = given_of text c.args.words.now c.args.given in
    let s = view c.args.m O in
    says_same (expect_yes g 19 s (λ q. make g [] (tree tag c.args.b.first (end g q) p) q) (eq_at 19 c.kind_at.ensures.value c.if-kind_at-ne-R_BRACK.false))
    (makes_at c.args.words.now c.args.given c.args.b c.args.choices c.args.nodes.now (told c.put.result) c.put.new.nodes refl c.next.ensures c.put.ensures.makes text 0 B t tag p M O d n z)
