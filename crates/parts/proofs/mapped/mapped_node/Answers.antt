-- Past the semicolon, the closing mark, then the node.
use mathlib.Core.List.{[]}
use native.Mathlib.Omega.{arith}
use lib.ListN.{length}
use Rattle.keys.specs.Placed.{tree}
use Rattle.rules.specs.State.{make, end}
use Rattle.marks.specs.State.{given_of, Moved}
use Rattle.marks.proofs.Answers.{says_same}
use Rattle.marks.proofs.MarkLaws.{is_here}
use Rattle.marks.proofs.StepLaws.{built_at, moved_taken, moved_then, inside_moved}
use Rattle.parts.proofs.MappingLaws.{curly_taken}
use Rattle.parts.proofs.mapped.mapped_node.Goals as goal

pub returns-clause-makes_closed : goal.returns-clause-makes_closed
returns-clause-makes_closed c =
    let moved : Moved (length c.args.words.now) c.args.m c.next.result = moved_then c.past-p.ensures.moved (moved_taken c.next.ensures (inside_moved c.past-p.ensures.moved) (omega arith)) in
    λ text B t tag p M O b n s.
    says_same
    (curly_taken text c.args.words.now c.args.given c.args.m c.past-p.result O (λ q. make (given_of text c.args.words.now c.args.given) [] (tree tag c.args.b.first (end (given_of text c.args.words.now c.args.given) q) p) q) c.past-p.ensures.value
    c.next.result c.next.ensures (is_here c.args.words.now c.past-p.result c.kind_at.ensures.value c.if-kind_at-ne-R_CURLY.false))
    (c.put.ensures.makes text 0 B t tag p M O (built_at c.args.m c.next.result moved.used_is moved.named_is moved.noted_is b) n s)
