-- A member's choices have whether a `?` stood after the label.
use mathlib.Core.Path.{ap, ◌∙◌, subst}
use Prim.Native.Nat.{ℕ, ◌+◌, ◌-◌, ◌*◌}
use Rattle.marks.specs.Told.{told}
use Rattle.marks.specs.Node.{Makes}
use Rattle.marks.proofs.MarkLaws.{bit_is}
use Rattle.tuples.proofs.tuple.member_node.Goals as goal

pub returns-clause-makes_about : goal.returns-clause-makes_about
returns-clause-makes_about c =
    subst (λ (n : ℕ). Makes c.args.words.now c.args.given (record { first = c.args.l.first; name = c.args.l.b.name }) n (record { first = c.args.m.used - 1; count = 1; high = c.args.high }) c.args.m c.args.nodes.now (told c.put_about.result) c.put_about.new.nodes)
    (ap (λ (n : ℕ). 22 + 64 * n) (c.from.ensures ∙ bit_is c.args.l.asked)) c.put_about.ensures.makes_about
