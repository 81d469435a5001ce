-- The list behind the bracket.
use mathlib.Core.Path.{subst}
use Rattle.marks.specs.Node.{MakesList}
use Rattle.marks.specs.Told.{told}
use Rattle.marks.specs.declared.state.Mark.{Mark}
use Rattle.tuples.proofs.tuple.tuple_node.Goals as goal

pub returns-clause-makes_list : goal.returns-clause-makes_list
returns-clause-makes_list c =
    subst (λ (x : Mark). MakesList c.args.words.now c.args.given c.args.b 19 c.args.k x c.args.nodes.now (told c.put_list.result) c.put_list.new.nodes) c.next.ensures c.put_list.ensures.makes_list
