-- The node about the type, if the mark follows.
use mathlib.Core.List.{[]}
use Rattle.marks.specs.Laid.{run_in}
use Rattle.marks.proofs.BuiltLaws.{built_one}
use Rattle.parts.proofs.PostfixLaws.{shape_array}
use Rattle.parts.proofs.postfix.array.Goals as goal

pub returns-clause-makes_array : goal.returns-clause-makes_array
returns-clause-makes_array c =
    λ text B t M O st n.
    c.bracketed.ensures.makes_closed text B (run_in 0 t) 7 t M O (rw c.one.ensures (built_one [] st.is_node st.high_is st.laid)) n (shape_array st.is_node)
