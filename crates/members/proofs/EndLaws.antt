-- A member's end, and the node of a member without lists behind it.
use mathlib.Core.Path.{◌≡◌}
use mathlib.Core.List.{List, []}
use Prim.Native.Nat.{ℕ}
use Rattle.keys.specs.Placed.{tree}
use Rattle.rules.specs.State.{end, make}
use Rattle.marks.specs.State.{view, given_of}
use Rattle.marks.specs.Node.{Makes}
use Rattle.marks.proofs.Answers.{says_same, says_stop}
use Rattle.members.specs.Object.{SaysStep, ends_member, MakesMember}
use Rattle.marks.specs.declared.state.Given.{Given}
use Rattle.marks.specs.declared.state.Mark.{Mark}
use Rattle.marks.specs.declared.state.Begin.{Begin}
use Rattle.marks.specs.declared.state.Kids.{Kids}
use Rattle.marks.specs.Told.{Answer}

-- The end of a member over children that stand since B.
module _ (W : List ℕ) (given : Given) (b : Begin) (choices : ℕ) (k : Kids) (m : Mark) (N : List ℕ) (e : Answer)
    (ends : (text O : List ℕ) (given : Given) → SaysStep (ends_member (given_of text W given) (view m O)) m O e O) where
  -- It is refused.
  pub member_stops : (e.why ≡ 0 → ⊥) → MakesMember W given b choices k m N e N
  member_stops stop text B t sort p M O d n s =
      let g = given_of text W given in
      says_stop stop ((ends text O given).refused stop (λ q. make g [] (tree sort b.first (end g q) p) q))

  -- It is passed, and the node is put.
  pub member_puts : {a : Answer} {N' : List ℕ} → e.why ≡ 0 → Makes W given b choices k e.m N a N' → MakesMember W given b choices k m N a N'
  member_puts go makes text B t sort p M O d n s =
      let g = given_of text W given in
      says_same ((ends text O given).done go (λ q. make g [] (tree sort b.first (end g q) p) q))
      (makes text 6 B t sort p M O (record { laid = (ends text O given).kept go B t N M d.laid; first_is = d.first_is; high_is = d.high_is }) n s)
