-- References, typeof and import: the rule once the names and the arguments behind them were read.
use mathlib.Core.Path.{◌≡◌, sym, ap, ◌∙◌}
use mathlib.Core.List.{List, [], ◌∷◌}
use Prim.Native.Nat.{ℕ}
use Rattle.keys.specs.Placed.{Placed, Opt}
use Rattle.rules.specs.State.{Given, State, Reader, read, first, end, make}
use Rattle.rules.specs.List.{count}
use Rattle.rules.specs.Arguments.{arguments}
use Rattle.parts.specs.Arguments.{Naming, name_count, named_node, naming_head}
use Rattle.primaries.specs.Onward.{name_at}
use Rattle.parts.proofs.NamingLaws.{name_at_lem, behind_names}
use Rattle.marks.proofs.Answers.{then_read_lem}

-- Its names and its arguments were read; b is its first byte.
pub named_read : (g : Given) (T : Reader) (s : State) {b : ℕ} {x : Naming} {q : State} {ts : Opt (List Placed)} {p : State} → b ≡ first g s
    → naming_head g s ≡ read x q → arguments g T q ≡ read ts p → name_at g T s ≡ make g (name_count x ∷ count ts ∷ []) (named_node b (end g p) x ts) p
named_read g T s {b} {x} {q} {ts} {p} h i k =
    name_at_lem g T s ∙ then_read_lem (behind_names g T (first g s)) i ∙ then_read_lem (λ ts p. make g (name_count x ∷ count ts ∷ []) (named_node (first g s) (end g p) x ts) p) k
    ∙ ap (λ (y : ℕ). make g (name_count x ∷ count ts ∷ []) (named_node y (end g p) x ts) p) (sym h)
