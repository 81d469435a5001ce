-- Postfix marks step by step: what the rules come to by what their tests answer, and the shapes of their nodes.
use mathlib.Core.Path.{◌≡◌, refl}
use mathlib.Core.Bool.{true, false}
use mathlib.Core.List.{[]}
use Prim.Native.Nat.{ℕ, suc, ◌+◌}
use native.Mathlib.Omega.{arith}
use Rattle.words.specs.Ahead.{starter}
use Rattle.words.specs.Kind.{Bang, Question}
use Rattle.keys.specs.Placed as node
use Rattle.keys.specs.Placed.{Placed, Spelling, Opt, spell, join, maybe, absent, present}
use Rattle.keys.specs.Store.{done, ◌⊕◌}
use Rattle.rules.specs.State.{Given, State, read, Reader, then, next, stands, end, make}
use Rattle.rules.specs.Postfix as rule
use Rattle.marks.specs.Laid.{run_in, IsNode, node, Shape}
use Rattle.parts.specs.Mapped.{close_square}
use Rattle.marks.proofs.ShapeLaws.{packed_node}

-- ---- Postfix

module _ (g : Given) (T : Reader) (b : ℕ) (t : Placed) (s : State) where
  pub suffix_bang : stands g Bang s ≡ true → rule.suffix g T b t s ≡ make g [] (node.non_null b (end g (next s)) t) (next s)
  unfolding rule.suffix
  suffix_bang e = rw e

  pub suffix_asked : stands g Bang s ≡ false → stands g Question s ≡ true → rule.suffix g T b t s ≡ make g [] (node.asked b (end g (next s)) t) (next s)
  unfolding rule.suffix
  suffix_asked e f = rw (e, f)

  pub suffix_array : stands g Bang s ≡ false → stands g Question s ≡ false → starter g.words (s.at + 1) ≡ false
      → rule.suffix g T b t s ≡ close_square g (next s) λ q. make g [] (node.array b (end g q) t) q
  unfolding rule.suffix rule.bracketed
  suffix_array e f h = rw (e, f, h)

  pub suffix_index : stands g Bang s ≡ false → stands g Question s ≡ false → starter g.words (s.at + 1) ≡ true
      → rule.suffix g T b t s ≡ then (T true (next s)) (λ x q. close_square g q λ p. make g [] (node.indexed b (end g p) t x) p)
  unfolding rule.suffix rule.bracketed
  suffix_index e f h = rw (e, f, h)

  pub postfix_more : (n : ℕ) → rule.suffixed g s ≡ true → rule.postfix_from g T b (suc n) t s ≡ then (rule.suffix g T b t s) (λ u q. rule.postfix_from g T b n u q)
  unfolding rule.postfix_from
  postfix_more n e = rw e

  pub postfix_end : (n : ℕ) → rule.suffixed g s ≡ false → rule.postfix_from g T b (suc n) t s ≡ read t s
  unfolding rule.postfix_from
  postfix_end n e = rw e

-- ---- Shapes

pub shape_array : {u : Placed} → IsNode 0 u → Shape 0 7 u (run_in 0 u) 7
shape_array n = record { same = refl; choices_are = omega (arith, packed_node done n); allowed_is = tt }

pub shape_non_null : {u : Placed} → IsNode 0 u → Shape 0 23 u (run_in 0 u) 23
shape_non_null n = record { same = refl; choices_are = omega (arith, packed_node done n); allowed_is = tt }

pub shape_asked : {u : Placed} → IsNode 0 u → Shape 0 24 u (run_in 0 u) 24
shape_asked n = record { same = refl; choices_are = omega (arith, packed_node done n); allowed_is = tt }

pub shape_indexed : {u x : Placed} → IsNode 0 u → IsNode 0 x → Shape 0 8 (join u x) (run_in 0 u ⊕ run_in 0 x) 8
shape_indexed (node a) (node b) = record { same = refl; choices_are = refl; allowed_is = tt }
