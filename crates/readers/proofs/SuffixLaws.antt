-- Postfix marks as their reader takes them: what stands first, and the loop over the marks.
use mathlib.Core.Path.{◌≡◌, refl, sym, ap, ◌∙◌}
use mathlib.Core.Bool.{true, false, not}
use mathlib.Core.List.{List}
use Prim.Native.Nat.{ℕ, suc, ◌+◌, ◌-◌, ◌<◌}
use native.Mathlib.Omega.{arith}
use lib.Dec.{eqb}
use lib.ListN.{length}
use Rattle.words.specs.Test.{◌and◌, ◌or◌}
use Rattle.words.specs.Kind.{LBrack, Question, Bang}
use Rattle.words.specs.Ahead.{starter}
use Rattle.keys.specs.Placed.{Placed}
use Rattle.rules.proofs.TokenLaws.{both_true}
use Rattle.rules.specs.State as rule
use Rattle.rules.specs.State.{State, Result, Reader, then, on_line, first, turns}
use Rattle.rules.specs.Primary.{primary}
use Rattle.rules.specs.Postfix.{suffixed, suffix, postfix_from, postfix}
use Rattle.marks.specs.State.{view, given_of}
use Rattle.marks.specs.Laid.{Was, was, Stands}
use Rattle.marks.specs.Says.{Says}
use Rattle.marks.proofs.Answers.{then_read_lem, says_read, says_stops}
use Rattle.marks.proofs.MarkLaws.{kind_inside}
use Rattle.parts.proofs.PostfixLaws.{postfix_more, postfix_end}
use Rattle.parts.proofs.Turns.{TreeTurn}
use Rattle.marks.specs.declared.state.Given.{Given}
use Rattle.marks.specs.declared.state.Mark.{Mark}
use Rattle.marks.specs.declared.state.Begin.{Begin}
use Rattle.marks.specs.Told.{Answer}

-- A mark that follows lies inside the list.
pub suffixed_inside : (g : rule.Given) (s : State) → suffixed g s ≡ true → s.at < length g.words
suffixed_inside g s h =
    kind_inside (λ k. eqb k Bang or (eqb k Question and not (starter g.words (s.at + 1))) or eqb k LBrack) g.words s.at s.half refl (both_true (on_line g s) _ h).1

module _ (text W : List ℕ) (given : Given) (T : Reader) where
  -- What the reading is given.
  abbrev g : rule.Given
  g = given_of text W given

  -- The rule: what stands first, and its marks.
  pub postfix_is : (s : State) → postfix g T s ≡ then (primary g T s) (λ t q. postfix_from g T (first g s) (turns g) t q)
  unfolding postfix
  postfix_is s = refl

  -- Where the loop stands at its head.
  abbrev Turn : ℕ → Was → Result Placed → ℕ → Mark → (N M O : List ℕ) → Type 0
  Turn b B x high p N M O = TreeTurn (length W) B (postfix_from g T b) x high p N M O

  -- The loop's head behind a tree.
  pub marks_begin : {B : Was} {u : Placed} {high : ℕ} {p : Mark} {N M O : List ℕ} (b : ℕ) → Stands 0 B u high p N M O
      → Turn b B (postfix_from g T b (turns g) u (view p O)) high p N M O
  marks_begin {u = u} b s = record { tree = u; fuel = length W; enough = omega arith; is = refl; stands = s }

  -- The loop that any tree begins is at its head with what was read first.
  pub marks_turn : (m : Mark) (N M O : List ℕ) {N' M' O' N₂ M₂ O₂ : List ℕ} {a : Answer} {b : Begin} {high : ℕ} {p : Mark}
      → Says 0 (was m N M O) (primary g T (view m O)) a N' M' O' → a.why ≡ 0
      → b.first ≡ first g (view m O) → b.name ≡ m.named
      → ((B : Was) (u : Placed) → Stands 0 B u a.high a.m N' M' O' → b.name ≡ B.named
      → Turn b.first B (postfix_from g T b.first (turns g) u (view a.m O')) high p N₂ M₂ O₂)
      → Turn b.first (was m N M O) (postfix g T (view m O)) high p N₂ M₂ O₂
  marks_turn m N M O {N'} {M'} {O'} {N₂} {M₂} {O₂} {a} {b} says z first_is name_is f =
      let got = says.done z in
      let w = f (was m N M O) got.tree got.stands name_is in
      record {
        tree = w.tree;
        fuel = w.fuel;
        enough = w.enough;
        is = postfix_is (view m O) ∙ then_read_lem (λ t q. postfix_from g T (first g (view m O)) (turns g) t q) got.is
            ∙ ap (λ (y : ℕ). postfix_from g T y (turns g) got.tree (view a.m O')) (sym first_is) ∙ w.is;
        stands = w.stands;
      }

  module _ (b : ℕ) {B : Was} {x : Result Placed} {high : ℕ} {p : Mark} {N M O : List ℕ} (w : Turn b B x high p N M O) where
    -- No mark follows: what stands is what was read.
    pub marks_end : suffixed g (view p O) ≡ false → Says 0 B x (record { why = 0; high = high; m = p }) N M O
    marks_end h = says_read (record { tree = w.tree; is = w.is ∙ postfix_end g T b w.tree (view p O) w.fuel h; stands = w.stands })

    module _ (h : suffixed g (view p O) ≡ true) {a : Answer} {N' M' O' : List ℕ} (says : Says 0 B (suffix g T b w.tree (view p O)) a N' M' O') where
      -- One mark more.
      turned : x ≡ then (suffix g T b w.tree (view p O)) (λ u q. postfix_from g T b w.fuel u q)
      turned = w.is ∙ postfix_more g T b w.tree (view p O) w.fuel h

      -- The mark is refused.
      pub mark_refused : (a.why ≡ 0 → ⊥) → Says 0 B x a N' M' O'
      mark_refused z = says_stops (λ u q. postfix_from g T b w.fuel u q) says z turned

      -- The mark is taken, and the loop is at its head again.
      pub marks_again : a.why ≡ 0 → p.at < a.m.at → Turn b B x a.high a.m N' M' O'
      marks_again z j =
          let got = says.done z in
          let i : p.at < length W = suffixed_inside g (view p O) h in
          let less : w.fuel ≡ suc (w.fuel - 1) = omega (arith, w.enough) in
          record {
            tree = got.tree;
            fuel = w.fuel - 1;
            enough = omega (arith, w.enough);
            is = turned ∙ then_read_lem (λ u q. postfix_from g T b w.fuel u q) got.is ∙ ap (λ (n : ℕ). postfix_from g T b n got.tree (view a.m O')) less;
            stands = got.stands;
          }
