-- What an answer says, step by step: refused below, refused here, read, handed on.
use mathlib.Core.Path.{◌≡◌, refl, sym, ap, ◌∙◌, subst}
use mathlib.Core.List.{List}
use Prim.Native.Nat.{ℕ, suc}
use native.Mathlib.Omega.{arith}
use Rattle.keys.specs.Placed.{Placed}
use Rattle.rules.specs.State.{State, Result, read, refuse, then}
use Rattle.marks.specs.State.{view}
use Rattle.marks.specs.Laid.{Was}
use Rattle.marks.specs.Says.{Got, Says}
use Rattle.marks.specs.declared.state.Mark.{Mark}
use Rattle.marks.specs.Told.{Answer}

-- ---- Results

-- What is read where the first rule reads.
pub then_read_lem : {A B : Type 0} {x : Result A} {a : A} {s : State} (on : A → State → Result B) → x ≡ read a s → then x on ≡ on a s
then_read_lem {A} {B} on e = ap (λ (y : Result A). then y on) e

-- What is refused where the first rule refuses.
pub then_refused : {A B : Type 0} {x : Result A} {n i h : ℕ} (on : A → State → Result B) → x ≡ refuse n i h → then x on ≡ refuse n i h
then_refused {A} {B} on e = ap (λ (y : Result A). then y on) e

pub then_then : {A B C : Type 0} (x : Result A) (f : A → State → Result B) (g : B → State → Result C) → then (then x f) g ≡ then x (λ a s. then (f a s) g)
then_then (read a s) f g = refl
then_then (refuse n i h) f g = refl

-- ---- Trees

module _ {c : ℕ} {B : Was} {N M O : List ℕ} where
  -- A tree was read.
  pub says_read : {x : Result Placed} {m : Mark} {high : ℕ} → Got c B x high m N M O → Says c B x (record { why = 0; high = high; m = m }) N M O
  says_read g = record { done = λ _. g; refused = λ h. absurd (h refl) }

  -- The same answer, of an equal reading.
  pub says_same : {x y : Result Placed} {a : Answer} → y ≡ x → Says c B x a N M O → Says c B y a N M O
  says_same {x} {y} {a} e w = subst (λ (z : Result Placed). Says c B z a N M O) (sym e) w

  -- The same answer under another name.
  pub says_as : {x : Result Placed} {a b : Answer} → b ≡ a → Says c B x a N M O → Says c B x b N M O
  says_as {x} {a} {b} e w = subst (λ (z : Answer). Says c B x z N M O) (sym e) w

  -- A refusal here.
  pub says_refused : {x : Result Placed} {m : Mark} {high : ℕ} (k : ℕ) → x ≡ refuse (suc k) m.at m.half → Says c B x (record { why = suc k; high = high; m = m }) N M O
  says_refused k e = record { done = λ h. absurd (omega arith); refused = λ _. e }

  -- Any refusal whose number and place are those.
  pub says_stop : {x : Result Placed} {a : Answer} → (a.why ≡ 0 → ⊥) → x ≡ refuse a.why a.m.at a.m.half → Says c B x a N M O
  says_stop h e = record { done = λ z. absurd (h z); refused = λ _. e }

  -- The answer is handed on: the same tree.
  pub says_passed : {x y : Result Placed} {a : Answer} (w : Says c B x a N M O) (e : a.why ≡ 0) → y ≡ read (w.done e).tree (view a.m O) → Says c B y a N M O
  says_passed w e h = record { done = λ _. record { tree = (w.done e).tree; is = h; stands = (w.done e).stands }; refused = λ n. absurd (n e) }

-- Refused below: a rule that begins with the refused one is refused alike.
pub says_stops : {c d : ℕ} {B D : Was} {x y : Result Placed} {a : Answer} {N M O N' M' O' : List ℕ} (on : Placed → State → Result Placed)
    → Says c B x a N M O → (a.why ≡ 0 → ⊥) → y ≡ then x on → Says d D y a N' M' O'
says_stops on w e h = record { done = λ z. absurd (e z); refused = λ _. h ∙ then_refused on (w.refused e) }
