-- Two readings side by side: a relation between their results, and how the steps that all rules are made of keep it.
use mathlib.Core.Path.{◌≡◌, refl, ap, ap₂, ◌∙◌}
use mathlib.Core.Bool.{Bool, true, false}
use mathlib.Core.List.{List, [], ◌∷◌, ◌++◌}
use Prim.Native.Nat.{ℕ, ◌+◌, min}
use native.Mathlib.Omega.{arith}
use borrow.Author.Tests.{ltb-true, ltb-false}
use lib.Dec.{leb, ltb, eqb}
use lib.ListN.{length}
use Rattle.words.specs.Limits.{tallest, most_notes, most_entered}
use Rattle.words.specs.Test.{◌or◌, test}
use Rattle.keys.specs.Form.{Value, spelt, height}
use Rattle.keys.specs.Limits.{no_room}
use Rattle.keys.specs.Placed as node
use Rattle.keys.specs.Placed.{Placed, bare}
use Rattle.keys.proofs.BitsLaws.{clash}
use Rattle.rules.specs.Refusal.{unexpected, many_notes}
use Rattle.rules.specs.Notes.{Note}
use Rattle.rules.specs.State.{Given, State, Result, read, refuse, refused, then, next, past, stands, kind, kind_after, on_line, next_on_line, spelling, overlong, tallied, entering, make, report, report_if}
use Rattle.rules.specs.Infer.{opened}
use Rattle.rules.specs.Like.{Like, note_numbers}
use Rattle.rules.proofs.LikeWords.{kind_at_lem, line_at}
use Rattle.rules.proofs.Gives.{itself}
use Rattle.rules.proofs.LikeValues.{Pair, test_like, numbers_more, numbers_length}

-- How two readings are compared: whether exactly, and the counts of type rules entered that they are reckoned from.
pub record Pace : Type 0 where
  pub exact : Bool
  pub one : ℕ
  pub other : ℕ

-- Two counts have grown by the same number of type rules, each up to the limit.
pub record Grown (a b x y : ℕ) : Type 0 where
  pub by : ℕ
  pub one : x ≡ min (a + by) most_entered
  pub other : y ≡ min (b + by) most_entered

-- By one more.
pub grown_more : {a b x y : ℕ} → Grown a b x y
    → Grown a b (test (ltb x most_entered) (λ _. x + 1) (λ _. x)) (test (ltb y most_entered) (λ _. y + 1) (λ _. y))
grown_more {a} {b} {x} {y} e = record { by = e.by + 1; one = more a e.one; other = more b e.other }
  where
    more : (a : ℕ) {x : ℕ} → x ≡ min (a + e.by) most_entered → test (ltb x most_entered) (λ _. x + 1) (λ _. x) ≡ min (a + (e.by + 1)) most_entered
    more a {x} i = step (ltb x most_entered) refl
      where
        step : (b : Bool) → ltb x most_entered ≡ b → test b (λ _. x + 1) (λ _. x) ≡ min (a + (e.by + 1)) most_entered
        step true j = omega (arith, ltb-true x most_entered j)
        step false j = omega (arith, ltb-false x most_entered j)

-- Two readings stand at the same cursor and have entered as many type rules; where exact, with as many nodes in use, diagnostics of the same numbers and as many trials open.
pub record Near (pace : Pace) (s t : State) : Type 0 where
  pub at : s.at ≡ t.at
  pub half : s.half ≡ t.half
  pub entered : Grown pace.one pace.other s.tally.entered t.tally.entered
  pub nodes : pace.exact ≡ true → s.nodes ≡ t.nodes
  pub notes : pace.exact ≡ true → note_numbers s.notes ≡ note_numbers t.notes
  pub trials : pace.exact ≡ true → s.tally.trials ≡ t.tally.trials

-- Two such states.
pub record Abreast (pace : Pace) : Type 0 where
  pub one : State
  pub other : State
  pub near : Near pace one other

-- Both read alike values; or both stop with the same number at the same place. Where not exact, one may stop alone.
pub data Beside (pace : Pace) {A : Type 0} (shape : A → Placed) : Result A → Result A → Type 0 where
  both : (v : Pair shape) (x : Abreast pace) → Beside pace shape (read v.one x.one) (read v.other x.other)
  stopped : {n i h : ℕ} → Beside pace shape (refuse n i h) (refuse n i h)
  left_out : {n i h : ℕ} {r : Result A} → pace.exact ≡ false → Beside pace shape (refuse n i h) r
  right_out : {n i h : ℕ} {r : Result A} → pace.exact ≡ false → Beside pace shape r (refuse n i h)

-- What two readings are given: like lists; where exact, also as much room and as many records.
pub record Twins (pace : Pace) (g h : Given) : Type 0 where
  pub like : Like g h
  pub room : pace.exact ≡ true → g.room ≡ h.room
  pub records : pace.exact ≡ true → g.records ≡ h.records

-- Two rules agree: from the same cursor on they read alike.
abbrev pub Agree : Pace → {A : Type 0} → (A → Placed) → (State → Result A) → (State → Result A) → Type 0
Agree pace shape rule rule' = (x : Abreast pace) → Beside pace shape (rule x.one) (rule' x.other)

-- ---- Steps
module _ {pace : Pace} where
  -- Both past their token.
  abbrev pub nexts : Abreast pace → Abreast pace
  nexts x = record { one = next x.one; other = next x.other; near = record { at = ap (λ (i : ℕ). i + 1) x.near.at; half = refl; entered = x.near.entered; nodes = x.near.nodes; notes = x.near.notes; trials = x.near.trials } }

  -- Both enter one type rule more.
  abbrev pub enterings : Abreast pace → Abreast pace
  enterings x =
      record {
        one = entering x.one;
        other = entering x.other;
        near = record {
          at = x.near.at;
          half = x.near.half;
          entered = grown_more x.near.entered;
          nodes = x.near.nodes;
          notes = x.near.notes;
          trials = x.near.trials;
        };
      }

  -- Both with one more trial open.
  abbrev pub openeds : Abreast pace → Abreast pace
  openeds x =
      record {
        one = opened true x.one;
        other = opened true x.other;
        near = record {
          at = x.near.at;
          half = x.near.half;
          entered = x.near.entered;
          nodes = x.near.nodes;
          notes = x.near.notes;
          trials = λ i. ap (λ (n : ℕ). n + 1) (x.near.trials i);
        };
      }

  -- Both stand as at x, or as at q, with the type rules entered by q and the trials open at p.
  abbrev pub untried : (p q x : Abreast pace) → Abreast pace
  untried p q x =
      record {
        one = tallied x.one q.one.tally.entered p.one.tally.trials;
        other = tallied x.other q.other.tally.entered p.other.tally.trials;
        near = record { at = x.near.at; half = x.near.half; entered = q.near.entered; nodes = x.near.nodes; notes = x.near.notes; trials = p.near.trials };
      }

  -- What both see of their tokens there is the same.
  pub here : {A : Type 0} {f f' : ℕ → ℕ → A} → ((i k : ℕ) → f i k ≡ f' i k) → (x : Abreast pace) → f x.one.at x.one.half ≡ f' x.other.at x.other.half
  here {f' = f'} e x = e x.one.at x.one.half ∙ λ d. f' (x.near.at d) (x.near.half d)

  module _ {A : Type 0} {shape : A → Placed} where
    pub refusal : {n : ℕ} (x : Abreast pace) → Unit {0} → Beside pace shape (refused n x.one) (refused n x.other)
    refusal {n} x u = rw (x.near.at, x.near.half) stopped

    -- A test that both answer alike.
    pub beside_test : {b c : Bool} {x y x' y' : Unit {0} → Result A} → b ≡ c → ((u : Unit {0}) → Beside pace shape (x u) (x' u)) → ((u : Unit {0}) → Beside pace shape (y u) (y' u))
        → Beside pace shape (test b x y) (test c x' y')
    beside_test e f h = test_like (Beside pace shape) e f h

    -- A limit, which both meet alike where exact.
    pub beside_limit : {b c : Bool} (n : ℕ) (x : Abreast pace) {y y' : Unit {0} → Result A} → (pace.exact ≡ true → b ≡ c) → ((u : Unit {0}) → Beside pace shape (y u) (y' u))
        → Beside pace shape (test b (λ _. refused n x.one) y) (test c (λ _. refused n x.other) y')
    beside_limit {b} {c} n x {y} {y'} e r = by b c pace.exact refl e
      where
        by : (b c e : Bool) → pace.exact ≡ e → (pace.exact ≡ true → b ≡ c) → Beside pace shape (test b (λ _. refused n x.one) y) (test c (λ _. refused n x.other) y')
        by true true k i j = refusal x tt
        by true false true i j = let z = j i in clash (cc)
        by true false false i j = left_out i
        by false true true i j = let z = j i in clash (cc)
        by false true false i j = right_out i
        by false false k i j = r tt

  pub beside_then : {A B : Type 0} {shape : A → Placed} {shape' : B → Placed} {r r' : Result A} (on on' : A → State → Result B) → Beside pace shape r r'
      → ((v : Pair shape) (x : Abreast pace) → Beside pace shape' (on v.one x.one) (on' v.other x.other)) → Beside pace shape' (then r on) (then r' on')
  beside_then on on' (both v x) f = f v x
  beside_then on on' stopped f = stopped
  beside_then on on' (left_out e) f = left_out e
  beside_then on on' (right_out e) f = right_out e

-- ---- Tokens
module _ {pace : Pace} {g h : Given} (w : Twins pace g h) where
  pub same_kind : (x : Abreast pace) → kind g x.one ≡ kind h x.other
  same_kind x = here (kind_at_lem w.like) x

  pub same_stands : (k : ℕ) (x : Abreast pace) → stands g k x.one ≡ stands h k x.other
  same_stands k x = ap (λ (j : ℕ). eqb j k) (same_kind x)

  pub same_after : (n : ℕ) (x : Abreast pace) → kind_after g n x.one ≡ kind_after h n x.other
  same_after n x = here (λ i _. w.like.kinds (i + n)) x

  pub same_line_lem : (x : Abreast pace) → on_line g x.one ≡ on_line h x.other
  same_line_lem x = here (line_at w.like) x

  pub same_next_line : (x : Abreast pace) → next_on_line g x.one ≡ next_on_line h x.other
  same_next_line x = same_line_lem (nexts x)

  -- The spellings there.
  abbrev pub spelled : Abreast pace → Pair node.spell
  spelled x =
      record { one = spelling g x.one; other = spelling h x.other; same = ap spelt (here (λ i _. w.like.bytes i) x) }

  pub near_past : (k : ℕ) (x : Abreast pace) → Near pace (past g k x.one) (past h k x.other)
  near_past k x = test_like (Near pace) (same_stands k x) (λ _. (nexts x).near) λ _. x.near

  -- Both past a mark, if it stands there.
  abbrev pub pasts : ℕ → Abreast pace → Abreast pace
  pasts k x = record { one = past g k x.one; other = past h k x.other; near = near_past k x }

  -- Both with one diagnostic more.
  noted : (m n : Note) → m.number ≡ n.number → Abreast pace → Abreast pace
  noted m n e x =
      record {
        one = record { at = x.one.at; half = x.one.half; nodes = x.one.nodes; notes = x.one.notes ++ (m ∷ []); tally = x.one.tally };
        other = record { at = x.other.at; half = x.other.half; nodes = x.other.nodes; notes = x.other.notes ++ (n ∷ []); tally = x.other.tally };
        near = record {
          at = x.near.at;
          half = x.near.half;
          entered = x.near.entered;
          nodes = x.near.nodes;
          notes = λ i. numbers_more x.one.notes x.other.notes m n (x.near.notes i) e;
          trials = x.near.trials;
        };
      }

  module _ {A : Type 0} {shape : A → Placed} where
    -- A mark that must stand there.
    pub beside_expect : (k : ℕ) (x : Abreast pace) {y y' : Unit {0} → Result A} → ((u : Unit {0}) → Beside pace shape (y u) (y' u))
        → Beside pace shape (test (stands g k x.one) y (λ _. refused unexpected x.one)) (test (stands h k x.other) y' (λ _. refused unexpected x.other))
    beside_expect k x f = beside_test (same_stands k x) f (refusal x)

    pub beside_report : (m n : Note) → m.number ≡ n.number → (x : Abreast pace) (on on' : State → Result A) → Agree pace shape on on' → Beside pace shape (report g m x.one on) (report h n x.other on')
    unfolding noted
    beside_report m n e x on on' f = beside_limit many_notes x full λ _. f (noted m n e x)
      where
        full : pace.exact ≡ true
            → leb most_notes (length x.one.notes) or leb g.records (length x.one.notes) ≡ leb most_notes (length x.other.notes) or leb h.records (length x.other.notes)
        full i = rw (numbers_length x.one.notes x.other.notes (x.near.notes i), w.records i) refl

    pub beside_report_if : {b c : Bool} → b ≡ c → (m n : Note) → m.number ≡ n.number → (x : Abreast pace) (on on' : State → Result A) → Agree pace shape on on'
        → Beside pace shape (report_if b g m x.one on) (report_if c h n x.other on')
    beside_report_if e m n i x on on' f = beside_test e (λ _. beside_report m n i x on on' f) λ _. f x

  -- A node of alike values.
  pub beside_make : {l l' : List ℕ} → l ≡ l' → (t u : Placed) → bare t ≡ bare u → (x : Abreast pace) → Beside pace itself (make g l t x.one) (make h l' u x.other)
  unfolding make
  beside_make e t u f x =
      beside_test (ap overlong e) (refusal x) λ _.
      beside_test (ap (λ (v : Value). ltb tallest (height v)) f) (refusal x) λ _.
      beside_limit no_room x (λ i. ap₂ leb (w.room i) (x.near.nodes i)) λ _.
      both (record { one = t; other = u; same = f }) (record {
        one = record { at = x.one.at; half = x.one.half; nodes = x.one.nodes + 1; notes = x.one.notes; tally = x.one.tally };
        other = record { at = x.other.at; half = x.other.half; nodes = x.other.nodes + 1; notes = x.other.notes; tally = x.other.tally };
        near = record { at = x.near.at; half = x.near.half; entered = x.near.entered; nodes = λ i. ap (λ (n : ℕ). n + 1) (x.near.nodes i); notes = x.near.notes; trials = x.near.trials };
      })
