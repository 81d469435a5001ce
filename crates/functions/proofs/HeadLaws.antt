-- Function types before their types: what the rules' tests come to, by what stands at the cursor.
use mathlib.Core.Path.{◌≡◌, refl, sym, ap, ◌∙◌}
use mathlib.Core.Bool.{Bool, true, false}
use mathlib.Core.List.{List}
use Prim.Native.Nat.{ℕ, ◌+◌, ◌*◌}
use native.Mathlib.Omega.{arith}
use Rattle.words.specs.Kind.{Question, Dot3, This}
use Rattle.words.specs.Test.{◌and◌, test}
use Rattle.keys.specs.Bits.{unit}
use Rattle.keys.specs.Placed.{Spelling}
use Rattle.rules.specs.Refusal.{misplaced_this, type_parameter_modifier}
use Rattle.rules.specs.State as rule
use Rattle.rules.specs.State.{State, Result, read, refuse, then, past}
use Rattle.rules.specs.Names.{bound}
use Rattle.rules.specs.TypeParameters as types
use Rattle.marks.specs.State.{view, given_of, past_mark, Moved}
use Rattle.marks.specs.Says.{SaysNames, SaysBound, Any, one}
use Rattle.marks.specs.Names.{one_name}
use Rattle.marks.specs.Notes.{refused_at}
use Rattle.marks.specs.List.{here}
use Rattle.functions.specs.Function.{type_parameter_head, parameter_head}
use Rattle.marks.proofs.Answers.{then_read_lem}
use Rattle.marks.proofs.BuiltLaws.{spoken_from, spoken_to}
use Rattle.marks.proofs.BoundLaws.{bound_same}
use Rattle.marks.proofs.StepLaws.{view_past}
use Rattle.marks.specs.declared.state.Given.{Given}
use Rattle.marks.specs.declared.state.Mark.{Mark}
use Rattle.marks.specs.Told.{Answer}

-- ---- A type parameter up to its constraint

module _ (text W O : List ℕ) (given : Given) (m : Mark) {M M' O' : List ℕ} where
  pub type_head_stops : types.varies (given_of text W given) (view m O) ≡ true
      → SaysBound (type_parameter_head (given_of text W given) (view m O)) m M O (refused_at type_parameter_modifier m) M' O'
  type_head_stops h = record { done = λ z. absurd (omega arith); refused = λ _. rw h }

  pub type_head_says : {a : Answer} → types.varies (given_of text W given) (view m O) ≡ false → SaysBound (bound (given_of text W given) (view m O)) m M O a M' O'
      → SaysBound (type_parameter_head (given_of text W given) (view m O)) m M O a M' O'
  type_head_says h w = bound_same (rw h) w

-- ---- A parameter up to its type

-- From behind the dots, if they stood there.
abbrev head_from : rule.Given → Bool → State → Result (Spelling × Bool)
head_from g is_rest s =
    test (is_rest and rule.stands g This s) (λ _. rule.refused misplaced_this s) λ _.
    then (one_name 0 g s) λ x q.
    read (x, rule.stands g Question q) (past g Question q)

module _ (text W O : List ℕ) (given : Given) (m p : Mark) (e : p ≡ past_mark W Dot3 m) where
  head_from_lem : parameter_head (given_of text W given) (view m O) ≡ head_from (given_of text W given) (here W Dot3 m) (view p O)
  head_from_lem = ap (head_from (given_of text W given) (here W Dot3 m)) (sym (ap (λ (x : Mark). view x O) e ∙ view_past text W given Dot3 m O))

  head_named : (here W Dot3 m and here W This p) ≡ false
      → parameter_head (given_of text W given) (view m O)
      ≡ then (one_name 0 (given_of text W given) (view p O)) λ x q. read (x, rule.stands (given_of text W given) Question q) (past (given_of text W given) Question q)
  head_named h = head_from_lem ∙ rw h

  module _ (h : (here W Dot3 m and here W This p) ≡ false) {why : ℕ} {q : Mark} {M M' : List ℕ} (w : SaysNames one Any (one_name 0 (given_of text W given) (view p O)) why p q M M' O) where
    -- The name was read, and a `?` passed if it stands there.
    pub parameter_head_read : {len len' : ℕ} (r : Mark) (choices : ℕ) → why ≡ 0 → r ≡ past_mark W Question q → Moved len m p → Moved len' q r
        → choices ≡ unit (here W Dot3 m) + 2 * unit (here W Question q)
        → SaysNames (λ x. one x.0) (λ x. choices ≡ unit (here W Dot3 m) + 2 * unit x.1) (parameter_head (given_of text W given) (view m O)) 0 m r M M' O
    parameter_head_read r choices z f a b c =
        let got = w.done z in
        record {
          done = λ _.
              record {
                what = (got.what, here W Question q);
                is = head_named h ∙ then_read_lem _ got.is ∙ ap (read (got.what, here W Question q)) (sym (ap (λ (x : Mark). view x O) f ∙ view_past text W given Question q O));
                such = c;
                spoken = spoken_from m (sym a.used_is) (sym a.named_is) (sym a.noted_is) (spoken_to r b.used_is b.named_is b.noted_is got.spoken);
              };
          refused = λ n. absurd (n refl);
        }
