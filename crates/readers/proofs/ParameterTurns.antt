-- The loop over the parameters of a function type: where it begins, where it stops, a turn, its end.
use mathlib.Core.Path.{◌≡◌, refl, sym, ap, ◌∙◌, subst}
use mathlib.Core.Bool.{Bool, true, false}
use mathlib.Core.List.{List, [], ◌∷◌, ◌++◌}
use Prim.Native.Nat.{ℕ, suc, ◌+◌, ◌-◌, ◌≤◌, ◌<◌}
use native.Mathlib.Omega.{arith}
use lib.Dec.{eqb}
use lib.ListN.{length, length-append}
use Rattle.words.specs.Kind.{RParen, Dot3, This}
use Rattle.words.specs.Test.{◌or◌}
use Rattle.keys.specs.Placed.{Placed, Opt}
use Rattle.keys.specs.Store.{Run, ◌⊕◌}
use Rattle.keys.proofs.StoreLaws.{join_done}
use Rattle.rules.specs.Refusal.{unexpected, parameter_modifier, default_value, misplaced_this, rest_not_last}
use Rattle.rules.specs.State.{Given, State, Result, Reader, read, refuse, stands, turns}
use Rattle.rules.specs.Function.{ThisParameter, Parameters, modified, parameter, parameters_from}
use Rattle.marks.specs.State.{view, next_mark}
use Rattle.marks.specs.Laid.{run_in, runs, IsNode, Was, BuiltAt}
use Rattle.marks.specs.List.{Separates, default, closes, behind_rest, goes, stops}
use Rattle.functions.specs.Function.{why_none, ThisIs}
use Rattle.readers.specs.Ring.{SaysRest}
use Rattle.marks.proofs.LeafLaws.{no_kids}
use Rattle.marks.proofs.ShapeLaws.{all_more}
use Rattle.parts.proofs.Turns.{built_more}
use Rattle.functions.proofs.ParameterListLaws.{parameters_closed, parameters_none, parameters_go}
use Rattle.marks.specs.declared.state.Mark.{Mark}
use Rattle.marks.specs.declared.state.Kids.{Kids}
use Rattle.marks.specs.Told.{Answer}
use Rattle.functions.specs.declared.function.This.{This as ThisCode}
use Rattle.functions.specs.Told.{Params}
use Rattle.readers.proofs.Loops.{ParametersTurn}

-- A parameter may begin: neither a modifier word nor a `this` is there.
pub may_begin : (g : Given) (s : State) {why : ℕ} → why ≡ why_none (modified g s) (stands g This s) → why ≡ 0 → (modified g s or stands g This s) ≡ false
may_begin g s {why} e n = by (modified g s) (stands g This s) (sym e ∙ n)
  where
    by : (a b : Bool) → why_none a b ≡ 0 → (a or b) ≡ false
    by true b z = absurd (let y : parameter_modifier ≡ 0 = z in omega arith)
    by false true z = absurd (let y : misplaced_this ≡ 0 = z in omega arith)
    by false false z = refl

-- What separates is the same where the kind before it is.
pub separates_as : {W : List ℕ} {x y : ℕ} (k : ℕ) {q : Mark} {a : Answer} → x ≡ y → Separates W (eqb x k) q a → Separates W (eqb y k) q a
separates_as {W} {x} {y} k {q} {a} e s = subst (λ (z : ℕ). Separates W (eqb z k) q a) e s

-- The code's answer that refuses parameters, for a reason at a mark.
abbrev pub refused_params : ℕ → Mark → Params
refused_params why m = record { why = why; count = 0; this = record { bits = 0; first = 0; end = 0 }; kids = no_kids; m = m }

-- The others are refused.
pub rest_refused : {B : Was} {t : Run} {th : Opt ThisParameter} {x : Result Parameters} {r : Params} {N M O : List ℕ} {why : ℕ} {m : Mark}
    → r ≡ refused_params why m → (why ≡ 0 → ⊥) → x ≡ refuse why m.at m.half → SaysRest B t th x r N M O
rest_refused {B} {t} {th} {x} {r} {N} {M} {O} {why} {m} e n i =
    subst (λ (p : Params). SaysRest B t th x p N M O) (sym e) (record { done = λ z. absurd (n z); refused = λ _. i })

module _ (g : Given) (T : Reader) (th : Opt ThisParameter) where
  -- The loop begins.
  pub turn_none : {B : Was} (t : Run) {k : Kids} {p : Mark} {N M O : List ℕ} → BuiltAt B t k p N M O → ParametersTurn g T th (view p O) B t 0 k p N M O
  turn_none {B} t {k} {p} {N} {M} {O} b =
      record {
        list = [];
        fuel = length g.words;
        enough = omega arith;
        is = refl;
        each = tt;
        many_is = refl;
        built = subst (λ (r : Run). BuiltAt B r k p N M O) (sym (join_done t)) b;
      }

  -- No parameter can begin here.
  pub parameters_why : (n : ℕ) (l : List Placed) (s : State) {why : ℕ} → stands g RParen s ≡ false → why ≡ why_none (modified g s) (stands g This s)
      → (why ≡ 0 → ⊥) → parameters_from g T th (suc n) l s ≡ refuse why s.at s.half
  parameters_why n l s c e z =
      parameters_none g T th n l s c (λ x. z (e ∙ x)) ∙ ap (λ (k : ℕ). refuse k s.at s.half) (sym e)

  module _ {B : Was} (t : Run) (s : State) {count : ℕ} {k : Kids} {p : Mark} {N M O : List ℕ} (w : ParametersTurn g T th s B t count k p N M O) where
    -- After a parameter that was read the loop stands at its head again.
    pub turn_parameter : (k' : Kids) (q : Mark) (a : Answer) (N' M' O' : List ℕ) (u : Placed)
        → stands g RParen (view p O) ≡ false → (modified g (view p O) or stands g This (view p O)) ≡ false
        → parameter g T (view p O) ≡ read u (view q O') → Separates g.words (stands g Dot3 (view p O)) q a → a.why ≡ 0
        → p.at < length g.words → p.at ≤ q.at → IsNode 5 u
        → BuiltAt B ((t ⊕ runs 5 w.list) ⊕ run_in 5 u) k' a.m N' M' O'
        → ParametersTurn g T th s B t (count + 1) k' a.m N' M' O'
    turn_parameter k' q a N' M' O' u c none e f h i j n b = by f
      where
        x : Result Parameters
        x = parameters_from g T th (turns g) [] s

        l' : List Placed
        l' = w.list ++ (u ∷ [])

        next_is : (fuel : ℕ) → w.fuel ≡ suc fuel → x ≡ parameters_from g T th (suc fuel) l' (view a.m O')
        next_is fuel y =
            w.is ∙ ap (λ (z : ℕ). parameters_from g T th (suc z) w.list (view p O)) y
            ∙ parameters_go g T th fuel w.list (view p O) O' c none e f h

        one_less : w.fuel ≡ suc (w.fuel - 1)
        one_less = omega (arith, w.enough)

        turn : (fuel : ℕ) → length g.words ≤ fuel + a.m.at → x ≡ parameters_from g T th (suc fuel) l' (view a.m O')
            → ParametersTurn g T th s B t (count + 1) k' a.m N' M' O'
        turn fuel y z =
            record {
              list = l';
              fuel = fuel;
              enough = y;
              is = z;
              each = all_more w.list w.each n;
              many_is = omega (arith, w.many_is, length-append w.list (u ∷ []));
              built = built_more 5 t w.list u a.m b;
            }

        by : Separates g.words (stands g Dot3 (view p O)) q a → ParametersTurn g T th s B t (count + 1) k' a.m N' M' O'
        by (default y m) = absurd (let v : default_value ≡ 0 = sym (ap (λ (z : Answer). z.why) m) ∙ h in omega arith)
        by (closes y z m) =
            let closed : stands g RParen (view a.m O') ≡ true = subst (λ (v : Answer). stands g RParen (view v.m O') ≡ true) (sym m) z in
            turn (length g.words) (omega arith)
            (next_is (w.fuel - 1) one_less
            ∙ parameters_closed g T th (w.fuel - 1) l' (view a.m O') closed
            ∙ sym (parameters_closed g T th (length g.words) l' (view a.m O') closed))
        by (behind_rest y z r v m) = absurd (let v' : rest_not_last ≡ 0 = sym (ap (λ (z : Answer). z.why) m) ∙ h in omega arith)
        by (goes y z r v m) =
            let at_is : a.m.at ≡ q.at + 1 = ap (λ (z : Answer). z.m.at) m in
            turn (w.fuel - 1) (omega (arith, w.enough)) (next_is (w.fuel - 1) one_less)
        by (stops y z r m) = absurd (let v : unexpected ≡ 0 = sym (ap (λ (z : Answer). z.why) m) ∙ h in omega arith)

    -- At the closing bracket all were read.
    pub rest_all : {this : ThisCode} {r : Params} → stands g RParen (view p O) ≡ true → ThisIs this th
        → r ≡ record { why = 0; count = count; this = this; kids = k; m = next_mark p }
        → SaysRest B t th (parameters_from g T th (turns g) [] s) r N M O
    rest_all {this} {r} c i e =
        subst (λ (y : Params). SaysRest B t th (parameters_from g T th (turns g) [] s) y N M O) (sym e)
        (record {
          done = λ _.
              record {
                list = w.list;
                is = w.is ∙ parameters_closed g T th w.fuel w.list (view p O) c;
                this_is = i;
                count_is = w.many_is;
                each = w.each;
                built = w.built;
              };
          refused = λ n. absurd (n refl);
        })
