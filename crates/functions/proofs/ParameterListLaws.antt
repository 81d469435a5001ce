-- The rule of parameters, turn by turn, by what stands before and behind each.
use mathlib.Core.Path.{◌≡◌, refl, sym, ap, ◌∙◌}
use mathlib.Core.Bool.{Bool, true, false}
use mathlib.Core.List.{List, [], ◌∷◌, ◌++◌}
use Prim.Native.Nat.{ℕ, suc}
use native.Mathlib.Omega.{arith}
use lib.ListN.{length}
use Rattle.words.specs.Kind.{Colon, Dot3, RParen, This}
use Rattle.words.specs.Test.{◌and◌, ◌or◌}
use Rattle.keys.specs.Placed.{Placed, Opt, absent, present}
use Rattle.rules.specs.Refusal.{unexpected, default_value, rest_not_last}
use Rattle.rules.specs.State as rule
use Rattle.rules.specs.State.{State, Result, Reader, read, refuse, next, stands, optional, turns}
use Rattle.rules.specs.Function.{ThisParameter, parameters_of, modified, freed, separated, parameter, parameters_from, this_first, parameters}
use Rattle.marks.specs.State.{view, next_mark}
use Rattle.marks.specs.List.{Separates, default, closes, behind_rest, goes, stops}
use Rattle.functions.specs.Function.{why_none, Opens, plain, freed_mark}
use Rattle.functions.specs.Function as opens
use Rattle.marks.proofs.Answers.{then_read_lem, then_refused}
use Rattle.marks.specs.declared.state.Mark.{Mark}
use Rattle.marks.specs.Told.{Head}
use Rattle.marks.specs.Told.{Answer}

-- ---- Behind a parameter

module _ {A : Type 0} (g : rule.Given) (is_rest : Bool) (m : Mark) (O : List ℕ) (close on : State → Result A) {a : Answer} (s : Separates g.words is_rest m a) where
  -- The list goes on where the answer stands, and is closed there if the bracket stands there.
  pub separated_goes : a.why ≡ 0 → ((q : State) → stands g RParen q ≡ true → on q ≡ close (next q)) → separated g is_rest (view m O) close on ≡ on (view a.m O)
  separated_goes z f = by s
    where
      by : Separates g.words is_rest m a → separated g is_rest (view m O) close on ≡ on (view a.m O)
      by (default i e) = absurd (let z' : default_value ≡ 0 = sym (ap (λ (x : Answer). x.why) e) ∙ z in omega arith)
      by (closes i j e) = rw (i, j, e) (sym (f (view m O) j))
      by (behind_rest i j k l e) = absurd (let z' : rest_not_last ≡ 0 = sym (ap (λ (x : Answer). x.why) e) ∙ z in omega arith)
      by (goes i j k l e) = rw (i, j, k, l, e)
      by (stops i j k e) = absurd (let z' : unexpected ≡ 0 = sym (ap (λ (x : Answer). x.why) e) ∙ z in omega arith)

  pub separated_stops : (a.why ≡ 0 → ⊥) → separated g is_rest (view m O) close on ≡ refuse a.why a.m.at a.m.half
  separated_stops z = by s
    where
      no_comma : (b : Bool) → b and false ≡ false
      no_comma true = refl
      no_comma false = refl

      by : Separates g.words is_rest m a → separated g is_rest (view m O) close on ≡ refuse a.why a.m.at a.m.half
      by (default i e) = rw (i, e)
      by (closes i j e) = absurd (z (ap (λ (x : Answer). x.why) e))
      by (behind_rest i j k l e) = rw (i, j, k, l, e)
      by (goes i j k l e) = absurd (z (ap (λ (x : Answer). x.why) e))
      by (stops i j k e) = rw (i, j, k, no_comma is_rest, e)

-- ---- The list

module _ (g : rule.Given) (T : Reader) (this : Opt ThisParameter) (n : ℕ) (l : List Placed) where
  -- At the closing bracket it is whole.
  pub parameters_closed : (s : State) → stands g RParen s ≡ true → parameters_from g T this (suc n) l s ≡ read (parameters_of this l) (next s)
  unfolding parameters_from
  parameters_closed s c = rw c

  -- No parameter can begin here.
  pub parameters_none : (s : State) → stands g RParen s ≡ false → (why_none (modified g s) (stands g This s) ≡ 0 → ⊥)
      → parameters_from g T this (suc n) l s ≡ refuse (why_none (modified g s) (stands g This s)) s.at s.half
  unfolding parameters_from
  parameters_none s c = by (modified g s) (stands g This s) refl refl
    where
      by : (x y : Bool) → modified g s ≡ x → stands g This s ≡ y → (why_none x y ≡ 0 → ⊥) → parameters_from g T this (suc n) l s ≡ refuse (why_none x y) s.at s.half
      by true y p q h = rw (c, p)
      by false true p q h = rw (c, p, q)
      by false false p q h = absurd (h refl)

  both_false : (x y : Bool) → (x or y) ≡ false → (x ≡ false) × (y ≡ false)
  both_false true y h = let z : ◌≡◌ {A = ℕ} 0 1 = cc in absurd (omega arith)
  both_false false y h = (refl, h)

  module _ (s : State) (c : stands g RParen s ≡ false) (e : (modified g s or stands g This s) ≡ false) where
    -- A parameter is refused.
    pub parameters_refused : {k i h : ℕ} → parameter g T s ≡ refuse k i h → parameters_from g T this (suc n) l s ≡ refuse k i h
    unfolding parameters_from
    parameters_refused r = let w = both_false (modified g s) (stands g This s) e in rw (c, w.0, w.1, r)

    -- One parameter more, and what separates it from the next.
    parameters_more : {t : Placed} {q : State} → parameter g T s ≡ read t q
        → parameters_from g T this (suc n) l s ≡ separated g (stands g Dot3 s) q (read (parameters_of this (l ++ (t ∷ [])))) (λ p. parameters_from g T this n (l ++ (t ∷ [])) p)
    unfolding parameters_from
    parameters_more r = let w = both_false (modified g s) (stands g This s) e in rw (c, w.0, w.1, r)

    pub parameters_stop : {t : Placed} {q : Mark} {a : Answer} (O : List ℕ) → parameter g T s ≡ read t (view q O) → Separates g.words (stands g Dot3 s) q a → (a.why ≡ 0 → ⊥)
        → parameters_from g T this (suc n) l s ≡ refuse a.why a.m.at a.m.half
    parameters_stop {t} {q} O r w z = parameters_more r ∙ separated_stops g (stands g Dot3 s) q O (read (parameters_of this (l ++ (t ∷ [])))) (λ p. parameters_from g T this n (l ++ (t ∷ [])) p) w z

-- The list goes on behind a parameter, or stands at its end.
pub parameters_go : (g : rule.Given) (T : Reader) (this : Opt ThisParameter) (n : ℕ) (l : List Placed) (s : State) {t : Placed} {q : Mark} {a : Answer} (O : List ℕ)
    → stands g RParen s ≡ false → (modified g s or stands g This s) ≡ false → parameter g T s ≡ read t (view q O) → Separates g.words (stands g Dot3 s) q a → a.why ≡ 0
    → parameters_from g T this (suc (suc n)) l s ≡ parameters_from g T this (suc n) (l ++ (t ∷ [])) (view a.m O)
parameters_go g T this n l s {t} {q} O c e r w z =
    parameters_more g T this (suc n) l s c e r
    ∙ separated_goes g (stands g Dot3 s) q O (read (parameters_of this (l ++ (t ∷ [])))) (λ p. parameters_from g T this (suc n) (l ++ (t ∷ [])) p) w z
    (λ p h. parameters_closed g T this n (l ++ (t ∷ [])) p h)

-- ---- The bracket, and a `this` behind it

module _ (g : rule.Given) (T : Reader) (isNew : Bool) (m : Mark) (O : List ℕ) {h : Head} where
  -- No bracket stands there.
  pub opens_refused : Opens g.words m h → (h.why ≡ 0 → ⊥) → parameters g T isNew (view m O) ≡ refuse h.why h.m.at h.m.half
  unfolding parameters
  opens_refused (opens.stops i e) z = rw (i, e)
  opens_refused (plain i j e) z = absurd (z (ap (λ (x : Head). x.why) e))
  opens_refused (opens.this i j e) z = absurd (z (ap (λ (x : Head). x.why) e))

  -- No `this` stands behind it.
  pub opens_plain : Opens g.words m h → h.why ≡ 0 → h.choices ≡ 0 → parameters g T isNew (view m O) ≡ parameters_from g T absent (turns g) [] (view h.m O)
  unfolding parameters
  opens_plain (opens.stops i e) z c = absurd (let n : unexpected ≡ 0 = sym (ap (λ (x : Head). x.why) e) ∙ z in omega arith)
  opens_plain (plain i j e) z c = rw (i, j, e)
  opens_plain (opens.this i j e) z c = absurd (let n : 1 ≡ 0 = sym (ap (λ (x : Head). x.choices) e) ∙ c in omega arith)

  -- A `this` does, and reading stands behind it.
  pub opens_this : Opens g.words m h → h.why ≡ 0 → (h.choices ≡ 0 → ⊥)
      → (parameters g T isNew (view m O) ≡ this_first g T isNew (view (next_mark m) O)) × (h.m ≡ next_mark (next_mark m))
  unfolding parameters
  opens_this (opens.stops i e) z c = absurd (let n : unexpected ≡ 0 = sym (ap (λ (x : Head). x.why) e) ∙ z in omega arith)
  opens_this (plain i j e) z c = absurd (c (ap (λ (x : Head). x.choices) e))
  opens_this (opens.this i j e) z c = (rw (i, j), ap (λ (x : Head). x.m) e)

-- What is free again after a constructor's `this`, as the rules say it.
freed_view : (isNew : Bool) (m q : Mark) (O₀ O : List ℕ) → freed isNew (view (next_mark m) O₀) (view q O) ≡ view (freed_mark isNew m q) O
freed_view true m q O₀ O = refl
freed_view false m q O₀ O = refl

-- The `this` that begins behind the bracket at m, and ends before q.
abbrev pub this_at : rule.Given → Mark → Mark → List ℕ → Opt Placed → Opt ThisParameter
this_at g m q O t = present (record { first = rule.first g (view (next_mark m) O); end = rule.end g (view q O); type = t })

module _ (g : rule.Given) (T : Reader) (isNew : Bool) (m : Mark) (O₀ : List ℕ) where
  -- Its type is refused.
  pub this_refused : {k i h : ℕ} → optional g Colon (T true) (view (next_mark (next_mark m)) O₀) ≡ refuse k i h → this_first g T isNew (view (next_mark m) O₀) ≡ refuse k i h
  unfolding this_first
  this_refused e = then_refused _ e

  module _ {t : Opt Placed} (q : Mark) {a : Answer} (O : List ℕ) (e : optional g Colon (T true) (view (next_mark (next_mark m)) O₀) ≡ read t (view q O))
      (s : Separates g.words false (freed_mark isNew m q) a) where
    this_more : this_first g T isNew (view (next_mark m) O₀)
        ≡ separated g false (view (freed_mark isNew m q) O) (read (parameters_of (this_at g m q O t) [])) (λ p. parameters_from g T (this_at g m q O t) (turns g) [] p)
    unfolding this_first
    this_more =
        then_read_lem _ e
        ∙ ap (λ (z : State). separated g false z (read (parameters_of (this_at g m q O t) [])) (λ p. parameters_from g T (this_at g m q O t) (turns g) [] p)) (freed_view isNew m q O₀ O)

    -- The others are read from where the answer stands.
    pub this_goes : a.why ≡ 0 → this_first g T isNew (view (next_mark m) O₀) ≡ parameters_from g T (this_at g m q O t) (turns g) [] (view a.m O)
    this_goes z =
        this_more
        ∙ separated_goes g false (freed_mark isNew m q) O (read (parameters_of (this_at g m q O t) [])) (λ p. parameters_from g T (this_at g m q O t) (turns g) [] p) s z
        (λ p h. parameters_closed g T (this_at g m q O t) (length g.words) [] p h)

    pub this_stops : (a.why ≡ 0 → ⊥) → this_first g T isNew (view (next_mark m) O₀) ≡ refuse a.why a.m.at a.m.half
    this_stops z =
        this_more ∙ separated_stops g false (freed_mark isNew m q) O (read (parameters_of (this_at g m q O t) [])) (λ p. parameters_from g T (this_at g m q O t) (turns g) [] p) s z
