-- The list of parameters in its brackets, by what stands behind the bracket; what a constructor's `this` gives back.
use mathlib.Core.Path.{◌≡◌, refl, sym, ap, ◌∙◌, subst}
use mathlib.Core.Bool.{Bool, true, false}
use mathlib.Core.List.{List, []}
use Prim.Native.Nat.{ℕ, ◌+◌, ◌*◌, ◌≤◌}
use native.Mathlib.Omega.{arith}
use lib.ListN.{length}
use Rattle.words.specs.Kind.{Colon}
use Rattle.words.specs.Cursor.{first_byte, end_byte}
use Rattle.keys.specs.Bits.{unit}
use Rattle.keys.specs.Placed.{Placed, Opt, absent, present}
use Rattle.keys.specs.Store.{Run, done, ◌⊕◌}
use Rattle.keys.proofs.StoreLaws.{join_done}
use Rattle.rules.specs.State as rule
use Rattle.rules.specs.State.{Result, Reader, refuse, optional, turns}
use Rattle.rules.specs.Function.{ThisParameter, Parameters, parameters_of, parameters_from, this_first, parameters}
use Rattle.marks.specs.State.{view, next_mark, Moved}
use Rattle.marks.specs.Laid.{run_opt, opt_bit, Was, was, Built, BuiltAt}
use Rattle.marks.specs.Says.{SaysOption}
use Rattle.marks.specs.List.{Separates}
use Rattle.functions.specs.Function.{type_bits, this_run, IsThis, ThisIs, SaysParams, Opens, freed_mark, before_this, behind_this, freed_used}
use Rattle.readers.specs.Ring.{SaysRest}
use Rattle.marks.proofs.LaidLaws.{laid_back}
use Rattle.marks.proofs.BuiltLaws.{built_none}
use Rattle.marks.proofs.StepLaws.{built_at}
use Rattle.functions.proofs.ParameterListLaws.{opens_this, this_refused, this_goes, this_stops}
use Rattle.marks.specs.declared.state.Mark.{Mark}
use Rattle.marks.specs.declared.state.Kids.{Kids}
use Rattle.marks.specs.Told.{Head}
use Rattle.marks.specs.Told.{Answer}
use Rattle.marks.specs.Told.{Listed}
use Rattle.functions.specs.declared.function.This.{This as ThisCode}
use Rattle.functions.specs.Told.{Params}
use Rattle.readers.proofs.MovedLaws.{built_moved}
use Rattle.readers.proofs.ChildLaws.{built_as}
use Rattle.readers.proofs.ParameterTurns.{refused_params}

-- ---- Numbers

-- What is in use after a `this`, which is as much as before it or as after it: no more than what both are no more than.
pub freed_low : (n : Bool) (a b c : ℕ) → a ≤ c → b ≤ c → freed_used n a b ≤ c
freed_low true a b c h i = h
freed_low false a b c h i = i

-- And no less than what both are no less than.
pub freed_high : (n : Bool) (a b c : ℕ) → c ≤ a → c ≤ b → c ≤ freed_used n a b
freed_high true a b c h i = h
freed_high false a b c h i = i

-- A bit is no more than one.
pub bit_low : (b : Bool) → unit b ≤ 1
bit_low true = omega arith
bit_low false = omega arith

-- ---- Answers

-- The list is refused.
pub params_refused : {B : Was} {t : Run} {R : Opt ThisParameter → Run} {x : Result Parameters} {r : Params} {N M O : List ℕ} {why : ℕ} {m : Mark}
    → r ≡ refused_params why m → (why ≡ 0 → ⊥) → x ≡ refuse why m.at m.half → SaysParams B t R x r N M O
params_refused {B} {t} {R} {x} {r} {N} {M} {O} {why} {m} e n i =
    subst (λ (p : Params). SaysParams B t R x p N M O) (sym e) (record { done = λ z. absurd (n z); refused = λ _. i })

-- What the others come to is what the list does, if the type of its `this` stands before them.
params_rest : {B : Was} {t : Run} (R : Opt ThisParameter → Run) (th : Opt ThisParameter) {x y : Result Parameters} {p : Params} {N M O : List ℕ}
    → x ≡ y → IsThis th → SaysRest B (t ⊕ R th) th y p N M O → SaysParams B t R x p N M O
params_rest R th e i w =
    record {
      done = λ z.
          let got = w.done z in
          record {
            what = parameters_of th got.list;
            is = e ∙ got.is;
            this_is = got.this_is;
            is_this = i;
            count_is = got.count_is;
            each = got.each;
            built = got.built;
          };
      refused = λ n. e ∙ w.refused n;
    }

-- No `this` is no child.
no_this : (isNew : Bool) → this_run isNew absent ≡ done
no_this true = refl
no_this false = refl

-- The code's none is the rules'.
pub this_none : {r : ThisCode} → r ≡ record { bits = 0; first = 0; end = 0 } → ThisIs r absent
this_none e =
    record {
      bits = ap (λ (x : ThisCode). x.bits) e;
      first = ap (λ (x : ThisCode). x.first) e;
      end = ap (λ (x : ThisCode). x.end) e;
    }

-- No `this` stands behind the bracket.
pub params_plain : {B : Was} {t : Run} (isNew : Bool) {x y : Result Parameters} {p : Params} {N M O : List ℕ}
    → x ≡ y → SaysRest B t absent y p N M O → SaysParams B t (this_run isNew) x p N M O
params_plain {B} {t} isNew {x} {y} {p} {N} {M} {O} e w =
    params_rest (this_run isNew) absent e tt
    (subst (λ (r : Run). SaysRest B r absent y p N M O) (sym (ap (λ (r : Run). t ⊕ r) (no_this isNew) ∙ join_done t)) w)

-- ---- A `this` behind the bracket

-- Its bits, by its type.
this_bits_lem : (u : Opt Placed) → 1 + 2 * opt_bit u ≡ type_bits u
this_bits_lem absent = refl
this_bits_lem (present u) = refl

-- Since when its type is a child: for a constructor's, since the bracket, and of nothing that stood before.
abbrev since : (isNew : Bool) → (before here : Was) → Was
since true before here = here
since false before here = before

abbrev since_run : (isNew : Bool) → Run → Run
since_run true t = done
since_run false t = t

-- The children to which it is linked stand so.
built_since : (isNew : Bool) {B : Was} {t : Run} {k k' : Kids} (m q : Mark) {N M O : List ℕ} → k' ≡ before_this isNew k
    → q.used ≡ m.used → q.named ≡ m.named → q.noted ≡ m.noted → BuiltAt B t k m N M O
    → BuiltAt (since isNew B (was m N M O)) (since_run isNew t) k' q N M O
built_since true m q {N} {M} {O} e u n o b = built_as e (built_at m q u n o (built_none m.used m.named m.noted N M O))
built_since false m q e u n o b = built_as e (built_at m q u n o b)

-- Its type is the next child, or all that it took is free again.
built_this : (isNew : Bool) {B : Was} {t : Run} {k k' : Kids} (m : Mark) (a : Listed) (th : ThisParameter) {N M O N₁ M₁ O₁ : List ℕ}
    → k' ≡ behind_this isNew k a.kids → BuiltAt B t k m N M O → 4 * m.used ≤ length N
    → BuiltAt (since isNew B (was m N M O)) (since_run isNew t ⊕ run_opt 0 th.type) a.kids a.m N₁ M₁ O₁
    → BuiltAt B (t ⊕ this_run isNew (present th)) k' (freed_mark isNew m a.m) N₁ M₁ O₁
built_this true {B} {t} {k} {k'} m a th {N} {M} {O} {N₁} {M₁} {O₁} e b f d =
    let same : Built B t k m.used m.named a.m.noted N₁ M₁ O₁ =
    record { laid = laid_back a.m.noted d.laid.noted_is f b.laid d.laid; first_is = b.first_is; high_is = b.high_is } in
    rw (e, join_done t) same
built_this false m a th e b f d = built_as e d

module _ (g : rule.Given) (T : Reader) (isNew : Bool) {m : Mark} {h : Head} (N M O : List ℕ)
    (opens : Opens g.words m h) (z : h.why ≡ 0) (some : h.choices ≡ 0 → ⊥) {B : Was} {t : Run} {k₀ k : Kids} {a : Listed} {N₁ M₁ O₁ : List ℕ}
    (b : BuiltAt B t k m N M O) (k-is : k₀ ≡ before_this isNew k)
    (w : (B : Was) (t : Run) → BuiltAt B t k₀ h.m N M O → SaysOption B t (optional g Colon (T true) (view h.m O)) a N₁ M₁ O₁) where
  -- The rule goes on with the `this`.
  this_there : parameters g T isNew (view m O) ≡ this_first g T isNew (view (next_mark m) O)
  this_there = (opens_this g T isNew m O opens z some).0

  -- The head ends behind it.
  behind : h.m ≡ next_mark (next_mark m)
  behind = (opens_this g T isNew m O opens z some).1

  -- What its type says.
  type_says : SaysOption (since isNew B (was m N M O)) (since_run isNew t) (optional g Colon (T true) (view (next_mark (next_mark m)) O)) a N₁ M₁ O₁
  type_says =
      subst (λ (q : Mark). SaysOption (since isNew B (was m N M O)) (since_run isNew t) (optional g Colon (T true) (view q O)) a N₁ M₁ O₁) behind
      (w (since isNew B (was m N M O)) (since_run isNew t)
      (built_since isNew m h.m k-is (ap (λ (q : Mark). q.used) behind) (ap (λ (q : Mark). q.named) behind) (ap (λ (q : Mark). q.noted) behind) b))

  -- Its type is refused.
  pub params_this_refused : (a.why ≡ 0 → ⊥) → parameters g T isNew (view m O) ≡ refuse a.why a.m.at a.m.half
  params_this_refused n = this_there ∙ this_refused g T isNew m O (type_says.refused n)

  module _ (read-it : a.why ≡ 0) {f : Mark} (freed-is : f ≡ freed_mark isNew m a.m) {c : Answer} (s : Separates g.words false f c) where
    -- What stands behind it, at the mark that is free again.
    separates : Separates g.words false (freed_mark isNew m a.m) c
    separates = subst (λ (q : Mark). Separates g.words false q c) freed-is s

    -- What stands behind it lets no list go on.
    pub params_this_stops : (c.why ≡ 0 → ⊥) → parameters g T isNew (view m O) ≡ refuse c.why c.m.at c.m.half
    params_this_stops n = this_there ∙ this_stops g T isNew m O a.m O₁ (type_says.done read-it).is separates n

    -- The others are read behind it.
    pub params_this : {len : ℕ} {k' : Kids} {this : ThisCode} {p : Params} {N₃ M₃ O₃ : List ℕ} → c.why ≡ 0 → Moved len f c.m
        → k' ≡ behind_this isNew k a.kids → 4 * m.used ≤ length N
        → (this.bits ≡ 1 + 2 * unit a.there) × (this.first ≡ first_byte g.words (m.at + 1) 0) × (this.end ≡ end_byte g.words a.m.at a.m.half)
        → ((r : Run) (th : Opt ThisParameter) → BuiltAt B r k' c.m N₁ M₁ O₁ → ThisIs this th
        → SaysRest B r th (parameters_from g T th (turns g) [] (view c.m O₁)) p N₃ M₃ O₃)
        → SaysParams B t (this_run isNew) (parameters g T isNew (view m O)) p N₃ M₃ O₃
    params_this {k' = k'} go moved kids fits this_is rest =
        let got = type_says.done read-it in
        let th : ThisParameter = record { first = rule.first g (view (next_mark m) O₁); end = rule.end g (view a.m O₁); type = got.tree } in
        let built : BuiltAt B (t ⊕ this_run isNew (present th)) k' f N₁ M₁ O₁ =
        subst (λ (q : Mark). BuiltAt B (t ⊕ this_run isNew (present th)) k' q N₁ M₁ O₁) (sym freed-is) (built_this isNew m a th kids b fits got.built) in
        params_rest (this_run isNew) (present th) (this_there ∙ this_goes g T isNew m O a.m O₁ got.is separates go) got.is_opt
        (rest (t ⊕ this_run isNew (present th)) (present th) (built_moved moved built)
        (record { bits = this_is.0 ∙ ap (λ (n : ℕ). 1 + 2 * n) got.there_is ∙ this_bits_lem got.tree; first = this_is.1; end = this_is.2 }))
