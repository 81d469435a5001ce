-- Names with dots between, turn by turn.
use mathlib.Core.Path.{◌≡◌, refl, sym, ap, ap₂, ◌∙◌, subst}
use mathlib.Core.Bool.{true, false}
use mathlib.Core.List.{List, [], ◌∷◌, ◌++◌, append_assoc, append-nil}
use Prim.Native.Nat.{ℕ, suc, ◌+◌, ◌-◌, ◌*◌, ◌^◌, ◌≤◌, ◌<◌}
use native.Mathlib.Omega.{arith}
use lib.ListN.{length, take}
use Rattle.words.specs.Kind.{Dot}
use Rattle.words.specs.Word.{start, size}
use Rattle.words.specs.Check.{spelled}
use Rattle.words.specs.Cursor.{word_at}
use Rattle.keys.specs.Placed.{Spelling}
use Rattle.keys.specs.Words.{first_names}
use Rattle.rules.specs.Names.{name, dots_from, dotted}
use Rattle.rules.specs.State.{Given, State, Result, read, refuse, then, next, stands, turns}
use Rattle.marks.specs.State.{view, next_mark, named_mark}
use Rattle.marks.specs.Laid.{Spoken}
use Rattle.marks.specs.Says.{GotNames, SaysNames, Any, one}
use Rattle.marks.specs.Names.{Speaks, one_name, GotDots, SaysDots}
use Rattle.marks.specs.Notes.{taken_at}
use Rattle.marks.proofs.BuiltLaws.{spoken_one, spoken_none, spoken_then, spoken_from}
use Rattle.marks.proofs.Answers.{then_read_lem, then_refused}
use Rattle.marks.specs.declared.state.Mark.{Mark}
use Rattle.marks.specs.Told.{Answer}

-- ---- One name

pub name_is : (g : Given) (s : State) → name g s ≡ one_name 1 g s
unfolding name
name_is g s = refl

-- The word of a token behind the names is the token's name.
pub speaks_word : {W : List ℕ} {m : Mark} {M M' : List ℕ} {first count : ℕ} → length M' ≡ length M
    → first ≡ start (word_at W m.at) → count ≡ size (word_at W m.at)
    → first_names M' (m.named + 1) ≡ take (length M) (first_names M m.named ++ ((first * 2 ^ 32 + count) ∷ []))
    → Speaks W m M M'
speaks_word {W} {m} {M} {M'} {first} {count} l f n e text w =
    spoken_one (start (word_at W m.at)) (spelled text (word_at W m.at)) (named_mark m) refl refl refl l
    (e ∙ ap₂ (λ (x y : ℕ). take (length M) (first_names M m.named ++ ((x * 2 ^ 32 + y) ∷ []))) f (n ∙ sym (w.sizes m.at)))

-- ---- Dots

module _ (g : Given) (n : ℕ) (l : List Spelling) (s : State) where
  pub dots_end : stands g Dot s ≡ false → dots_from g (suc n) l s ≡ read l s
  unfolding dots_from
  dots_end d = rw d

  dots_dot : stands g Dot s ≡ true → dots_from g (suc n) l s ≡ then (one_name 1 g (next s)) λ x q. dots_from g n (l ++ (x ∷ [])) q
  unfolding dots_from name
  dots_dot d = rw d

  pub dots_read : {x : Spelling} {q : State} → stands g Dot s ≡ true → one_name 1 g (next s) ≡ read x q → dots_from g (suc n) l s ≡ dots_from g n (l ++ (x ∷ [])) q
  dots_read d e = dots_dot d ∙ then_read_lem (λ y r. dots_from g n (l ++ (y ∷ [])) r) e

  pub dots_refused : {k i h : ℕ} → stands g Dot s ≡ true → one_name 1 g (next s) ≡ refuse k i h → dots_from g (suc n) l s ≡ refuse k i h
  dots_refused d e = dots_dot d ∙ then_refused (λ y r. dots_from g n (l ++ (y ∷ [])) r) e

-- On the way from m to p names were read behind those of l, and as many turns are left as tokens.
pub record Dotting (g : Given) (l : List Spelling) (x : Result (List Spelling)) (m p : Mark) (M M' O : List ℕ) : Type 0 where
  pub fuel : ℕ
  pub more : List Spelling
  pub enough : length g.words ≤ fuel + p.at
  pub is : x ≡ dots_from g (suc fuel) (l ++ more) (view p O)
  pub spoken : Spoken more m p M M'

pub dotting_none : (g : Given) (l : List Spelling) (m : Mark) (M O : List ℕ) → Dotting g l (dots_from g (turns g) l (view m O)) m m M M O
dotting_none g l m M O =
    record {
      fuel = length g.words;
      more = [];
      enough = omega arith;
      is = ap (λ (x : List Spelling). dots_from g (turns g) x (view m O)) (sym (append-nil l));
      spoken = spoken_none m m M refl refl refl;
    }

module _ {g : Given} {l : List Spelling} {x : Result (List Spelling)} {m p : Mark} {M M' O : List ℕ} (d : Dotting g l x m p M M' O) where
  -- A dot and a name more.
  pub dotting_more : {q : Mark} {M'' : List ℕ} → stands g Dot (view p O) ≡ true → p.at < length g.words → p.at < q.at
      → GotNames one Any (one_name 1 g (view (next_mark p) O)) (next_mark p) q M' M'' O → Dotting g l x m q M M'' O
  dotting_more {q} {M''} e f h w =
      record {
        fuel = d.fuel - 1;
        more = d.more ++ (w.what ∷ []);
        enough = omega (arith, d.enough);
        is =
            d.is ∙ dots_read g d.fuel (l ++ d.more) (view p O) e w.is
            ∙ ap (λ (n : ℕ). dots_from g n ((l ++ d.more) ++ (w.what ∷ [])) (view q O)) (let z : d.fuel ≡ suc (d.fuel - 1) = omega (arith, d.enough) in z)
            ∙ ap (λ (y : List Spelling). dots_from g (suc (d.fuel - 1)) y (view q O)) (append_assoc l d.more (w.what ∷ []));
        spoken = spoken_then d.spoken (spoken_from p refl refl refl w.spoken);
      }

  pub dotting_refused : {k i h : ℕ} → stands g Dot (view p O) ≡ true → one_name 1 g (view (next_mark p) O) ≡ refuse k i h → x ≡ refuse k i h
  dotting_refused e r = d.is ∙ dots_refused g d.fuel (l ++ d.more) (view p O) e r

  -- The same of a turn of the code: n is the mark past the dot.
  pub dotting_step : {n q : Mark} {M'' : List ℕ} {why : ℕ} → n ≡ next_mark p → stands g Dot (view p O) ≡ true → p.at < length g.words → p.at < q.at
      → SaysNames one Any (one_name 1 g (view n O)) why n q M' M'' O → why ≡ 0 → Dotting g l x m q M M'' O
  dotting_step {n} {q} {M''} {why} e d f h w z =
      dotting_more d f h ((subst (λ (r : Mark). SaysNames one Any (one_name 1 g (view r O)) why r q M' M'' O) e w).done z)

  pub dotting_stop : {n q : Mark} {M'' : List ℕ} {why : ℕ} → n ≡ next_mark p → stands g Dot (view p O) ≡ true
      → SaysNames one Any (one_name 1 g (view n O)) why n q M' M'' O → (why ≡ 0 → ⊥) → SaysDots l x why m q M M'' O
  dotting_stop {n} {q} {M''} {why} e d w z =
      record {
        done = λ y. absurd (z y);
        refused = λ y. dotting_refused d ((subst (λ (r : Mark). SaysNames one Any (one_name 1 g (view r O)) why r q M' M'' O) e w).refused z);
      }

  pub dotting_done : stands g Dot (view p O) ≡ false → GotDots l x m p M M' O
  dotting_done e = record { more = d.more; is = d.is ∙ dots_end g d.fuel (l ++ d.more) (view p O) e; spoken = d.spoken }

  pub dotting_taken : {a : Answer} → a ≡ taken_at p → stands g Dot (view p O) ≡ false → SaysDots l x a.why m a.m M M' O
  dotting_taken e z =
      subst (λ (r : Answer). SaysDots l x r.why m r.m M M' O) (sym e) (record { done = λ _. dotting_done z; refused = λ h. absurd (h refl) })

-- ---- Names with dots between

pub dotted_refused : (g : Given) (s : State) {k i h : ℕ} → one_name 1 g s ≡ refuse k i h → dotted g s ≡ refuse k i h
unfolding dotted name
dotted_refused g s e = then_refused (λ x q. dots_from g (turns g) (x ∷ []) q) e

pub dotted_read : (g : Given) (s : State) {x : Spelling} {q : State} → one_name 1 g s ≡ read x q → dotted g s ≡ dots_from g (turns g) (x ∷ []) q
unfolding dotted name
dotted_read g s e = then_read_lem (λ x q. dots_from g (turns g) (x ∷ []) q) e

-- After the first name dots were read, or refused.
pub says_dotted : (g : Given) {m p q : Mark} {M M' M'' O : List ℕ} {why : ℕ} (w : GotNames one Any (one_name 1 g (view m O)) m p M M' O)
    → SaysDots (w.what ∷ []) (dots_from g (turns g) (w.what ∷ []) (view p O)) why p q M' M'' O → SaysNames (λ k. k) Any (dotted g (view m O)) why m q M M'' O
says_dotted g {m} {O = O} w d =
    record {
      done = λ z.
          let v = d.done z in
          record { what = (w.what ∷ []) ++ v.more; is = dotted_read g (view m O) w.is ∙ v.is; such = tt; spoken = spoken_then w.spoken v.spoken };
      refused = λ z. dotted_read g (view m O) w.is ∙ d.refused z;
    }
