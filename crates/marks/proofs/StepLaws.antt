-- The steps of functions that read words and marks: what stands at a mark, what is expected there, and the answers of it.
use mathlib.Core.Path.{◌≡◌, refl, sym, ap, ◌∙◌, subst}
use mathlib.Core.Bool.{Bool, true, false}
use mathlib.Core.List.{List}
use Prim.Native.Nat.{ℕ, ◌<◌}
use native.Mathlib.Omega.{arith}
use Rattle.words.specs.Test.{test}
use Rattle.words.specs.Cursor.{kind_at}
use Rattle.keys.specs.Placed.{Spelling}
use Rattle.keys.specs.Store.{Run}
use Rattle.rules.specs.State.{Result, read, refuse, next, past}
use Rattle.marks.specs.State.{view, given_of, next_mark, past_mark, Inside, Moved}
use Rattle.marks.specs.Laid.{Was, Laid, BuiltAt, Spoken}
use Rattle.marks.specs.Says.{GotNames, SaysNames, SaysNumber}
use Rattle.marks.specs.Notes.{taken_at}
use Rattle.marks.specs.List.{here}
use Rattle.marks.proofs.MarkLaws.{is_here, is_not_here, moved_next, inside_next}
use Rattle.marks.proofs.BuiltLaws.{spoken_from, spoken_to}
use Rattle.marks.specs.declared.state.Given.{Given}
use Rattle.marks.specs.declared.state.Mark.{Mark}
use Rattle.marks.specs.declared.state.Kids.{Kids}
use Rattle.marks.specs.Told.{Answer}
use Rattle.marks.specs.Told.{Head}

-- ---- What stands at a mark

-- The kind that was looked at is k, or it is not, at a mark under another name.
pub is_at : (W : List ℕ) {m q : Mark} (k : ℕ) {r : ℕ} → q ≡ m → r ≡ kind_at W q.at q.half → r ≡ k → here W k m ≡ true
is_at W {m} {q} k i e t = subst (λ (p : Mark). here W k p ≡ true) i (is_here W q e t)

pub not_at : (W : List ℕ) {m q : Mark} (k : ℕ) {r : ℕ} → q ≡ m → r ≡ kind_at W q.at q.half → (r ≡ k → ⊥) → here W k m ≡ false
not_at W {m} {q} k i e t = subst (λ (p : Mark). here W k p ≡ false) i (is_not_here W q e t)

-- Past a mark, if it stands here.
pub view_past : (text W : List ℕ) (given : Given) (k : ℕ) (m : Mark) (O : List ℕ) → view (past_mark W k m) O ≡ past (given_of text W given) k (view m O)
view_past text W given k m O = by (here W k m)
  where
    by : (b : Bool) → view (test b (λ _. next_mark m) (λ _. m)) O ≡ test b (λ _. next (view m O)) (λ _. view m O)
    by true = refl
    by false = refl

-- What is built at a mark is built at another with the same numbers.
pub built_at : {B : Was} {t : Run} {k : Kids} {N M O : List ℕ} (m q : Mark) → q.used ≡ m.used → q.named ≡ m.named → q.noted ≡ m.noted
    → BuiltAt B t k m N M O → BuiltAt B t k q N M O
built_at {B} {t} {k} {N} {M} {O} m q a b c d = rw (a, b, c) d

-- What is laid at a mark is laid at another with the same numbers.
pub laid_at : {B : Was} {t : Run} {N M O : List ℕ} (m q : Mark) → q.used ≡ m.used → q.named ≡ m.named → q.noted ≡ m.noted
    → Laid B t m.used m.named m.noted N M O → Laid B t q.used q.named q.noted N M O
laid_at {B} {t} {N} {M} {O} m q a b c d = rw (a, b, c) d

-- ---- Answers

-- A number was read, or refused.
pub number_read : {x : Result ℕ} {O : List ℕ} (n : ℕ) {m q : Mark} → q ≡ m → x ≡ read n (view m O) → SaysNumber x (record { why = 0; choices = n; m = q }) O
number_read {x} {O} n {m} {q} e h = record { done = λ _. h ∙ ap (λ (p : Mark). read n (view p O)) (sym e); refused = λ z. absurd (z refl) }

pub number_same : {x y : Result ℕ} {O : List ℕ} {r : Head} → y ≡ x → SaysNumber x r O → SaysNumber y r O
number_same {x} {y} {O} {r} e w = subst (λ (z : Result ℕ). SaysNumber z r O) (sym e) w

-- Names were refused.
pub names_refused : {A : Type 0} {R : A → List Spelling} {P : A → Type 0} {x : Result A} {why : ℕ} {m q : Mark} {M M' O : List ℕ}
    → (why ≡ 0 → ⊥) → x ≡ refuse why q.at q.half → SaysNames R P x why m q M M' O
names_refused h e = record { done = λ z. absurd (h z); refused = λ _. e }

-- Names were read.
pub names_read : {A : Type 0} {R : A → List Spelling} {P : A → Type 0} {x : Result A} {m q : Mark} {M M' O : List ℕ}
    → GotNames R P x m q M M' O → SaysNames R P x 0 m q M M' O
names_read g = record { done = λ _. g; refused = λ z. absurd (z refl) }

pub answer_read : {A : Type 0} {R : A → List Spelling} {P : A → Type 0} {x : Result A} {m : Mark} {M M' O : List ℕ} (r : Answer) (q : Mark)
    → r ≡ taken_at q → GotNames R P x m q M M' O → SaysNames R P x r.why m r.m M M' O
answer_read {A} {R} {P} {x} {m} {M} {M'} {O} r q e g = subst (λ (a : Answer). SaysNames R P x a.why m a.m M M' O) (sym e) (names_read g)

-- Names are read behind a token that was taken.
pub names_behind : {A : Type 0} {R : A → List Spelling} {P : A → Type 0} {x y : Result A} {why len : ℕ} {m a q : Mark} {M M' O : List ℕ}
    → y ≡ x → Moved len m a → SaysNames R P x why a q M M' O → SaysNames R P y why m q M M' O
names_behind {m = m} e f w =
    record {
      done = λ z.
          record {
            what = (w.done z).what;
            is = e ∙ (w.done z).is;
            such = (w.done z).such;
            spoken = spoken_from m (sym f.used_is) (sym f.named_is) (sym f.noted_is) (w.done z).spoken;
          };
      refused = λ z. e ∙ w.refused z;
    }

pub names_same : {A : Type 0} {R : A → List Spelling} {P : A → Type 0} {x y : Result A} {why : ℕ} {m q : Mark} {M M' O : List ℕ}
    → y ≡ x → SaysNames R P x why m q M M' O → SaysNames R P y why m q M M' O
names_same {A} {R} {P} {x} {y} {why} {m} {q} {M} {M'} {O} e w = subst (λ (z : Result A). SaysNames R P z why m q M M' O) (sym e) w

-- ---- Marks that moved

module _ {len : ℕ} {m q : Mark} where
  pub moved_then : {p : Mark} → Moved len m p → Moved len p q → Moved len m q
  moved_then a b =
      record {
        onward = omega arith;
        ahead = omega arith;
        inside = omega arith;
        half = omega arith;
        used_is = b.used_is ∙ a.used_is;
        named_is = b.named_is ∙ a.named_is;
        noted_is = b.noted_is ∙ a.noted_is;
      }

-- A token was taken.
pub moved_taken : {len : ℕ} {m q : Mark} → q ≡ next_mark m → Inside len m → m.at < len → Moved len m q
moved_taken {len} {m} e h l = subst (λ (p : Mark). Moved len m p) (sym e) (moved_next h l)

pub inside_taken : {len : ℕ} (m : Mark) {q : Mark} → q ≡ next_mark m → m.at < len → Inside len q
inside_taken {len} m e l = subst (Inside len) (sym e) (inside_next m l)

pub inside_moved : {len : ℕ} {m q : Mark} → Moved len m q → Inside len q
inside_moved a = record { inside = a.inside; half = a.half }

-- What was spoken between two marks was spoken from one with the numbers of the first to one with those of the second.
pub spoken_between : {l : List Spelling} {len : ℕ} {m a q b : Mark} {M M' : List ℕ} → Moved len m a → Moved len q b → Spoken l a q M M' → Spoken l m b M M'
spoken_between {m = m} {b = b} f g s =
    spoken_to b g.used_is g.named_is g.noted_is (spoken_from m (sym f.used_is) (sym f.named_is) (sym f.noted_is) s)
