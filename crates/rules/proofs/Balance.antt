-- Brackets: how many are opened and closed before a cursor, and how the steps that all rules are made of keep the balance.
use mathlib.Core.Path.{◌≡◌, refl, sym, ap, ◌∙◌}
use mathlib.Core.Bool.{Bool, true, false, not}
use mathlib.Core.List.{List, [], ◌∷◌}
use mathlib.Core.Logic.{⊎_elim}
use Prim.Native.Nat.{ℕ, zero, suc, ◌+◌, ◌-◌, ◌≤◌, ◌<◌}
use native.Mathlib.Numerals.{add-one}
use native.Mathlib.Omega.{arith}
use borrow.Author.Tests.{eqb-true}
use lib.Dec.{eqb, leb, ltb}
use lib.ListN.{length}
use Rattle.words.specs.Limits.{tallest, most_notes}
use Rattle.words.specs.Test.{◌and◌, ◌or◌, test}
use Rattle.words.specs.Kind.{Eof, TemplateHead, TemplateTail, LCurly, RCurly, LBrack, RBrack, LParen, RParen, LAngle, RAngle, ShiftLeft, LtEq, ShiftLeftEq, Eq}
use Rattle.words.specs.Cursor.{second_half, left, whole_kind, kind_at}
use Rattle.keys.specs.Form.{height}
use Rattle.keys.specs.Placed.{Placed, bare}
use Rattle.keys.proofs.BitsLaws.{clash, le_or_lt}
use Rattle.rules.specs.Notes.{Note}
use Rattle.rules.specs.State.{Given, State, Result, read, refuse, then, next, past, stands, kind, overlong, make, report, report_if}

-- ---- Counting

-- How often a kind stands in a list.
unfoldable pub times : ℕ → List ℕ → ℕ
times k [] = 0
times k (x ∷ l) = test (eqb k x) (λ _. suc (times k l)) (λ _. times k l)

-- What opens; a token that can be split opens with each half that is a `<`.
abbrev pub openers : List ℕ
openers = LCurly ∷ LBrack ∷ LParen ∷ TemplateHead ∷ LAngle ∷ LtEq ∷ ShiftLeft ∷ ShiftLeft ∷ ShiftLeftEq ∷ ShiftLeftEq ∷ []

-- What closes.
abbrev pub closers : List ℕ
closers = RCurly ∷ RBrack ∷ RParen ∷ TemplateTail ∷ RAngle ∷ []

-- How often kinds of a list stand before an index.
unfoldable pub before : List ℕ → List ℕ → ℕ → ℕ
before l words zero = 0
before l words (suc i) = before l words i + times (whole_kind words i) l

-- The same before a cursor, where of a token's count what is left of it is no part.
unfoldable pub taken : List ℕ → List ℕ → ℕ → ℕ → ℕ
taken l words at half = before l words at + (times (whole_kind words at) l - times (kind_at words at half) l)

-- Brackets opened before a cursor, and closed.
abbrev pub up : List ℕ → ℕ → ℕ → ℕ
up words at half = taken openers words at half

abbrev pub down : List ℕ → ℕ → ℕ → ℕ
down words at half = taken closers words at half

-- A kind that opens one bracket.
pub record Opener (k : ℕ) : Type 0 where
  pub opens : times k openers ≡ 1
  pub closes : times k closers ≡ 0

-- A kind that closes one.
pub record Closer (k : ℕ) : Type 0 where
  pub opens : times k openers ≡ 0
  pub closes : times k closers ≡ 1

pub curly_opens : Opener LCurly
unfolding times
curly_opens = record { opens = refl; closes = refl }

pub brack_opens : Opener LBrack
unfolding times
brack_opens = record { opens = refl; closes = refl }

pub paren_opens : Opener LParen
unfolding times
paren_opens = record { opens = refl; closes = refl }

pub angle_opens : Opener LAngle
unfolding times
angle_opens = record { opens = refl; closes = refl }

pub head_opens : Opener TemplateHead
unfolding times
head_opens = record { opens = refl; closes = refl }

pub curly_closes : Closer RCurly
unfolding times
curly_closes = record { opens = refl; closes = refl }

pub brack_closes : Closer RBrack
unfolding times
brack_closes = record { opens = refl; closes = refl }

pub paren_closes : Closer RParen
unfolding times
paren_closes = record { opens = refl; closes = refl }

pub angle_closes : Closer RAngle
unfolding times
angle_closes = record { opens = refl; closes = refl }

pub tail_closes : Closer TemplateTail
unfolding times
tail_closes = record { opens = refl; closes = refl }

-- A second half counts no more than the whole.
half_less : (l : List ℕ) → times LAngle l ≤ times ShiftLeft l → times Eq l ≤ times LtEq l → times LtEq l ≤ times ShiftLeftEq l → times Eof l ≡ 0 → (h k : ℕ) → times (left h k) l ≤ times k l
half_less l a b c e zero k = omega arith
half_less l a b c e (suc h) k = by (eqb k ShiftLeft) (eqb k LtEq) (eqb k ShiftLeftEq) refl refl refl
  where
    by : (x y z : Bool) → eqb k ShiftLeft ≡ x → eqb k LtEq ≡ y → eqb k ShiftLeftEq ≡ z → times (test x (λ _. LAngle) (λ _. test y (λ _. Eq) (λ _. test z (λ _. LtEq) (λ _. Eof)))) l ≤ times k l
    by true y z i j m = rw (eqb-true k ShiftLeft i) a
    by false true z i j m = rw (eqb-true k LtEq j) b
    by false false true i j m = rw (eqb-true k ShiftLeftEq m) c
    by false false false i j m = omega (arith, e)

opens_less : (h k : ℕ) → times (left h k) openers ≤ times k openers
unfolding times
opens_less h k = half_less openers (omega arith) (omega arith) (omega arith) refl h k

closes_less : (h k : ℕ) → times (left h k) closers ≤ times k closers
unfolding times
closes_less h k = half_less closers (omega arith) (omega arith) (omega arith) refl h k

-- Past a token, or past what is left of it.
taken_next : (l words : List ℕ) (i h : ℕ) → times (kind_at words i h) l ≤ times (whole_kind words i) l → taken l words (i + 1) 0 ≡ taken l words i h + times (kind_at words i h) l
unfolding taken before
taken_next l words i h e = rw (add-one i) (omega arith)

up_next : (words : List ℕ) (i h : ℕ) → up words (i + 1) 0 ≡ up words i h + times (kind_at words i h) openers
up_next words i h = taken_next openers words i h (opens_less h (whole_kind words i))

down_next : (words : List ℕ) (i h : ℕ) → down words (i + 1) 0 ≡ down words i h + times (kind_at words i h) closers
down_next words i h = taken_next closers words i h (closes_less h (whole_kind words i))

-- ---- Level

-- From cursor i, h to cursor j, k: so many more brackets are open, and at no token between were fewer open than at the first.
pub record Level (words : List ℕ) (d i h j k : ℕ) : Type 0 where
  pub level : up words j k + down words i h ≡ up words i h + down words j k + d
  pub later : i ≤ j
  pub floor : (m : ℕ) → i < m → m ≤ j → down words m 0 + up words i h ≤ up words m 0 + down words i h

-- From cursor i, h to right behind the bracket that closes what was open there, at j, k.
pub record Shut (words : List ℕ) (i h j k : ℕ) : Type 0 where
  pub last : ℕ
  pub half : ℕ
  pub inside : Level words 0 i h last half
  pub opens : times (kind_at words last half) openers ≡ 0
  pub closes : times (kind_at words last half) closers ≡ 1
  pub at : j ≡ last + 1
  pub whole : k ≡ 0

-- A reading may stand there: as many brackets are open as at o.
abbrev pub Balanced : Given → State → State → Type 0
Balanced g o s = Level g.words 0 o.at o.half s.at s.half

-- One more is open than at o.
abbrev pub Opened : Given → State → State → Type 0
Opened g o s = Level g.words 1 o.at o.half s.at s.half

pub level_here : {words : List ℕ} {i h : ℕ} → Level words 0 i h i h
level_here = record { level = omega arith; later = omega arith; floor = λ m a b. absurd (omega arith) }

pub level_on : {words : List ℕ} {d e i h j k m n : ℕ} → Level words d i h j k → Level words e j k m n → Level words (d + e) i h m n
level_on {words} {d} {e} {i} {h} {j} {k} {m} {n} a b =
    record {
      level = omega (arith, a.level, b.level);
      later = omega (arith, a.later, b.later);
      floor = λ x l u. ⊎_elim (λ r. a.floor x l r) (λ r. omega (arith, a.level, b.floor x r u)) (le_or_lt x j);
    }

-- Past a token that opens d brackets and closes none.
pub level_next : {words : List ℕ} {d i h : ℕ} → times (kind_at words i h) openers ≡ d → times (kind_at words i h) closers ≡ 0 → Level words d i h (i + 1) 0
level_next {words} {d} {i} {h} o c =
    let a = up_next words i h in
    let b = down_next words i h in
    record {
      level = omega (arith, a, b, o, c);
      later = omega arith;
      floor = λ x l u. let e : x ≡ i + 1 = omega arith in rw e (omega (arith, a, b, c));
    }

-- What was opened and is closed.
pub level_round : {words : List ℕ} {i h j k m n : ℕ} → Level words 1 i h j k → Shut words j k m n → Level words 0 i h m n
level_round {words} {i} {h} {j} {k} {m} {n} a b =
    let x = up_next words b.last b.half in
    let y = down_next words b.last b.half in
    let z = b.inside in
    rw (b.at, b.whole) (record {
      level = omega (arith, a.level, z.level, x, y, b.opens, b.closes);
      later = omega (arith, a.later, z.later);
      floor = λ v l u. ⊎_elim (λ r. a.floor v l r) (λ r. ⊎_elim (λ t. omega (arith, a.level, z.floor v r t)) (λ (t : b.last < v). last v t u) (le_or_lt v b.last)) (le_or_lt v j);
    })
  where
    last : (v : ℕ) → b.last < v → v ≤ b.last + 1 → down words v 0 + up words i h ≤ up words v 0 + down words i h
    last v t u =
        let e : v ≡ b.last + 1 = omega arith in
        rw e (omega (arith, a.level, b.inside.level, up_next words b.last b.half, down_next words b.last b.half, b.opens, b.closes))

-- Two readings that begin at the same cursor and end right behind what closes it end at the same token.
pub shut_same : {words : List ℕ} {i h j k m n : ℕ} → Shut words i h j k → Shut words i h m n → j ≡ m
shut_same {words} {i} {h} {j} {k} {m} {n} a b = ⊎_elim (λ l. ⊎_elim (λ r. omega arith) (λ r. absurd (earlier a b r)) (le_or_lt m j)) (λ r. absurd (earlier b a r)) (le_or_lt j m)
  where
    earlier : {j k m n : ℕ} → Shut words i h j k → Shut words i h m n → j < m → ⊥
    earlier {j} {k} {m} {n} a b l =
        let x = up_next words a.last a.half in
        let y = down_next words a.last a.half in
        let z = b.inside.floor (a.last + 1) (omega (arith, a.inside.later)) (omega (arith, a.at, b.at)) in
        omega (arith, x, y, z, a.inside.level, a.opens, a.closes)

-- ---- Tokens

-- No kind of a list passes a test.
abbrev pub none : (ℕ → Bool) → List ℕ → Bool
none f [] = true
none f (x ∷ l) = not (f x) and none f l

none_times : (f : ℕ → Bool) (l : List ℕ) (k : ℕ) → none f l ≡ true → f k ≡ true → times k l ≡ 0
unfolding times
none_times f [] k e h = refl
none_times f (x ∷ l) k e h = by (eqb k x) (f x) refl refl e λ m. none_times f l k m h
  where
    by : (b c : Bool) → eqb k x ≡ b → f x ≡ c → not c and none f l ≡ true → (none f l ≡ true → times k l ≡ 0) → test b (λ _. suc (times k l)) (λ _. times k l) ≡ 0
    by true true i j m on = clash (cc)
    by true false i j m on = let z : true ≡ false = sym h ∙ ap f (eqb-true k x i) ∙ j in clash (cc)
    by false true i j m on = clash (cc)
    by false false i j m on = on m

-- No bracket passes a test.
abbrev pub flat : (ℕ → Bool) → Bool
flat f = none f openers and none f closers

flat_both : (a b : Bool) → a and b ≡ true → (a ≡ true) × (b ≡ true)
flat_both true b e = (refl, e)
flat_both false b e = clash (cc)

module _ (g : Given) where
  -- Past a token that passes a test which no bracket passes.
  pub flat_next : {i h : ℕ} (f : ℕ → Bool) → flat f ≡ true → (s : State) → f (kind g s) ≡ true → Level g.words 0 i h s.at s.half → Level g.words 0 i h (s.at + 1) 0
  flat_next f e s h b =
      let n = flat_both (none f openers) (none f closers) e in
      level_on b (level_next (none_times f openers (kind g s) n.0 h) (none_times f closers (kind g s) n.1 h))

  -- Past a mark that may stand here and is no bracket.
  pub flat_past : {i h : ℕ} (k : ℕ) → flat (λ j. eqb j k) ≡ true → (s : State) → Level g.words 0 i h s.at s.half → Level g.words 0 i h (past g k s).at (past g k s).half
  flat_past {i} {h} k e s b = by (stands g k s) refl
    where
      by : (c : Bool) → stands g k s ≡ c → Level g.words 0 i h (test c (λ _. next s) (λ _. s)).at (test c (λ _. next s) (λ _. s)).half
      by true j = flat_next (λ j. eqb j k) e s j b
      by false j = b

  -- Past a mark that opens.
  pub open_next : (k : ℕ) → Opener k → (s : State) → stands g k s ≡ true → Opened g s (next s)
  open_next k o s e = let i = eqb-true (kind g s) k e in level_next (ap (λ (j : ℕ). times j openers) i ∙ o.opens) (ap (λ (j : ℕ). times j closers) i ∙ o.closes)

  -- Past a mark that closes.
  pub close_next : {i h : ℕ} (k : ℕ) → Closer k → (s : State) → stands g k s ≡ true → Level g.words 0 i h s.at s.half → Shut g.words i h (s.at + 1) 0
  close_next k c s e b =
      let i = eqb-true (kind g s) k e in
      record { last = s.at; half = s.half; inside = b; opens = ap (λ (j : ℕ). times j openers) i ∙ c.opens; closes = ap (λ (j : ℕ). times j closers) i ∙ c.closes; at = refl; whole = refl }

-- The first half of a token that can be split opens.
pub open_half : (words : List ℕ) (i k : ℕ) → whole_kind words i ≡ k → times k openers ≡ times (second_half k) openers + 1 → times k closers ≡ 0 → times (second_half k) closers ≡ 0
    → Level words 1 i 0 i 1
unfolding taken
open_half words i k e o c d = record { level = rw e (omega (arith, o, c, d)); later = omega arith; floor = λ m a b. absurd (omega arith) }

-- What was opened and closed again is in balance with what was before.
pub round : {words : List ℕ} {x y i h j k m n : ℕ} → Level words 0 x y i h → Level words 1 i h j k → Shut words j k m n → Level words 0 x y m n
round b a c = level_on b (level_round a c)

-- ---- Rules

-- What a rule reads ends at such a cursor.
pub data Ends {A : Type 0} (P : ℕ → ℕ → Type 0) : Result A → Type 0 where
  ends : {a : A} {q : State} → P q.at q.half → Ends P (read a q)
  stops : {n i h : ℕ} → Ends P (refuse n i h)

-- Such cursors: with as many brackets open as at o, or right behind what closes it.
abbrev pub Even : Given → State → ℕ → ℕ → Type 0
Even g o i h = Level g.words 0 o.at o.half i h

abbrev pub Behind : Given → State → ℕ → ℕ → Type 0
Behind g o i h = Shut g.words o.at o.half i h

-- A rule closes what it opens, and nothing else.
abbrev pub Keeps : Given → {A : Type 0} → (State → Result A) → Type 0
Keeps g rule = (o s : State) → Balanced g o s → Ends (Even g o) (rule s)

-- It does where a test holds.
abbrev pub KeepsIf : Given → (State → Bool) → {A : Type 0} → (State → Result A) → Type 0
KeepsIf g ok rule = (o s : State) → ok s ≡ true → Balanced g o s → Ends (Even g o) (rule s)

-- From behind an opening bracket on, it ends right behind what closes it.
abbrev pub Closes : Given → {A : Type 0} → (State → Result A) → Type 0
Closes g rule = (o s : State) → Balanced g o s → Ends (Behind g o) (rule s)

pub ends_then : {A B : Type 0} {P Q : ℕ → ℕ → Type 0} {r : Result A} {on : A → State → Result B} → Ends P r → ((a : A) (q : State) → P q.at q.half → Ends Q (on a q)) → Ends Q (then r on)
ends_then (ends {a = a} {q = q} p) f = f a q p
ends_then stops f = stops

-- What ends right behind what closes is in balance with what was before the bracket.
pub ends_round : {A : Type 0} {words : List ℕ} {x y i h j k : ℕ} {r : Result A} → Level words 0 x y i h → Level words 1 i h j k → Ends (Shut words j k) r → Ends (Level words 0 x y) r
ends_round b a (ends p) = ends (round b a p)
ends_round b a stops = stops

-- The same place with other diagnostics.
abbrev pub noted : State → List Note → State
noted s l = record { at = s.at; half = s.half; nodes = s.nodes; notes = l; tally = s.tally }

module _ {A : Type 0} {P : ℕ → ℕ → Type 0} where
  pub ends_test : (b : Bool) {x y : Unit {0} → Result A} → (b ≡ true → (u : Unit {0}) → Ends P (x u)) → (b ≡ false → (u : Unit {0}) → Ends P (y u)) → Ends P (test b x y)
  ends_test true f h = f refl tt
  ends_test false f h = h refl tt

  -- A refusal, where a test says so.
  pub stopped : {n i h : ℕ} {b c : Bool} → b ≡ c → Unit {0} → Ends {A = A} P (refuse n i h)
  stopped e u = stops

  pub ends_report : (g : Given) (n : Note) (s : State) (on : State → Result A) → ((l : List Note) → Ends P (on (noted s l))) → Ends P (report g n s on)
  ends_report g n s on f = ends_test (leb most_notes (length s.notes) or leb g.records (length s.notes)) stopped λ _ _. f _

  pub ends_report_if : (c : Bool) (g : Given) (n : Note) (s : State) (on : State → Result A) → ((l : List Note) → Ends P (on (noted s l))) → Ends P (report_if c g n s on)
  ends_report_if true g n s on f = ends_report g n s on f
  ends_report_if false g n s on f = f s.notes

pub ends_make : {P : ℕ → ℕ → Type 0} (g : Given) (l : List ℕ) (t : Placed) (s : State) → P s.at s.half → Ends P (make g l t s)
unfolding make
ends_make g l t s b =
    ends_test (overlong l) stopped λ _ _.
    ends_test (ltb tallest (height (bare t))) stopped λ _ _.
    ends_test (leb g.room s.nodes) stopped λ _ _. ends b
