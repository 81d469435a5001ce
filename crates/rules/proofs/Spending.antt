-- What reading costs, in type rules entered, and how the steps that all rules are made of pay it with tokens (02, W4).
use mathlib.Core.Path.{◌≡◌, refl, sym, ap, ◌∙◌}
use mathlib.Core.Bool.{Bool, true, false}
use mathlib.Core.List.{List}
use Prim.Native.Nat.{ℕ, zero, suc, ◌+◌, ◌*◌, ◌≤◌}
use native.Mathlib.Nat.{mul-le-mul_left}
use native.Mathlib.Omega.{arith}
use borrow.Author.Tests.{eqb-true, ltb-true}
use lib.Dec.{leb, ltb, eqb}
use lib.ListN.{length}
use Rattle.words.specs.Limits.{tallest, most_notes, most_trials, most_entered}
use Rattle.words.specs.Test.{◌or◌, test}
use Rattle.words.specs.Kind.{Extends, LAngle}
use Rattle.keys.specs.Form.{height}
use Rattle.keys.specs.Placed.{Placed, bare}
use Rattle.keys.proofs.BitsLaws.{clash}
use Rattle.rules.specs.Notes.{Note}
use Rattle.rules.specs.State.{Given, Tally, State, Result, read, refuse, then, next, halved, past, kind, stands, on_line, overlong, optional, tallied, entering, make, report, report_if}
use Rattle.rules.specs.Arguments.{opened}
use Rattle.rules.specs.Function.{freed}
use Rattle.rules.proofs.Owing.{Tried}

-- ---- What is paid

-- How many type rules a token pays for, where a more trials may open: each doubles it.
pub rate : ℕ → ℕ
rate zero = 1
rate (suc a) = rate a + rate a

pub rate_twice : (a : ℕ) → rate (suc a) ≡ rate a + rate a
unfolding rate
rate_twice a = refl

pub rate_some : (a : ℕ) → 1 ≤ rate a
unfolding rate
rate_some zero = omega arith
rate_some (suc a) = omega (arith, rate_some a)

pub rate_whole : rate most_trials ≡ 16
unfolding rate
rate_whole = refl

-- A tally where a more trials may open, and whose count keeps its limit.
pub record Here (a : ℕ) (c : Tally) : Type 0 where
  pub more : c.trials + a ≡ most_trials
  pub few : c.entered ≤ most_entered

-- From token i and tally c to token j and tally d: the tokens between pay for the type rules entered, and for m more.
pub record Paid (a m i : ℕ) (c : Tally) (j : ℕ) (d : Tally) : Type 0 where
  pub here : Here a d
  pub grows : c.entered ≤ d.entered
  pub later : i ≤ j
  pub price : d.entered + rate a * i + m ≤ c.entered + rate a * j

-- At q stands an `extends`. The type behind it was tried and put back, and half the rate for each of its tokens would pay for it. D holds of how deep it was tried and whether the `extends` is on its line.
pub record Debt (g : Given) (a : ℕ) (D : ℕ → Bool → Type 0) (q : State) : Type 0 where
  pub level : ℕ
  pub tried : Tried g level q
  pub due : D level (on_line g q)
  pub share : ℕ
  pub twice : rate a ≡ share + share
  pub few : tried.from.tally.entered ≤ most_entered
  pub forward : tried.from.at ≤ tried.to.at
  pub counts : tried.from.tally.entered ≤ tried.to.tally.entered
  pub cost : tried.to.tally.entered + share * tried.from.at ≤ tried.from.tally.entered + share * tried.to.at

-- From token i and tally c to q, where that is owed: the tokens between pay for all else.
pub record Owing (g : Given) (a : ℕ) (D : ℕ → Bool → Type 0) (m i : ℕ) (c : Tally) (q : State) : Type 0 where
  pub debt : Debt g a D q
  pub here : Here a q.tally
  pub grows : c.entered ≤ q.tally.entered
  pub later : i ≤ q.at
  pub told : debt.tried.to.tally.entered ≤ q.tally.entered
  pub price : q.tally.entered + rate a * i + m + debt.share * debt.tried.from.at ≤ c.entered + rate a * q.at + debt.share * debt.tried.to.at

-- How a reading stands at q: all is paid, or something is owed.
pub data Fare (g : Given) (a : ℕ) (D : ℕ → Bool → Type 0) (m i : ℕ) (c : Tally) (q : State) : Type 0 where
  paid : Paid a m i c q.at q.tally → Fare g a D m i c q
  owes : Owing g a D m i c q → Fare g a D m i c q

-- So it stands where it reads.
pub data Ends (g : Given) (a : ℕ) (D : ℕ → Bool → Type 0) (m i : ℕ) (c : Tally) {A : Type 0} : Result A → Type 0 where
  reads : {x : A} {q : State} → Fare g a D m i c q → Ends g a D m i c (read x q)
  stops : {n j h : ℕ} → Ends g a D m i c (refuse n j h)

-- Nothing is owed.
abbrev pub nothing : ℕ → Bool → Type 0
nothing n b = ⊥

-- Something may be owed behind a line break.
abbrev pub broken : ℕ → Bool → Type 0
broken n b = b ≡ false

-- Also on the line, where conditionals are on, for what was tried k type rules deep.
abbrev pub own : Bool → ℕ → ℕ → Bool → Type 0
own on k n b = b ≡ true → (on ≡ true) × (n ≡ k)

pub broken_own : {on : Bool} {k : ℕ} (n : ℕ) (b : Bool) → broken n b → own on k n b
broken_own n b e = λ i. let z : true ≡ false = sym i ∙ e in clash (cc)

-- A rule that pays for all that it enters.
abbrev pub Goes : Given → ℕ → (ℕ → Bool → Type 0) → {A : Type 0} → (State → Result A) → Type 0
Goes g a D rule = (s : State) → Here a s.tally → Ends g a D 0 s.at s.tally (rule s)

-- One that takes a token of its own first, which is left.
abbrev pub Takes : Given → ℕ → (ℕ → Bool → Type 0) → {A : Type 0} → (State → Result A) → Type 0
Takes g a D rule = (s : State) → Here a s.tally → Ends g a D (rate a) s.at s.tally (rule s)

-- ---- Steps of what is paid
module _ {a : ℕ} where
  pub paid_self : {i : ℕ} {c : Tally} → Here a c → Paid a 0 i c i c
  paid_self h = record { here = h; grows = omega arith; later = omega arith; price = omega arith }

  -- A token of its own.
  pub paid_first : {i : ℕ} {c : Tally} → Here a c → Paid a (rate a) i c (i + 1) c
  paid_first h = record { here = h; grows = omega arith; later = omega arith; price = omega arith }

  module _ {m i : ℕ} {c : Tally} where
    pub paid_next : {j : ℕ} {d : Tally} → Paid a m i c j d → Paid a m i c (j + 1) d
    paid_next p = record { here = p.here; grows = p.grows; later = omega arith; price = omega arith }

    pub paid_then : {j k : ℕ} {d e : Tally} → Paid a m i c j d → Paid a 0 j d k e → Paid a m i c k e
    paid_then p q = record { here = q.here; grows = omega arith; later = omega arith; price = omega (arith, p.price, q.price) }

    pub paid_after : {j k : ℕ} {d e : Tally} → Paid a 0 i c j d → Paid a m j d k e → Paid a m i c k e
    paid_after p q = record { here = q.here; grows = omega arith; later = omega arith; price = omega (arith, p.price, q.price) }

    pub paid_less : {j : ℕ} {d : Tally} → Paid a m i c j d → Paid a 0 i c j d
    paid_less p = record { here = p.here; grows = p.grows; later = p.later; price = omega (arith, p.price) }

    pub paid_past : (g : Given) (k : ℕ) (q : State) → Paid a m i c q.at q.tally → Paid a m i c (past g k q).at (past g k q).tally
    paid_past g k q p = by (stands g k q)
      where
        by : (b : Bool) → Paid a m i c (test b (λ _. next q) (λ _. q)).at (test b (λ _. next q) (λ _. q)).tally
        by true = paid_next p
        by false = p

    pub paid_opened : (g : Given) (q : State) → Paid a m i c q.at q.tally → Paid a m i c (opened g q).at (opened g q).tally
    paid_opened g q p = by (stands g LAngle q)
      where
        by : (b : Bool) → Paid a m i c (test b (λ _. next q) (λ _. halved q)).at (test b (λ _. next q) (λ _. halved q)).tally
        by true = paid_next p
        by false = p

-- ---- Steps of what may be owed

-- The same at other nodes, diagnostics and counts.
tried_as : {g : Given} {n : ℕ} {q : State} (k : ℕ) (l : List Note) (d : Tally) → Tried g n q → Tried g n (record { at = q.at; half = q.half; nodes = k; notes = l; tally = d })
tried_as k l d t =
    record { here = t.here; whole = t.whole; from = t.from; behind = t.behind; fresh = t.fresh; tree = t.tree; to = t.to; reads = t.reads; asked = t.asked }

pub debt_as : {g : Given} {a : ℕ} {D : ℕ → Bool → Type 0} {q : State} (k : ℕ) (l : List Note) (d : Tally) → Debt g a D q → Debt g a D (record { at = q.at; half = q.half; nodes = k; notes = l; tally = d })
unfolding tried_as
debt_as k l d x =
    record { level = x.level; tried = tried_as k l d x.tried; due = x.due; share = x.share; twice = x.twice; few = x.few; forward = x.forward; counts = x.counts; cost = x.cost }

debt_by : {g : Given} {a : ℕ} {D D' : ℕ → Bool → Type 0} {q : State} → (stands g Extends q ≡ true → (n : ℕ) → D n (on_line g q) → D' n (on_line g q)) → Debt g a D q → Debt g a D' q
debt_by f x =
    record { level = x.level; tried = x.tried; due = f x.tried.here _ x.due; share = x.share; twice = x.twice; few = x.few; forward = x.forward; counts = x.counts; cost = x.cost }

-- No mark stands where something is owed.
pub no_mark : {g : Given} {a : ℕ} {D : ℕ → Bool → Type 0} {q : State} (f : ℕ → Bool) → f Extends ≡ false → Debt g a D q → f (kind g q) ≡ false
no_mark {g} {q = q} f e x = ap f (eqb-true (kind g q) Extends x.tried.here) ∙ e

module _ {g : Given} {a : ℕ} {m i : ℕ} {c : Tally} where
  module _ {D : ℕ → Bool → Type 0} where
    pub fare_then : {j : ℕ} {d : Tally} {q : State} → Paid a m i c j d → Fare g a D 0 j d q → Fare g a D m i c q
    fare_then p (paid x) = paid (paid_then p x)
    fare_then p (owes o) =
        owes (record { debt = o.debt; here = o.here; grows = omega (arith, p.grows, o.grows); later = omega (arith, p.later, o.later); told = o.told; price = omega (arith, p.price, o.price) })

    pub fare_after : {j : ℕ} {d : Tally} {q : State} → Paid a 0 i c j d → Fare g a D m j d q → Fare g a D m i c q
    fare_after p (paid x) = paid (paid_after p x)
    fare_after p (owes o) =
        owes (record { debt = o.debt; here = o.here; grows = omega (arith, p.grows, o.grows); later = omega (arith, p.later, o.later); told = o.told; price = omega (arith, p.price, o.price) })

    pub fare_less : {q : State} → Fare g a D m i c q → Fare g a D 0 i c q
    fare_less (paid x) = paid (paid_less x)
    fare_less (owes o) = owes (record { debt = o.debt; here = o.here; grows = o.grows; later = o.later; told = o.told; price = omega (arith, o.price) })

    -- The same at other nodes and diagnostics.
    pub fare_as : {q : State} (k : ℕ) (l : List Note) → Fare g a D m i c q → Fare g a D m i c (record { at = q.at; half = q.half; nodes = k; notes = l; tally = q.tally })
    unfolding debt_as tried_as
    fare_as k l (paid x) = paid x
    fare_as {q} k l (owes o) = owes (record { debt = debt_as k l q.tally o.debt; here = o.here; grows = o.grows; later = o.later; told = o.told; price = o.price })

    pub fare_freed : (b : Bool) (s q : State) → Fare g a D m i c q → Fare g a D m i c (freed b s q)
    fare_freed true s q f = fare_as s.nodes q.notes f
    fare_freed false s q f = f

    -- Past a mark, if it stands there.
    pub fare_past : (k : ℕ) → eqb Extends k ≡ false → (q : State) → Fare g a D m i c q → Fare g a D m i c (past g k q)
    fare_past k e q (paid p) = paid (paid_past g k q p)
    fare_past k e q (owes o) = rw (no_mark (λ (j : ℕ). eqb j k) e o.debt) (owes o)

    pub fare_here : {q : State} → Fare g a D m i c q → Here a q.tally
    fare_here (paid x) = x.here
    fare_here (owes o) = o.here

    pub fare_grows : {q : State} → Fare g a D m i c q → c.entered ≤ q.tally.entered
    fare_grows (paid x) = x.grows
    fare_grows (owes o) = o.grows

    pub fare_later : {q : State} → Fare g a D m i c q → i ≤ q.at
    fare_later (paid x) = x.later
    fare_later (owes o) = o.later

    -- The same with another tally of as many type rules.
    pub fare_tallied : (q : State) (k : ℕ) → Here a (record { entered = q.tally.entered; trials = k }) → Fare g a D m i c q → Fare g a D m i c (tallied q q.tally.entered k)
    unfolding debt_as tried_as
    fare_tallied q k h (paid x) = paid (record { here = h; grows = x.grows; later = x.later; price = x.price })
    fare_tallied q k h (owes o) = owes (record { debt = debt_as _ _ _ o.debt; here = h; grows = o.grows; later = o.later; told = o.told; price = o.price })

  pub fare_by : {D D' : ℕ → Bool → Type 0} {q : State} → (stands g Extends q ≡ true → (n : ℕ) → D n (on_line g q) → D' n (on_line g q)) → Fare g a D m i c q → Fare g a D' m i c q
  unfolding debt_by
  fare_by f (paid x) = paid x
  fare_by f (owes o) = owes (record { debt = debt_by f o.debt; here = o.here; grows = o.grows; later = o.later; told = o.told; price = o.price })

  pub fare_may : {D D' : ℕ → Bool → Type 0} {q : State} → ((n : ℕ) (b : Bool) → D n b → D' n b) → Fare g a D m i c q → Fare g a D' m i c q
  fare_may f x = fare_by (λ _ n. f n _) x

  -- Where nothing is owed, all is paid.
  pub sure : {q : State} → Fare g a nothing m i c q → Paid a m i c q.at q.tally
  sure (paid x) = x
  sure (owes o) = absurd o.debt.due

-- What was read under one more trial, said of one trial less: twice the rate pays as well.
module _ {g : Given} {a : ℕ} {D : ℕ → Bool → Type 0} {i : ℕ} {c d : Tally} where
  pub fare_raised : (q : State) (k : ℕ) → Here (suc a) (record { entered = q.tally.entered; trials = k }) → c.entered ≡ d.entered → Fare g a D 0 i c q
      → Fare g (suc a) D 0 i d (tallied q q.tally.entered k)
  unfolding tried_as
  fare_raised q k h e (paid x) =
      let both = ap (λ (r : ℕ). r * i) (rate_twice a) in
      let both' = ap (λ (r : ℕ). r * q.at) (rate_twice a) in
      paid (record { here = h; grows = omega (arith, x.grows); later = x.later; price = omega (arith, x.price, both, both', mul-le-mul_left (rate a) x.later) })
  fare_raised q k h e (owes o) =
      let x = o.debt in
      let from = x.tried.from.at in
      let to = x.tried.to.at in
      let both = ap (λ (r : ℕ). r * i) (rate_twice a) in
      let both' = ap (λ (r : ℕ). r * q.at) (rate_twice a) in
      let half = ap (λ (r : ℕ). r * from) x.twice in
      let half' = ap (λ (r : ℕ). r * to) x.twice in
      let forth = mul-le-mul_left x.share x.forward in
      let on = mul-le-mul_left (rate a) o.later in
      owes (record {
        debt = record {
          level = x.level;
          tried = tried_as _ _ _ x.tried;
          due = x.due;
          share = rate a;
          twice = rate_twice a;
          few = x.few;
          forward = x.forward;
          counts = x.counts;
          cost = omega (arith, x.cost, half, half', forth);
        };
        here = h;
        grows = omega (arith, o.grows);
        later = o.later;
        told = o.told;
        price = omega (arith, o.price, both, both', half, half', forth, on);
      })

-- ---- Entering a type rule

pub entering_here : {a : ℕ} (s : State) → Here a s.tally → Here a (entering s).tally
entering_here {a} s h = record { more = h.more; few = by (ltb s.tally.entered most_entered) refl }
  where
    by : (b : Bool) → ltb s.tally.entered most_entered ≡ b → test b (λ _. s.tally.entered + 1) (λ _. s.tally.entered) ≤ most_entered
    by true e = omega (arith, ltb-true s.tally.entered most_entered e)
    by false e = omega (arith, h.few)

-- One more at most, and no less.
entering_one : (s : State) → (s.tally.entered ≤ (entering s).tally.entered) × ((entering s).tally.entered ≤ s.tally.entered + 1)
entering_one s = by (ltb s.tally.entered most_entered)
  where
    by : (b : Bool) → (s.tally.entered ≤ test b (λ _. s.tally.entered + 1) (λ _. s.tally.entered)) × (test b (λ _. s.tally.entered + 1) (λ _. s.tally.entered) ≤ s.tally.entered + 1)
    by true = (omega arith, omega arith)
    by false = (omega arith, omega arith)

-- A token of its own pays for the type rule itself.
pub entering_ends : {g : Given} {a : ℕ} {D : ℕ → Bool → Type 0} {A : Type 0} {r : Result A} (s : State) → Ends g a D (rate a) s.at (entering s).tally r → Ends g a D 0 s.at s.tally r
entering_ends {a = a} s (reads (paid x)) =
    let one = entering_one s in
    reads (paid (record { here = x.here; grows = omega (arith, x.grows, one); later = x.later; price = omega (arith, x.price, one, rate_some a) }))
entering_ends {a = a} s (reads (owes o)) =
    let one = entering_one s in
    reads (owes (record { debt = o.debt; here = o.here; grows = omega (arith, o.grows, one); later = o.later; told = o.told; price = omega (arith, o.price, one, rate_some a) }))
entering_ends s stops = stops

-- ---- Steps of rules
module _ {g : Given} {a : ℕ} where
  pub ends_then : {D D' : ℕ → Bool → Type 0} {m i m' i' : ℕ} {c c' : Tally} {A B : Type 0} {r : Result A} {on : A → State → Result B} → Ends g a D m i c r
      → ((x : A) (q : State) → Fare g a D m i c q → Ends g a D' m' i' c' (on x q)) → Ends g a D' m' i' c' (then r on)
  ends_then (reads {x = x} {q = q} f) k = k x q f
  ends_then stops k = stops

  -- Where nothing is owed.
  pub pays_then : {D' : ℕ → Bool → Type 0} {m i m' i' : ℕ} {c c' : Tally} {A B : Type 0} {r : Result A} {on : A → State → Result B} → Ends g a nothing m i c r
      → ((x : A) (q : State) → Paid a m i c q.at q.tally → Ends g a D' m' i' c' (on x q)) → Ends g a D' m' i' c' (then r on)
  pays_then (reads {x = x} {q = q} f) k = k x q (sure f)
  pays_then stops k = stops

  -- Told what was read.
  pub ends_by : {a' : ℕ} {D D' : ℕ → Bool → Type 0} {m i m' i' : ℕ} {c c' : Tally} {A B : Type 0} {r : Result A} {on : A → State → Result B} → Ends g a' D m i c r
      → ((x : A) (q : State) → r ≡ read x q → Fare g a' D m i c q → Ends g a D' m' i' c' (on x q)) → Ends g a D' m' i' c' (then r on)
  ends_by (reads {x = x} {q = q} f) k = k x q refl f
  ends_by stops k = stops

  module _ {D : ℕ → Bool → Type 0} {m i : ℕ} {c : Tally} {A : Type 0} where
    pub ends_test : (b : Bool) {x y : Unit {0} → Result A} → (b ≡ true → (u : Unit {0}) → Ends g a D m i c (x u)) → (b ≡ false → (u : Unit {0}) → Ends g a D m i c (y u))
        → Ends g a D m i c (test b x y)
    ends_test true f h = f refl tt
    ends_test false f h = h refl tt

    -- What must hold: all else is refused.
    pub ends_must : (b : Bool) {x y : Unit {0} → Result A} → (b ≡ false → (u : Unit {0}) → Ends g a D m i c (y u)) → (b ≡ true → (u : Unit {0}) → Ends g a D m i c (x u))
        → Ends g a D m i c (test b x y)
    ends_must b f h = ends_test b h f

    pub out : {P : Type 0} {n j h : ℕ} → P → Unit {0} → Ends g a D m i c {A = A} (refuse n j h)
    out x u = stops

    -- What has to be shown only if it reads.
    pub ends_if : (r : Result A) → ((x : A) (q : State) → r ≡ read x q → Ends g a D m i c r) → Ends g a D m i c r
    ends_if (read x q) f = f x q refl
    ends_if (refuse n j h) f = stops

    pub ends_on : {j : ℕ} {d : Tally} {r : Result A} → Paid a m i c j d → Ends g a D 0 j d r → Ends g a D m i c r
    ends_on p (reads f) = reads (fare_then p f)
    ends_on p stops = stops

    pub ends_after : {j : ℕ} {d : Tally} {r : Result A} → Paid a 0 i c j d → Ends g a D m j d r → Ends g a D m i c r
    ends_after p (reads f) = reads (fare_after p f)
    ends_after p stops = stops

    pub ends_less : {r : Result A} → Ends g a D m i c r → Ends g a D 0 i c r
    ends_less (reads f) = reads (fare_less f)
    ends_less stops = stops

    pub ends_may : {D' : ℕ → Bool → Type 0} {r : Result A} → ((n : ℕ) (b : Bool) → D n b → D' n b) → Ends g a D m i c r → Ends g a D' m i c r
    ends_may k (reads f) = reads (fare_may k f)
    ends_may k stops = stops

    pub pays_any : {r : Result A} → Ends g a nothing m i c r → Ends g a D m i c r
    pays_any (reads f) = reads (paid (sure f))
    pays_any stops = stops

  module _ {D : ℕ → Bool → Type 0} {m i : ℕ} {c : Tally} {A : Type 0} where
    -- A rule from where all is paid.
    pub goes_on_lem : (q : State) {rule : State → Result A} → Paid a m i c q.at q.tally → Goes g a D rule → Ends g a D m i c (rule q)
    goes_on_lem q p f = ends_on p (f q p.here)

    pub takes_on : (q : State) {rule : State → Result A} → Paid a m i c q.at q.tally → Takes g a D rule → Ends g a D m i c (rule q)
    takes_on q p f = ends_on p (ends_less (f q p.here))

  module _ {D D' : ℕ → Bool → Type 0} {m i m' i' : ℕ} {c c' : Tally} {A : Type 0} where
    -- A token that passes a test, where something may be owed: `extends` does not pass it.
    pub fare_if : (f : ℕ → Bool) → f Extends ≡ false → (q : State) {x y : Unit {0} → Result A} → Fare g a D m i c q
        → (Paid a m i c q.at q.tally → (u : Unit {0}) → Ends g a D' m' i' c' (x u)) → (Fare g a D m i c q → (u : Unit {0}) → Ends g a D' m' i' c' (y u))
        → Ends g a D' m' i' c' (test (f (kind g q)) x y)
    fare_if f e q (paid p) h k = ends_test (f (kind g q)) (λ _ u. h p u) λ _ u. k (paid p) u
    fare_if f e q (owes o) h k = ends_test (f (kind g q)) (λ i u. let z = no_mark f e o.debt in clash (cc)) λ _ u. k (owes o) u

    -- A mark that is taken, or not there.
    pub fare_test : (k : ℕ) → eqb Extends k ≡ false → (q : State) {x y : Unit {0} → Result A} → Fare g a D m i c q
        → (Paid a m i c (q.at + 1) q.tally → (u : Unit {0}) → Ends g a D' m' i' c' (x u)) → (Fare g a D m i c q → (u : Unit {0}) → Ends g a D' m' i' c' (y u))
        → Ends g a D' m' i' c' (test (stands g k q) x y)
    fare_test k e q f h l = fare_if (λ j. eqb j k) e q f (λ p u. h (paid_next p) u) l

    -- A mark that must be there: all else is refused.
    pub fare_mark : (k : ℕ) → eqb Extends k ≡ false → (q : State) {x y : Unit {0} → Result A} → Fare g a D m i c q
        → (Fare g a D m i c q → (u : Unit {0}) → Ends g a D' m' i' c' (y u)) → (Paid a m i c (q.at + 1) q.tally → (u : Unit {0}) → Ends g a D' m' i' c' (x u))
        → Ends g a D' m' i' c' (test (stands g k q) x y)
    fare_mark k e q f l h = fare_test k e q f h l

    pub fare_report : (n : Note) (q : State) (on : State → Result A) → Fare g a D m i c q → ((q : State) → Fare g a D m i c q → Ends g a D' m' i' c' (on q))
        → Ends g a D' m' i' c' (report g n q on)
    fare_report n q on f h = ends_test (leb most_notes (length q.notes) or leb g.records (length q.notes)) out λ _ _. h _ (fare_as _ _ f)

    pub fare_report_if : (b : Bool) (n : Note) (q : State) (on : State → Result A) → Fare g a D m i c q → ((q : State) → Fare g a D m i c q → Ends g a D' m' i' c' (on q))
        → Ends g a D' m' i' c' (report_if b g n q on)
    fare_report_if true n q on f h = fare_report n q on f h
    fare_report_if false n q on f h = h q f

  module _ {D : ℕ → Bool → Type 0} {m i : ℕ} {c : Tally} where
    pub fare_make : (l : List ℕ) (t : Placed) (q : State) → Fare g a D m i c q → Ends g a D m i c (make g l t q)
    unfolding make
    fare_make l t q f =
        ends_test (overlong l) out λ _ _.
        ends_test (ltb tallest (height (bare t))) out λ _ _.
        ends_test (leb g.room q.nodes) out λ _ _.
        reads (fare_as (q.nodes + 1) q.notes f)

    -- A part after a mark.
    pub optional_by : (k : ℕ) (q : State) (part : State → Result Placed) → Goes g a D part → Paid a m i c q.at q.tally → Ends g a D m i c (optional g k part q)
    optional_by k q part f p = ends_test (stands g k q) (λ _ _. ends_then (goes_on_lem (next q) (paid_next p) f) λ t q b. reads b) λ _ _. reads (paid p)

    -- One that `extends` does not begin, where something may be owed.
    pub optional_on : (k : ℕ) → eqb Extends k ≡ false → (q : State) (part : State → Result Placed) → Goes g a D part → Fare g a D m i c q → Ends g a D m i c (optional g k part q)
    optional_on k e q part f b = fare_test k e q b (λ p _. ends_then (goes_on_lem (next q) p f) λ t q b. reads b) λ b _. reads b
