-- What is shown of a rule wherever it reads: a predicate on results, and how the steps that all rules are made of keep it.
use mathlib.Core.Path.{◌≡◌, refl, ap, ◌∙◌}
use mathlib.Core.Bool.{Bool, true, false}
use mathlib.Core.List.{List, [], ◌∷◌, ◌++◌}
use Prim.Native.Nat.{ℕ, ◌+◌, ◌*◌, ◌^◌, ◌≤◌, ◌<◌}
use native.Mathlib.Numerals.{add-one}
use native.Mathlib.Omega.{arith}
use borrow.Author.Tests.{ltb-false, leb-false}
use lib.Dec.{T, leb, ltb, eqb}
use lib.ListN.{length, length-append}
use Rattle.words.specs.Limits.{longest, tallest, most_notes}
use Rattle.words.specs.Test.{◌or◌, test}
use Rattle.words.specs.Word.{size, end as wordEnd}
use Rattle.words.specs.Kind.{Eof}
use Rattle.words.specs.Cursor.{word_at, end_byte}
use Rattle.keys.specs.Form.{Value, nothing, pair, Form, height, nodes}
use Rattle.keys.specs.Limits.{count_width}
use Rattle.keys.specs.Table.{type}
use Rattle.keys.specs.Placed.{Placed, void, pick, join, tree, bare, Spelling, Opt, absent, present, entries}
use Rattle.keys.proofs.Fitting.{Is, IsSpelling, Each, IfAny, Few, IsList, IsNames}
use Rattle.keys.proofs.Makers.{each_more}
use Rattle.keys.proofs.BitsLaws.{clash}
use Rattle.rules.specs.Notes.{Note, NoteStands}
use Rattle.rules.specs.State.{Given, State, Result, Reader, read, refuse, then, next, past, stands, kind, first, end, spelling, overlong, make, report, report_if, tallied}
use Rattle.rules.specs.Refusal.{is_rule}
use Rattle.rules.specs.Call.{IsCursor}
use Rattle.rules.specs.List.{count}
use Rattle.rules.specs.Told.{Told}
use Rattle.rules.specs.Weight.{weight}
use Rattle.rules.proofs.ToldLaws.{told_more}
use Rattle.rules.proofs.TokenLaws.{no_end, whole_end, Checked, token_spells, taken_before, word_inside, word_sized}
use Rattle.rules.proofs.PlaceLaws.{Spans, spans_le, spans_up, spans_down, spans_join, spans_flat, spans_front, spans_more}

-- What was read is such, and a refusal has a number of the rules', where reading may stand.
pub data Gives (g : Given) {A : Type 0} (P : A → State → Type 0) : Result A → Type 0 where
  gives : {a : A} {q : State} → P a q → Gives g P (read a q)
  stops : {n i h : ℕ} → T (is_rule n) → IsCursor g.text g.words i h → Gives g P (refuse n i h)

-- Where a reading stands: at a token in the text, no earlier than what was taken ends; n nodes are in use, nodes and diagnostics keep within their limits and what is lent, and each diagnostic stands as it may.
pub record At (g : Given) (n : ℕ) (s : State) : Type 0 where
  pub used : s.nodes ≡ n
  pub roomy : s.nodes ≤ g.room
  pub few : length s.notes ≤ most_notes
  pub recorded : length s.notes ≤ g.records
  pub noted : Each (NoteStands (length g.text)) s.notes
  pub inside : s.at < length g.words
  pub one : s.half ≤ 1
  pub shown : first g s ≤ length g.text
  pub order : end g s ≤ first g s
  pub rest : (kind g s ≡ Eof → ⊥) → s.half < size (word_at g.words s.at)

-- A refusal there has its place.
pub cursor : {g : Given} {n : ℕ} {s : State} → At g n s → IsCursor g.text g.words s.at s.half
cursor a = record { token = a.inside; one = a.one; byte = a.shown }

-- How many nodes are in a value.
abbrev pub size_of : Placed → ℕ
size_of t = nodes (bare t)

-- How much it weighs in a key.
abbrev pub weight_of : Placed → ℕ
weight_of t = weight (bare t)

-- What the tokens before the cursor are worth: twelve bytes of a key for each, and their own; a property may be one token.
abbrev pub worth : Given → State → ℕ
worth g s = 12 * s.at + end_byte g.words s.at 0

-- A value that was read, from byte lo on, where n nodes were in use before it: as many more are in use as it has, and it stands in order.
pub record Has (g : Given) (n lo : ℕ) (p : Placed) (q : State) : Type 0 where
  pub at : At g (n + size_of p) q
  pub spans : Spans lo (end g q) p
  pub told : Told g.text p

-- What a rule read: it is such, as a value it is had, no half is left of a token, and k bytes or more were taken; it weighs two bytes more at most than the tokens are worth beyond m.
pub record Got (g : Given) {A : Type 0} (P : A → Type 0) (shape : A → Placed) (k m n lo : ℕ) (a : A) (q : State) : Type 0 where
  pub is : P a
  pub has : Has g n lo (shape a) q
  pub whole : q.half ≡ 0
  pub rise : lo + k ≤ end g q
  pub light : weight_of (shape a) + m ≤ worth g q + 2

-- A tree of a form, which keeps the limit of heights.
pub record Good (f : Form) (t : Placed) : Type 0 where
  pub is : Is f t
  pub low : height (bare t) ≤ tallest

-- At least so many entries, each of which is such.
pub record Enough {A : Type 0} (P : A → Type 0) (least : ℕ) (l : List A) : Type 0 where
  pub enough : least ≤ length l
  pub each : Each P l

-- A tree as a value.
abbrev pub itself : Placed → Placed
itself t = t

-- ---- What is shown of a rule

-- Wherever it begins, what it reads is such.
abbrev pub Reads : Given → {A : Type 0} → (A → Type 0) → (A → Placed) → (State → Result A) → Type 0
Reads g P shape rule = (n lo : ℕ) (s : State) → lo ≤ first g s → At g n s → Gives g (Got g P shape 1 (worth g s) n lo) (rule s)

-- Names leave k bytes more of what their tokens are worth.
abbrev pub ReadsNames : Given → ℕ → {A : Type 0} → (A → Type 0) → (A → Placed) → (State → Result A) → Type 0
ReadsNames g k P shape rule = (n lo : ℕ) (s : State) → lo ≤ first g s → At g n s → Gives g (Got g P shape 1 (worth g s + k) n lo) (rule s)

-- It may read nothing, and begins at a whole token.
abbrev pub ReadsOn : Given → {A : Type 0} → (A → Type 0) → (A → Placed) → (State → Result A) → Type 0
ReadsOn g P shape rule = (n lo : ℕ) (s : State) → s.half ≡ 0 → lo ≤ end g s → At g n s → Gives g (Got g P shape 0 (worth g s) n lo) (rule s)

-- It reads trees of a form.
abbrev pub ReadsTree : Given → Form → (State → Result Placed) → Type 0
ReadsTree g f rule = Reads g (Good f) itself rule

-- It reads such trees behind a list of such, which ended where it may begin.
abbrev pub ReadsBehind : Given → Form → (List Placed → State → Result Placed) → Type 0
ReadsBehind g f rule =
    (l : List Placed) (a n lo : ℕ) (s : State) → Each (Is f) l → Spans a lo (entries l) → lo ≤ first g s → At g n s
    → Gives g (Got g (Good f) itself 1 (worth g s) n lo) (rule l s)

-- It reads such trees where a test holds.
abbrev pub ReadsIf : Given → (State → Bool) → Form → (State → Result Placed) → Type 0
ReadsIf g ok f rule = (n lo : ℕ) (s : State) → ok s ≡ true → lo ≤ first g s → At g n s → Gives g (Got g (Good f) itself 1 (worth g s) n lo) (rule s)

-- It makes a larger type of a type that was read from byte b on and is light beyond m, where a test holds.
abbrev pub ReadsAbout : Given → (State → Bool) → (ℕ → Placed → State → Result Placed) → Type 0
ReadsAbout g ok rule =
    (m n lo b : ℕ) (t : Placed) (s : State) → ok s ≡ true → lo ≤ b → b < end g s → Is type t → Has g n b t s → weight_of t + m ≤ worth g s + 2
    → Gives g (Got g (Good type) itself 1 m n lo) (rule b t s)

-- It reads types.
abbrev pub ReadsTypes : Given → Reader → Type 0
ReadsTypes g T = (on : Bool) → ReadsTree g type (T on)

-- ---- Steps

pub gives_then : {g : Given} {A B : Type 0} {P : A → State → Type 0} {Q : B → State → Type 0} {r : Result A} {on : A → State → Result B}
    → Gives g P r → ((a : A) (q : State) → P a q → Gives g Q (on a q)) → Gives g Q (then r on)
gives_then (gives {a = a} {q = q} p) f = f a q p
gives_then (stops e h) f = stops e h

module _ {g : Given} {A : Type 0} {P : A → State → Type 0} where
  -- A test, by what is shown where it holds and where it does not.
  pub gives_test : (b : Bool) {x y : Unit {0} → Result A} → (b ≡ true → (u : Unit {0}) → Gives g P (x u)) → (b ≡ false → (u : Unit {0}) → Gives g P (y u))
      → Gives g P (test b x y)
  gives_test true f h = f refl tt
  gives_test false f h = h refl tt

  -- What must hold: all else is refused.
  pub gives_must : (b : Bool) {x y : Unit {0} → Result A} → (b ≡ false → (u : Unit {0}) → Gives g P (y u)) → (b ≡ true → (u : Unit {0}) → Gives g P (x u))
      → Gives g P (test b x y)
  gives_must b f h = gives_test b h f

  pub refusal : {m : ℕ} {s : State} {b c : Bool} {n : ℕ} → At g m s → T (is_rule n) → b ≡ c → Unit {0} → Gives g P (refuse n s.at s.half)
  refusal a k e u = stops k (cursor a)

-- ---- Past a token

-- One that was taken at s: its bytes stand between, and it has its worth.
pub record Step (g : Given) (n : ℕ) (s : State) : Type 0 where
  pub at : At g n (next s)
  pub rise : first g s < end g (next s)
  pub more : worth g s + 12 + length (spelling g s).1 ≤ worth g (next s)

end_next : (g : Given) (s : State) → end g (next s) ≡ wordEnd (word_at g.words s.at)
end_next g s = ap (λ (i : ℕ). end_byte g.words i 0) (add-one s.at)

-- A token that passes a test which Eof does not pass may be taken.
pub step : {g : Given} → Checked g → {n : ℕ} (f : ℕ → Bool) → f Eof ≡ false → (s : State) → f (kind g s) ≡ true → At g n s → Step g n s
step {g} c f e s h a =
    let some = no_end f e h in
    let p = token_spells g c s.at (whole_end s.half _ some) in
    let one = add-one s.at in
    let later : wordEnd (word_at g.words s.at) ≤ first g (next s) = rw one (omega arith) in
    record {
      at = record {
        used = a.used;
        roomy = a.roomy;
        few = a.few;
        recorded = a.recorded;
        noted = a.noted;
        inside = omega arith;
        one = omega arith;
        shown = omega (arith, word_inside g.text g.words c.start c.sound (s.at + 1));
        order = omega (arith, end_next g s);
        rest = λ ne. (token_spells g c (s.at + 1) ne).some;
      };
      rise = omega (arith, end_next g s, a.rest some);
      more = omega (arith, end_next g s, taken_before g c s.at a.inside, word_sized g.text g.words c.start c.sound s.at);
    }

-- A mark, by what is shown where it is taken and where it does not stand.
pub gives_mark : {g : Given} → Checked g → {A : Type 0} {P : A → State → Type 0} {n : ℕ} (k : ℕ) → eqb Eof k ≡ false → (s : State) {x y : Unit {0} → Result A} → At g n s
    → (stands g k s ≡ false → (u : Unit {0}) → Gives g P (y u)) → (Step g n s → (u : Unit {0}) → Gives g P (x u)) → Gives g P (test (stands g k s) x y)
gives_mark {g} c k e s a f h = gives_must (stands g k s) f λ i u. h (step c (λ j. eqb j k) e s i a) u

-- Alike, with what is shown where the mark is taken first.
pub gives_or : {g : Given} → Checked g → {A : Type 0} {P : A → State → Type 0} {n : ℕ} (k : ℕ) → eqb Eof k ≡ false → (s : State) {x y : Unit {0} → Result A} → At g n s
    → (Step g n s → (u : Unit {0}) → Gives g P (x u)) → (stands g k s ≡ false → (u : Unit {0}) → Gives g P (y u)) → Gives g P (test (stands g k s) x y)
gives_or c k e s a h f = gives_mark c k e s a f h

-- Past a mark that may stand here.
pub record Past (g : Given) (n : ℕ) (s q : State) : Type 0 where
  pub at : At g n q
  pub first_later : first g s ≤ first g q
  pub end_later : end g s ≤ end g q
  pub worth_later : worth g s ≤ worth g q

pub past_mark_lem : {g : Given} → Checked g → {n : ℕ} (k : ℕ) → eqb Eof k ≡ false → (s : State) → At g n s → Past g n s (past g k s)
past_mark_lem {g} c {n} k e s a = by (stands g k s) refl
  where
    by : (b : Bool) → stands g k s ≡ b → Past g n s (test b (λ _. next s) (λ _. s))
    by true i =
        let t = step c (λ j. eqb j k) e s i a in
        record { at = t.at; first_later = omega arith; end_later = omega arith; worth_later = omega arith }
    by false i = record { at = a; first_later = omega arith; end_later = omega arith; worth_later = omega arith }

-- A mark that stands here and is taken has its worth.
pub past_more : {g : Given} → Checked g → {n : ℕ} (k : ℕ) → eqb Eof k ≡ false → (s : State) → stands g k s ≡ true → At g n s → worth g s + 10 ≤ worth g (past g k s)
past_more c k e s i a = rw i (omega (arith, (step c (λ j. eqb j k) e s i a).more))

pub past_whole : (g : Given) (k : ℕ) (s : State) → s.half ≡ 0 → (past g k s).half ≡ 0
past_whole g k s a = by (stands g k s)
  where
    by : (b : Bool) → (test b (λ _. next s) (λ _. s)).half ≡ 0
    by true = refl
    by false = a

-- ---- Values

-- The same count, said otherwise.
pub counted : {g : Given} {n m : ℕ} {s : State} → n ≡ m → At g n s → At g m s
counted e a =
    record { used = a.used ∙ e; roomy = a.roomy; few = a.few; recorded = a.recorded; noted = a.noted; inside = a.inside; one = a.one; shown = a.shown; order = a.order; rest = a.rest }

-- Another tally, at the same place.
pub tallied_at : {g : Given} {n : ℕ} {s : State} (e k : ℕ) → At g n s → At g n (tallied s e k)
tallied_at e k a =
    record { used = a.used; roomy = a.roomy; few = a.few; recorded = a.recorded; noted = a.noted; inside = a.inside; one = a.one; shown = a.shown; order = a.order; rest = a.rest }

-- A measure that adds up over pairs adds up over a list that grows at its end.
sum_more : (m : Value → ℕ) → m nothing ≡ 0 → ((a b : Value) → m (pair a b) ≡ m a + m b) → (l : List Placed) (t : Placed)
    → m (bare (entries (l ++ (t ∷ [])))) ≡ m (bare (entries l)) + m (bare t)
sum_more m e f [] t = omega (arith, e, f (bare t) nothing)
sum_more m e f (u ∷ l) t = omega (arith, f (bare u) (bare (entries (l ++ (t ∷ [])))), f (bare u) (bare (entries l)), sum_more m e f l t)

-- So do nodes.
size_more : (l : List Placed) (t : Placed) → size_of (entries (l ++ (t ∷ []))) ≡ size_of (entries l) + size_of t
size_more l t = sum_more nodes refl (λ a b. refl) l t

-- So does weight.
pub weight_more : (l : List Placed) (t : Placed) → weight_of (entries (l ++ (t ∷ []))) ≡ weight_of (entries l) + weight_of t
weight_more l t = sum_more weight refl (λ a b. refl) l t

module _ {g : Given} where
  -- No node.
  pub flat_has : {n lo : ℕ} {q : State} (p : Placed) → size_of p ≡ 0 → Told g.text p → lo ≤ end g q → At g n q → Has g n lo p q
  flat_has p e o l a = record { at = counted (omega arith) a; spans = spans_flat p e l; told = o }

  -- Of two values the first has no node.
  pub front_has : {n lo : ℕ} {q : State} (p : Placed) {r : Placed} → size_of p ≡ 0 → Told g.text p → Has g n lo r q → Has g n lo (join p r) q
  front_has p e o h = record { at = counted (omega arith) h.at; spans = spans_front p e h.spans; told = (o, h.told) }

  -- One value after the other.
  pub join_has : {n lo m : ℕ} {p r : Placed} {q : State} → Told g.text p → Spans lo m p → Has g (n + size_of p) m r q → Has g n lo (join p r) q
  join_has o x y = record { at = counted (omega arith) y.at; spans = spans_join x y.spans; told = (o, y.told) }

  infixr 20 ◌&◌
  pub ◌&◌ : {n lo : ℕ} {p r : Placed} {s q : State} → Has g n lo p s → Has g (n + size_of p) (end g s) r q → Has g n lo (join p r) q
  x & y = join_has x.told x.spans y

  -- Two values and a third, the second in a choice.
  pub regroup : {n lo : ℕ} {p r t : Placed} {s q : State} (k : ℕ) → Has g n lo (join p r) s → Has g (n + size_of (join p r)) (end g s) t q → Has g n lo (join p (join (pick k r) t)) q
  regroup k x y =
      let z = join_has x.told x.spans y in
      let i = z.spans.in_order in
      record { at = counted (omega arith) z.at; spans = record { in_order = (i.0.0, (i.0.1, i.1)); up_to = z.spans.up_to }; told = (x.told.0, (x.told.1, y.told)) }

  -- Of two values the first is nothing.
  pub drop_void : {n lo : ℕ} {p : Placed} {q : State} → Has g n lo (join void p) q → Has g n lo p q
  drop_void h = record { at = counted (omega arith) h.at; spans = record { in_order = h.spans.in_order.1; up_to = h.spans.up_to }; told = h.told.1 }

  pub has_le : {n lo : ℕ} {p : Placed} {q : State} → Has g n lo p q → lo ≤ end g q
  has_le h = spans_le h.spans

  pub has_down : {n a lo : ℕ} {p : Placed} {q : State} → a ≤ lo → Has g n lo p q → Has g n a p q
  has_down l h = record { at = h.at; spans = spans_down l h.spans; told = h.told }

  -- A choice before it.
  pub pick_has : {n lo : ℕ} {p : Placed} {q : State} (k : ℕ) → Has g n lo p q → Has g n lo (pick k p) q
  pick_has k h = record { at = h.at; spans = record { in_order = h.spans.in_order; up_to = h.spans.up_to }; told = h.told }

  -- The cursor goes on.
  pub has_on : {n lo : ℕ} {p : Placed} {s q : State} → Has g n lo p s → At g (n + size_of p) q → end g s ≤ end g q → Has g n lo p q
  has_on h a l = record { at = a; spans = spans_up h.spans l; told = h.told }

  -- The cursor goes past a token.
  pub has_next : {n lo : ℕ} {p : Placed} {s : State} → Has g n lo p s → Step g (n + size_of p) s → Has g n lo p (next s)
  has_next h t = has_on h t.at (omega arith)

  -- A list grows at its end.
  pub has_more : {n lo : ℕ} (l : List Placed) {t : Placed} {s q : State} → Has g n lo (entries l) s → Has g (n + size_of (entries l)) (end g s) t q
      → Has g n lo (entries (l ++ (t ∷ []))) q
  has_more l {t} x y = record { at = counted (omega (arith, size_more l t)) y.at; spans = spans_more l x.spans y.spans; told = told_more g.text l t x.told y.told }

  -- What a rule read from byte b on, light beyond k, it read from any earlier byte on, light beyond less.
  pub gives_down : {P : Placed → Type 0} {m k n a b : ℕ} {r : Result Placed} → a ≤ b → m ≤ k → Gives g (Got g P itself 1 k n b) r → Gives g (Got g P itself 1 m n a) r
  gives_down l v (gives x) = gives (record { is = x.is; has = has_down l x.has; whole = x.whole; rise = omega arith; light = omega arith })
  gives_down l v (stops e i) = stops e i

-- ---- Nodes and diagnostics

short : (l : List ℕ) → overlong l ≡ false → Each (λ (n : ℕ). n < 2 ^ count_width) l
short [] e = tt
short (n ∷ l) e = by (ltb longest n) refl (short l) e
  where
    by : (b : Bool) → ltb longest n ≡ b → (overlong l ≡ false → Each (λ (n : ℕ). n < 2 ^ count_width) l) → (b or overlong l) ≡ false
        → Each (λ (n : ℕ). n < 2 ^ count_width) (n ∷ l)
    by true i on j = clash (cc)
    by false i on j = (omega (arith, ltb-false longest n i), on j)

module _ {g : Given} {m n lo : ℕ} where
  -- A node that was made of what was read from byte b on: its lists are short, it is not too high, it is one more in use, and its tag's two bytes are those that it may weigh more.
  pub made_by : {P : Placed → Type 0} (lengths : List ℕ) (tag : ℕ) {b : ℕ} {p : Placed} {s : State} → s.half ≡ 0 → Has g n b p s → lo ≤ b → b < end g s → weight_of p + m ≤ worth g s
      → (Each (λ (k : ℕ). k < 2 ^ count_width) lengths → height (bare (tree tag b (end g s) p)) ≤ tallest → P (tree tag b (end g s) p))
      → Gives g (Got g P itself 1 m n lo) (make g lengths (tree tag b (end g s) p) s)
  unfolding make
  made_by lengths tag {b} {p} {s} w x l r o f =
      let t = tree tag b (end g s) p in
      let a = x.at in
      gives_test (overlong lengths) (refusal a tt) λ i _.
      gives_test (ltb tallest (height (bare t))) (refusal a tt) λ j _.
      gives_test (leb g.room s.nodes) (refusal a tt) λ k _.
      gives (record {
        is = f (short lengths i) (ltb-false tallest (height (bare t)) j);
        whole = w;
        rise = omega arith;
        light = omega arith;
        has = record {
          at = record {
            used = omega arith;
            roomy = omega (arith, leb-false g.room s.nodes k);
            few = a.few;
            recorded = a.recorded;
            noted = a.noted;
            inside = a.inside;
            one = a.one;
            shown = a.shown;
            order = a.order;
            rest = a.rest;
          };
          spans = record { in_order = (l, r, x.spans.in_order, x.spans.up_to); up_to = omega arith };
          told = x.told;
        };
      })

  pub made : {f : Form} (lengths : List ℕ) {tag b : ℕ} {p : Placed} {s : State} → s.half ≡ 0 → Has g n b p s → lo ≤ b → b < end g s → weight_of p + m ≤ worth g s
      → (Each (λ (k : ℕ). k < 2 ^ count_width) lengths → Is f (tree tag b (end g s) p)) → Gives g (Got g (Good f) itself 1 m n lo) (make g lengths (tree tag b (end g s) p) s)
  made lengths {tag} w x l r o f = made_by lengths tag w x l r o λ e h. record { is = f e; low = h }

or_false : (a b : Bool) → a or b ≡ false → (a ≡ false) × (b ≡ false)
or_false true b e = clash (cc)
or_false false b e = (refl, e)

module _ {g : Given} {A B : Type 0} {P : A → Type 0} {shape : A → Placed} {k m n lo : ℕ} {a : A} {Q : B → State → Type 0} where
  -- What was got stays after a diagnostic.
  pub reported : (note : Note) → NoteStands (length g.text) note → (s : State) (on : State → Result B) → Got g P shape k m n lo a s → ((q : State) → Got g P shape k m n lo a q → Gives g Q (on q))
      → Gives g Q (report g note s on)
  reported note stands s on h f =
      let x = h.has.at in
      gives_test (leb most_notes (length s.notes) or leb g.records (length s.notes)) (refusal x tt) λ e _.
      let full = or_false (leb most_notes (length s.notes)) (leb g.records (length s.notes)) e in
      let more = length-append s.notes (note ∷ []) in
      f _ (record {
        is = h.is;
        whole = h.whole;
        rise = h.rise;
        light = h.light;
        has = record {
          at = record {
            used = x.used;
            roomy = x.roomy;
            few = omega (arith, leb-false most_notes (length s.notes) full.0);
            recorded = omega (arith, leb-false g.records (length s.notes) full.1);
            noted = each_more (NoteStands (length g.text)) s.notes note x.noted stands;
            inside = x.inside;
            one = x.one;
            shown = x.shown;
            order = x.order;
            rest = x.rest;
          };
          spans = h.has.spans;
          told = h.has.told;
        };
      })

  pub reported_if : (b : Bool) (note : Note) → NoteStands (length g.text) note → (s : State) (on : State → Result B) → Got g P shape k m n lo a s → ((q : State) → Got g P shape k m n lo a q → Gives g Q (on q))
      → Gives g Q (report_if b g note s on)
  reported_if true note stands s on h f = reported note stands s on h f
  reported_if false note stands s on h f = f s h

-- ---- Lists

pub enough_more : {A : Type 0} {P : A → Type 0} {least : ℕ} {l : List A} {x : A} → Enough P least l → P x → Enough P least (l ++ (x ∷ []))
enough_more {P = P} {l = l} {x = x} h p =
    record { enough = omega (arith, length-append l (x ∷ [])); each = each_more P l x h.each p }

pub list_is : {f : Form} {least : ℕ} {l : List Placed} → Enough (Is f) least l → Few l → IsList least f l
list_is h k = record { enough = h.enough; few = k; each = h.each }

pub names_are : {least : ℕ} {l : List Spelling} → Enough IsSpelling least l → Few l → IsNames least l
names_are h k = record { enough = h.enough; few = k; each = h.each }

pub if_list_is : (f : Form) (o : Opt (List Placed)) → IfAny (Enough (Is f) 0) o → count o < 2 ^ count_width → IfAny (IsList 0 f) o
if_list_is f absent h k = tt
if_list_is f (present l) h k = list_is h k
