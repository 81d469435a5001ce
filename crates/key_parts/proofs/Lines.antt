-- From forms to runs: what a value of a form puts into the store, also where the forms stand in line.
use mathlib.Core.Path.{◌≡◌, refl, sym, ap, ap₂, ◌∙◌}
use mathlib.Core.Bool.{Bool, true, false}
use Prim.Native.Nat.{ℕ, zero, suc, ◌+◌, ◌-◌, ◌≤◌}
use native.Mathlib.Omega.{arith}
use Rattle.keys.specs.Bits.{Bits, Field, short, field, take_field}
use Rattle.keys.specs.Form.{Value, choice, pair, node, letters, Form, never, one, word, choose, both, child, Grammar, is_never, Fits, fits_word, State, state, Result, got, stop, into, and_then, allowed, if_whole, take_spelling, take_room, take_form, take_node, wider}
use Rattle.keys.proofs.FormLaws.{form_back}
use Rattle.keys.specs.Placed.{laid}
use Rattle.keys.specs.Store.{Run, done, chose, plant}
use Rattle.keys.proofs.StoreLaws.{join_done, plant_join}
use Rattle.keys.specs.Lines.{in_line, lined}
use Rattle.key_parts.specs.Runs.{Ran, ran, halt, after, then_run, as_child, spelled_at, as_name, allowed_run, whole_run, room_run, form_run, node_run}
use Rattle.key_parts.specs.Widths.{Spans}
use Rattle.key_parts.proofs.Steps.{after_done, then_after}

-- ---- A value and its run

-- What a result puts into the store, its spellings from byte x on.
abbrev pub run_by : Grammar → Form → ℕ → Result → Ran
run_by G f x (got v s) = ran (plant G f (laid v x) done) s
run_by G f x (stop n l) = halt n l

word_spelled : {G : Grammar} {w : ℕ} {v : Value} → Fits G (word w) v → (x : ℕ) → plant G (word w) (laid v x) done ≡ spelled_at x v
word_spelled (fits_word a b c) x = refl

module _ (lx : ℕ) (G : Grammar) where
  word_run : (h w : ℕ) (s : State) (x : ℕ) (y : Result) → take_spelling w s ≡ y → run_by G (word w) x y ≡ as_name x y
  word_run h w s x (got v q) e = ap (λ (u : Run). ran u q) (word_spelled (form_back G h (word w) s v q e).fits x)
  word_run h w s x (stop n l) e = refl

  choice_run_lem : (F : Form) (x : ℕ) (s : State) (fs : ℕ → Form) (K : ℕ → Bits → Result) (K' : ℕ → Bits → Ran) → ((t : ℕ) (r : Bits) → run_by G F x (K t r) ≡ K' t r)
      → (y : Field) → run_by G F x (if_whole s fs K y) ≡ whole_run s fs K' y
  choice_run_lem F x s fs K K' i short = refl
  choice_run_lem F x s fs K K' i (field t r) = by (is_never (fs t))
    where
      by : (b : Bool) → run_by G F x (allowed s K t r b) ≡ allowed_run s K' t r b
      by true = refl
      by false = i t r

  into_choice : (w z : ℕ) (fs : ℕ → Form) (x k : ℕ) (y : Result) → run_by G (choose w z fs) x (into (choice k) y) ≡ after (chose (wider w z) k done) (run_by G (fs k) x y)
  into_choice w z fs x k (got v q) = refl
  into_choice w z fs x k (stop n l) = refl

  into_pair : (f g : Form) (x : ℕ) (a : Value) (y : Result) → run_by G (both f g) x (into (pair a) y) ≡ after (plant G f (laid a x) done) (run_by G g (x + letters a) y)
  into_pair f g x a (got b q) = ap (λ (u : Run). ran u q) (plant_join G f (laid a x) (plant G g (laid b (x + letters a)) done))
  into_pair f g x a (stop n l) = refl

  into_node : (c t x : ℕ) (y : Result) → run_by G (child c) x (into (node t) y) ≡ as_child (G.tag_width c) t (run_by G (G.row c t) x y)
  into_node c t x (got v q) = refl
  into_node c t x (stop n l) = refl

  -- A node's run is that of what it is taken as.
  abbrev Runs : ℕ → Type 0
  Runs h = (c : ℕ) (s : State) → s.text_left ≤ lx → run_by G (child c) (lx - s.text_left) (take_node G h c s) ≡ node_run lx G h c s

  module _ (h : ℕ) (X : Runs h) where
    pub fields_run : (f : Form) (s : State) → s.text_left ≤ lx → run_by G f (lx - s.text_left) (take_form (take_node G h) f s) ≡ form_run lx (node_run lx G h) f s
    fields_run never s l = refl
    fields_run one s l = refl
    fields_run (word w) s l = word_run h w s (lx - s.text_left) (take_spelling w s) refl
    fields_run (choose w x fs) s l =
        choice_run_lem (choose w x fs) (lx - s.text_left) s fs _ _
        (λ t r. into_choice w x fs (lx - s.text_left) t (take_form (take_node G h) (fs t) (state s.nodes_left s.names_left s.text_left r))
        ∙ ap (after (chose (wider w x) t done)) (fields_run (fs t) (state s.nodes_left s.names_left s.text_left r) l)) (take_field w s.bits)
    fields_run (both f g) s l = by (take_form (take_node G h) f s) refl (fields_run f s l) (λ q k. fields_run g q k)
      where
        by : (y : Result) → take_form (take_node G h) f s ≡ y → run_by G f (lx - s.text_left) (take_form (take_node G h) f s) ≡ form_run lx (node_run lx G h) f s
            → ((q : State) → q.text_left ≤ lx → run_by G g (lx - q.text_left) (take_form (take_node G h) g q) ≡ form_run lx (node_run lx G h) g q)
            → run_by G (both f g) (lx - s.text_left) (take_form (take_node G h) (both f g) s) ≡ form_run lx (node_run lx G h) (both f g) s
        by (stop n l') e i k =
            ap (λ (y : Result). run_by G (both f g) (lx - s.text_left) (and_then y λ a q. into (pair a) (take_form (take_node G h) g q))) e
            ∙ ap (λ (y : Ran). then_run y λ q. form_run lx (node_run lx G h) g q) (sym (ap (run_by G f (lx - s.text_left)) e) ∙ i)
        by (got a q) e i k =
            let t : s.text_left ≡ letters a + q.text_left = (form_back G h f s a q e).text_left in
            let x : lx - s.text_left + letters a ≡ lx - q.text_left = omega arith in
            ap (λ (y : Result). run_by G (both f g) (lx - s.text_left) (and_then y λ b z. into (pair b) (take_form (take_node G h) g z))) e
            ∙ into_pair f g (lx - s.text_left) a (take_form (take_node G h) g q)
            ∙ ap (λ (n : ℕ). after (plant G f (laid a (lx - s.text_left)) done) (run_by G g n (take_form (take_node G h) g q))) x
            ∙ ap (after (plant G f (laid a (lx - s.text_left)) done)) (k q (omega arith))
            ∙ ap (λ (y : Ran). then_run y λ z. form_run lx (node_run lx G h) g z) (sym (ap (run_by G f (lx - s.text_left)) e) ∙ i)
    fields_run (child c) s l = X c s l

  pub node_run_lem : (h : ℕ) → Runs h
  node_run_lem zero c s l = choice_run_lem (child c) (lx - s.text_left) s (G.row c) _ _ (λ t r. refl) (take_field (G.tag_width c) s.bits)
  node_run_lem (suc h) c s l =
      choice_run_lem (child c) (lx - s.text_left) s (G.row c) _ _
      (λ t r. by t (λ n. take_form (take_node G h) (G.row c t) (state n s.names_left s.text_left r)) (λ n. form_run lx (node_run lx G h) (G.row c t) (state n s.names_left s.text_left r))
      (λ n. fields_run h (λ c₁ s₁ l₁. node_run_lem h c₁ s₁ l₁) (G.row c t) (state n s.names_left s.text_left r) l) s.nodes_left) (take_field (G.tag_width c) s.bits)
    where
      by : (t : ℕ) (K : ℕ → Result) (K' : ℕ → Ran) → ((n : ℕ) → run_by G (G.row c t) (lx - s.text_left) (K n) ≡ K' n) → (n : ℕ)
          → run_by G (child c) (lx - s.text_left) (take_room s t K n) ≡ room_run s (λ m. as_child (G.tag_width c) t (K' m)) n
      by t K K' i zero = refl
      by t K K' i (suc n) = into_node c t (lx - s.text_left) (K n) ∙ ap (as_child (G.tag_width c) t) (i n)

-- ---- Forms in line

-- A form of which no part that something follows is never, and whose choices have at most n bits.
pub data Fine : Form → ℕ → Type 0 where
  never_fine : {n : ℕ} → Fine never n
  one_fine : {n : ℕ} → Fine one n
  word_fine : {w n : ℕ} → Fine (word w) n
  child_fine : {c n : ℕ} → Fine (child c) n
  choose_fine : {w x n : ℕ} {fs : ℕ → Form} (m : ℕ) → wider w x + m ≤ n → ((k : ℕ) → Fine (fs k) m) → Fine (choose w x fs) n
  both_fine : {f g : Form} {n : ℕ} (a b : ℕ) → a + b ≤ n → is_never f ≡ false → is_never g ≡ false → Fine f a → Fine g b → Fine (both f g) n

-- A form with another behind it is never exactly where it is never by itself.
pub never_line : {f : Form} {n : ℕ} → Fine f n → (g : Form) → is_never g ≡ false → is_never (in_line f g) ≡ is_never f
never_line never_fine g z = refl
never_line one_fine g z = z
never_line word_fine g z = refl
never_line child_fine g z = refl
never_line (choose_fine m l k) g z = refl
never_line (both_fine {f = f} {g = h} a b l x y p q) g z = never_line p (in_line h g) (never_line q g z ∙ y) ∙ x

then_then : (x : Ran) (k m : State → Ran) → then_run x (λ q. then_run (k q) m) ≡ then_run (then_run x k) m
then_then (ran u q) k m = sym (then_after u (k q) m)
then_then (halt n l) k m = refl

then_one : (x : Ran) → then_run x (λ q. ran done q) ≡ x
then_one (ran u q) = ap (λ (y : Run). ran y q) (join_done u)
then_one (halt n l) = refl

module _ (lx : ℕ) (X : ℕ → State → Ran) where
  line_run : {f : Form} {n : ℕ} → Fine f n → (g : Form) → is_never g ≡ false → (s : State) → form_run lx X (in_line f g) s ≡ then_run (form_run lx X f s) (λ q. form_run lx X g q)
  line_run never_fine g z s = refl
  line_run one_fine g z s = sym (after_done (form_run lx X g s))
  line_run word_fine g z s = refl
  line_run child_fine g z s = refl
  line_run (choose_fine {w = w} {x = x} {fs = fs} m l k) g z s =
      by (take_field w s.bits) (λ t r. line_run (k t) g z (state s.nodes_left s.names_left s.text_left r))
    where
      K : ℕ → Bits → Ran
      K t r = after (chose (wider w x) t done) (form_run lx X (fs t) (state s.nodes_left s.names_left s.text_left r))

      K' : ℕ → Bits → Ran
      K' t r = after (chose (wider w x) t done) (form_run lx X (in_line (fs t) g) (state s.nodes_left s.names_left s.text_left r))

      choices : (t : ℕ) (r : Bits) → form_run lx X (in_line (fs t) g) (state s.nodes_left s.names_left s.text_left r)
          ≡ then_run (form_run lx X (fs t) (state s.nodes_left s.names_left s.text_left r)) (λ q. form_run lx X g q)
          → (b : Bool) → allowed_run s K' t r b ≡ then_run (allowed_run s K t r b) (λ q. form_run lx X g q)
      choices t r i true = refl
      choices t r i false = ap (after (chose (wider w x) t done)) i ∙ sym (then_after (chose (wider w x) t done) (form_run lx X (fs t) (state s.nodes_left s.names_left s.text_left r)) (λ q. form_run lx X g q))

      by : (y : Field) → ((t : ℕ) (r : Bits) → form_run lx X (in_line (fs t) g) (state s.nodes_left s.names_left s.text_left r)
          ≡ then_run (form_run lx X (fs t) (state s.nodes_left s.names_left s.text_left r)) (λ q. form_run lx X g q))
          → whole_run s (λ t. in_line (fs t) g) K' y ≡ then_run (whole_run s fs K y) (λ q. form_run lx X g q)
      by short i = refl
      by (field t r) i = ap (allowed_run s K' t r) (never_line (k t) g z) ∙ choices t r (i t r) (is_never (fs t))
  line_run (both_fine {f = f} {g = h} a b l x y p q) g z s =
      line_run p (in_line h g) (never_line q g z ∙ y) s ∙ ap (then_run (form_run lx X f s)) (λ i t. line_run q g z t i)
      ∙ then_then (form_run lx X f s) (λ t. form_run lx X h t) (λ t. form_run lx X g t)

module _ (lx : ℕ) (G : Grammar) (n : ℕ) (fine : (c t : ℕ) → Fine (G.row c t) n) where
  lined_choice : (c : ℕ) (s : State) (K K' : ℕ → Bits → Ran) → ((t : ℕ) (r : Bits) → K t r ≡ K' t r) → (y : Field) → whole_run s ((lined G).row c) K y ≡ whole_run s (G.row c) K' y
  lined_choice c s K K' i short = refl
  lined_choice c s K K' i (field t r) = ap₂ (λ (k : ℕ → Bits → Ran) (b : Bool). allowed_run s k t r b) (λ j u v. i u v j) (never_line (fine c t) one refl)

  -- A node in line goes into the store as the node.
  pub lined_run : (h c : ℕ) (s : State) → node_run lx (lined G) h c s ≡ node_run lx G h c s
  lined_run zero c s = lined_choice c s _ _ (λ t r. refl) (take_field (G.tag_width c) s.bits)
  lined_run (suc h) c s =
      lined_choice c s _ _
      (λ t r. ap (λ (k : ℕ → Ran). room_run s k s.nodes_left) (λ i m. as_child (G.tag_width c) t (under (λ c₁ s₁. lined_run h c₁ s₁) t r m i)))
      (take_field (G.tag_width c) s.bits)
    where
      under : ((c₁ : ℕ) (s₁ : State) → node_run lx (lined G) h c₁ s₁ ≡ node_run lx G h c₁ s₁) → (t : ℕ) (r : Bits) (m : ℕ)
          → form_run lx (node_run lx (lined G) h) (in_line (G.row c t) one) (state m s.names_left s.text_left r)
          ≡ form_run lx (node_run lx G h) (G.row c t) (state m s.names_left s.text_left r)
      under ih t r m =
          line_run lx (node_run lx (lined G) h) (fine c t) one refl (state m s.names_left s.text_left r)
          ∙ then_one (form_run lx (node_run lx (lined G) h) (G.row c t) (state m s.names_left s.text_left r))
          ∙ ap (λ (Y : ℕ → State → Ran). form_run lx Y (G.row c t) (state m s.names_left s.text_left r)) (λ i c₁ s₁. ih c₁ s₁ i)

-- ---- Widths in line

pub spans_more : (f : Form) (a b : ℕ) → a ≤ b → Spans f a → Spans f b
spans_more never a b l h = tt
spans_more one a b l h = tt
spans_more (word w) a b l h = tt
spans_more (choose w x fs) a b l h = (omega (arith, h.0), λ k. spans_more (fs k) (a - wider w x) (b - wider w x) (omega arith) (h.1 k))
spans_more (both f g) a b l h = spans_more g a b l h
spans_more (child c) a b l h = tt

pub line_spans : {f : Form} {n : ℕ} → Fine f n → (g : Form) (m : ℕ) → Spans g m → Spans (in_line f g) (n + m)
line_spans never_fine g m h = tt
line_spans {n = n} one_fine g m h = spans_more g m (n + m) (omega arith) h
line_spans {n = n} word_fine g m h = spans_more g m (n + m) (omega arith) h
line_spans {n = n} child_fine g m h = spans_more g m (n + m) (omega arith) h
line_spans {n = n} (choose_fine {w = w} {x = x} {fs = fs} i l k) g m h =
    (omega arith, λ j. spans_more (in_line (fs j) g) (i + m) (n + m - wider w x) (omega arith) (line_spans (k j) g m h))
line_spans {n = n} (both_fine {f = f} {g = h} a b l x y p q) g m z =
    spans_more (in_line f (in_line h g)) (a + (b + m)) (n + m) (omega arith) (line_spans p (in_line h g) (b + m) (line_spans q g m z))
