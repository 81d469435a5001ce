-- The laws of a walk: its steps follow one another, and a node whose walk comes to its end is put out.
use mathlib.Core.Path.{◌≡◌, refl, sym, ap, ap₂, ◌∙◌, subst}
use mathlib.Core.List.{List, [], ◌++◌, append_assoc, append-nil}
use Prim.Native.Nat.{ℕ, zero, suc, ◌+◌, ◌-◌, ◌*◌, ◌/◌, ◌%◌, ◌^◌, ◌≤◌, ◌<◌}
use native.Mathlib.Omega.{arith}
use lib.ListN.{length}
use Rattle.keys.specs.Limits.{half_word}
use Rattle.keys.specs.Form.{Form, never, one, word, choose, both, child, Grammar}
use Rattle.keys.specs.Table.{one_of}
use Rattle.keys.specs.Store.{Run, called}
use Rattle.keys.specs.Holds.{word_at, child_at, next_at, Cursor, cursor, HoldsBy}
use Rattle.keys.specs.Lines.{tagged, Of, of_one, of_word, of_choose, of_child, levels}
use Rattle.fields.specs.Put.{far}
use Rattle.node_table.specs.Forms.{spellings_then, spelling_if, nodes_then, Entry, entry_at, class_at, steps_of, listed, leads, form_by, form_of, grammar_of, entry_of, IsRow, Lists, Jumps, table_most}
use Rattle.node_table.proofs.FormsLaws.{form_at_lem}
use Rattle.node_table.specs.Moves.{Output, Sound, items, Moved, Moves, Noded, Spelled, form_at, cursor_of, mark, moved_to, Ready, to_do, OwnStep, After, Begun}
use Rattle.node_table.specs.declared.forms.Row.{Row}
use Rattle.node_table.specs.declared.forms.Jump.{Jump}
use Rattle.node_table.specs.declared.moves.Mark.{Mark}
use Rattle.node_table.specs.declared.moves.Walk.{Walk}

-- ---- Steps follow one another

module _ (O : Output) (L : Sound O) (G : Grammar) (N : List ℕ) (P : ℕ → List ℕ → Type 0) (high d : ℕ) where
  pub moves_none : (f : Form) (s : Cursor) (to : ℕ) (k : List ℕ) → length k * 8 ≤ far → to ≤ far → Moves O G N P high d f s to k f s to k
  moves_none f s to k l h =
      record {
        short = l;
        stays = h;
        same = refl;
        on = λ run o b c. record { rest = run; passed = []; of = o; low = b; holds = c; put = L.none to k h l; whole = refl; count = refl };
      }

  pub moves_then : {f f' f'' : Form} {s s' s'' : Cursor} {to to' to'' : ℕ} {k k' k'' : List ℕ}
      → Moves O G N P high d f s to k f' s' to' k' → Moves O G N P high d f' s' to' k' f'' s'' to'' k'' → Moves O G N P high d f s to k f'' s'' to'' k''
  moves_then {f} {f'} {f''} {s} {s'} {s''} {to} {to'} {to''} {k} {k'} {k''} p q =
      record { short = p.short; stays = q.stays; same = q.same ∙ p.same; on = λ run o b c. up run (p.on run o b c) }
    where
      up : (run : Run) → Moved O G N P high d f run s to k f' s' to' k' → Moved O G N P high d f run s to k f'' s'' to'' k''
      up run x =
          let e = q.on x.rest x.of x.low x.holds in
          record {
            rest = e.rest;
            passed = x.passed ++ e.passed;
            of = e.of;
            low = e.low;
            holds = e.holds;
            put = L.append x.put e.put;
            whole = x.whole ∙ ap (λ (y : List O.Item). x.passed ++ y) e.whole ∙ sym (append_assoc x.passed e.passed (items O G N f'' e.rest s'' d));
            count = x.count ∙ e.count;
          }

  -- The same step between forms that are those.
  pub moves_as : {f f' g g' : Form} {s s' : Cursor} {to to' : ℕ} {k k' : List ℕ} → g ≡ f → g' ≡ f'
      → Moves O G N P high d f s to k f' s' to' k' → Moves O G N P high d g s to k g' s' to' k'
  moves_as {f} {f'} {g} {g'} {s} {s'} {to} {to'} {k} {k'} e e' p =
      subst (λ (x : Form). Moves O G N P high d x s to k g' s' to' k') (sym e) (subst (λ (x : Form). Moves O G N P high d f s to k x s' to' k') (sym e') p)

  -- No run has the form never.
  pub moves_never : {s : Cursor} {to : ℕ} {k : List ℕ} (f' : Form) (s' : Cursor) (to' : ℕ) (k' : List ℕ) → length k * 8 ≤ far → to' ≤ far → length k' ≡ length k
      → Moves O G N P high d never s to k f' s' to' k'
  moves_never {s} {to} {k} f' s' to' k' l h e = record { short = l; stays = h; same = e; on = λ run o b c. none run o }
    where
      none : (run : Run) → Of G never run → Moved O G N P high d never run s to k f' s' to' k'
      none run = elim [ ]

  pub moves_word : (g : Form) (w most : ℕ) (s : Cursor) (to : ℕ) (k : List ℕ) (m' to' : ℕ) (k' : List ℕ) → Spelled O P most w d s.name to k m' to' k'
      → Moves O G N P high d (both (word w) g) s to k g (cursor s.word s.child m') to' k'
  moves_word g w most s to k m' to' k' x = record { short = x.short; stays = x.stays; same = x.same; on = λ run o b c. go o b c }
    where
      go : {run : Run} → Of G (both (word w) g) run → levels run ≤ high → HoldsBy N P run s
          → Moved O G N P high d (both (word w) g) run s to k g (cursor s.word s.child m') to' k'
      go (of_word {s = u} {r = r} o) b c =
          let a = x.on u c.0 in
          record {
            rest = r;
            passed = O.said w s.name u d;
            of = o;
            low = b;
            holds = subst (λ (i : ℕ). HoldsBy N P r (cursor s.word s.child i)) (sym a.1) c.1;
            put = a.0;
            whole = ap (λ (i : ℕ). O.said w s.name u d ++ items O G N g r (cursor s.word s.child i) d) (sym a.1);
            count = omega (arith, a.1);
          }

  pub moves_choice : (w : ℕ) (fs : ℕ → Form) (s : Cursor) (to : ℕ) (k : List ℕ) (to' : ℕ) (k' : List ℕ) → O.Puts to (O.choice w (s.word % 2 ^ w) d) to' k k'
      → Moves O G N P high d (choose w 0 fs) s to k (fs (s.word % 2 ^ w)) (cursor (s.word / 2 ^ w) s.child s.name) to' k'
  moves_choice w fs s to k to' k' p = record { short = L.short p; stays = L.stays p; same = L.same p; on = λ run o b c. go o b c }
    where
      go : {run : Run} → Of G (choose w 0 fs) run → levels run ≤ high → HoldsBy N P run s
          → Moved O G N P high d (choose w 0 fs) run s to k (fs (s.word % 2 ^ w)) (cursor (s.word / 2 ^ w) s.child s.name) to' k'
      go (of_choose {k = t} {r = r} o) b c =
          record {
            rest = r;
            passed = O.choice w (s.word % 2 ^ w) d;
            of = subst (λ (i : ℕ). Of G (fs i) r) (sym c.0) o;
            low = b;
            holds = c.1;
            put = p;
            whole = ap (λ (i : ℕ). O.choice w i d ++ items O G N (fs i) r (cursor (s.word / 2 ^ w) s.child s.name) d) (sym c.0);
            count = refl;
          }

  pub moves_node : (g : Form) (c most : ℕ) (s : Cursor) (to : ℕ) (k : List ℕ) (m' to' : ℕ) (k' : List ℕ) → Noded O G N P high d most c s.child s.name to k m' to' k'
      → Moves O G N P high d (both (child c) g) s to k g (cursor s.word (next_at N s.child) m') to' k'
  moves_node g c most s to k m' to' k' x = record { short = x.short; stays = x.stays; same = x.same; on = λ run o b e. go o b e }
    where
      go : {run : Run} → Of G (both (child c) g) run → levels run ≤ high → HoldsBy N P run s
          → Moved O G N P high d (both (child c) g) run s to k g (cursor s.word (next_at N s.child) m') to' k'
      go (of_child {a = a} {r = r} o q) b e =
          let z = x.on a o (omega arith) e.0 in
          let own : List O.Item = O.node s.child d ++ items O G N (tagged G c) a (cursor (word_at N s.child) (child_at N s.child) s.name) (O.under d) in
          record {
            rest = r;
            passed = own;
            of = q;
            low = omega arith;
            holds = subst (λ (i : ℕ). HoldsBy N P r (cursor s.word (next_at N s.child) i)) (sym z.1) e.1;
            put = z.0;
            whole = ap (λ (i : ℕ). own ++ items O G N g r (cursor s.word (next_at N s.child) i) d) (sym z.1);
            count = omega (arith, z.1);
          }

  -- A run of one node, which is put out.
  pub all_put : {c most : ℕ} (s : Cursor) {to m' to' : ℕ} {k k' : List ℕ} → Noded O G N P high d most c s.child s.name to k m' to' k'
      → (run : Run) → Of G (both (child c) one) run → levels run ≤ high → HoldsBy N P run s → O.Puts to (items O G N (both (child c) one) run s d) to' k k'
  all_put {c} {most} s {to} {m'} {to'} {k} {k'} x run o b e = fin ((moves_node one c most s to k m' to' k' x).on run o b e)
    where
      by : (passed : List O.Item) {rest : Run} (f : Cursor) → Of G one rest → O.Puts to passed to' k k' → items O G N (both (child c) one) run s d ≡ passed ++ items O G N one rest f d
          → O.Puts to (items O G N (both (child c) one) run s d) to' k k'
      by passed f of_one u y = subst (λ (z : List O.Item). O.Puts to z to' k k') (sym (y ∙ append-nil passed)) u

      fin : {f : Cursor} → Moved O G N P high d (both (child c) one) run s to k one f to' k' → O.Puts to (items O G N (both (child c) one) run s d) to' k k'
      fin {f} z = by z.passed f z.of z.put z.whole

-- What stands before a node's run is put out, and a walk that comes to its end has put out the node.
pub noded : (O : Output) (L : Sound O) (G : Grammar) (N : List ℕ) (P : ℕ → List ℕ → Type 0) (left high d most c i m to : ℕ) (k : List ℕ) (to₀ : ℕ) (k₀ : List ℕ) (s' : Cursor) (to' : ℕ) (k' : List ℕ)
    → left ≡ suc high → s'.name ≤ most → O.Puts to (O.node i d) to₀ k k₀
    → Moves O G N P high (O.under d) (tagged G c) (cursor (word_at N i) (child_at N i) m) to₀ k₀ one s' to' k' → Noded O G N P left d most c i m to k s'.name to' k'
noded O L G N P left high d most c i m to k to₀ k₀ s' to' k' q h f p =
    record { short = L.short f; stays = p.stays; same = p.same ∙ L.same f; in_names = h; on = λ a o b e. fin a (p.on a o (omega arith) e) }
  where
    by : (a : Run) (bs : List O.Item) {x : Run} → Of G one x → O.Puts to₀ bs to' k₀ k'
        → items O G N (tagged G c) a (cursor (word_at N i) (child_at N i) m) (O.under d) ≡ bs ++ items O G N one x s' (O.under d) → m + called a ≡ s'.name + called x
        → O.Puts to (O.node i d ++ items O G N (tagged G c) a (cursor (word_at N i) (child_at N i) m) (O.under d)) to' k k' × (s'.name ≡ m + called a)
    by a bs of_one u y n = (subst (λ (z : List O.Item). O.Puts to (O.node i d ++ z) to' k k') (sym (y ∙ append-nil bs)) (L.append f u), omega arith)

    fin : (a : Run) → Moved O G N P high (O.under d) (tagged G c) a (cursor (word_at N i) (child_at N i) m) to₀ k₀ one s' to' k'
        → O.Puts to (O.node i d ++ items O G N (tagged G c) a (cursor (word_at N i) (child_at N i) m) (O.under d)) to' k k' × (s'.name ≡ m + called a)
    fin a x = by a x.passed x.of x.put x.whole x.count

-- The same, where the words, the items and the end are those.
pub noded_as : {O : Output} {T T' N : List ℕ} {P : ℕ → List ℕ → Type 0} {left d most c i m to : ℕ} {k k' k1 k1' : List ℕ} {q q' : Mark} → T' ≡ T → k' ≡ k → q' ≡ q → k1' ≡ k1
    → Noded O (grammar_of T) N P left d most c i m to k q.name q.to k1 → Noded O (grammar_of T') N P left d most c i m to k' q'.name q'.to k1'
noded_as {O} {T} {T'} {N} {P} {left} {d} {most} {c} {i} {m} {to} {k} {k'} {k1} {k1'} {q} {q'} a b e f x =
    subst (λ (z : List ℕ). Noded O (grammar_of z) N P left d most c i m to k' q'.name q'.to k1') (sym a)
    (subst (λ (z : List ℕ). Noded O (grammar_of T) N P left d most c i m to z q'.name q'.to k1') (sym b)
    (subst (λ (z : Mark). Noded O (grammar_of T) N P left d most c i m to k z.name z.to k1') (sym e)
    (subst (λ (z : List ℕ). Noded O (grammar_of T) N P left d most c i m to k q.name q.to z) (sym f) x)))

-- A name that is not there.
pub spelled_none : (O : Output) (P : ℕ → List ℕ → Type 0) (most w d m to : ℕ) (k : List ℕ) → length k * 8 ≤ far → to ≤ far → m ≤ most → ((s : List ℕ) → P m s → ⊥)
    → Spelled O P most w d m to k m to k
spelled_none O P most w d m to k l h n e = record { short = l; stays = h; same = refl; in_names = n; on = λ s p. absurd (e s p) }

-- ---- A step that goes into no child

one_more : (x : ℕ) → 0 < x → x ≡ suc (x - 1)
one_more x z = omega arith

pub one_less : (x : ℕ) → (x ≡ 0 → ⊥) → x ≡ suc (x - 1)
one_less x z = omega arith

module _ (O : Output) (L : Sound O) (T : List ℕ) (P : ℕ → List ℕ → Type 0) (most d : ℕ) (s : Walk) (k : List ℕ) (y : Ready most k s) (r : Row) (i : IsRow (entry_at T s.form) r) (h : 0 < s.steps) where
  -- The forms of the steps after this one.
  abbrev after : ℕ → ℕ → Form
  after m g = form_of T (s.steps - 1) m g

  at : (n o : ℕ) → r.op ≡ o → form_of T s.steps n s.form ≡ form_by T after n (entry_of r) o
  at n o e = form_at_lem T s.steps (s.steps - 1) n s.form (one_more s.steps h) r i o e

  pub own_choice : 5 ≤ r.op → (t x to' : ℕ) (k' : List ℕ) (j : Jump) → t ≡ s.word % 2 ^ r.w → x ≡ s.word / 2 ^ r.w → O.Puts s.mark.to (O.choice r.w t d) to' k k' → Jumps T r t j
      → OwnStep O T P most d s k (record { mark = mark to' s.mark.name; word = x; child = s.child; form = j.form; n = j.n; steps = s.steps - 1 }) k'
  own_choice f t x to' k' j q v p u =
      record {
        ready =
            record {
              short = omega (arith, L.short p, L.same p);
              near = L.stays p;
              in_names = y.in_names;
              in_nodes = y.in_nodes;
              in_table = u.form;
              few = u.few;
              steps = omega (arith, y.steps);
            };
        same = L.same p;
        less = omega (arith, u.few);
        on = λ G N high.
            subst (λ (z : ℕ). Moves O G N P high d (form_at T s) (cursor_of s) s.mark.to k (after j.n j.form) (cursor z s.child s.mark.name) to' k') (sym v)
            (moves_as O L G N P high d (at s.n (suc (suc (suc (suc (suc (r.op - 5)))))) (five r.op f)) (sym (ap (leads T after (entry_of r) (r.op - 5)) (sym q) ∙ u.is (s.steps - 1)))
            (moves_choice O L G N P high d r.w (leads T after (entry_of r) (r.op - 5)) (cursor_of s) s.mark.to k to' k' (subst (λ (z : ℕ). O.Puts s.mark.to (O.choice r.w z d) to' k k') q p)));
      }
    where
      five : (z : ℕ) → 5 ≤ z → z ≡ suc (suc (suc (suc (suc (z - 5)))))
      five z l = omega arith

  -- A spelling is put out, and the walk goes on at a form.
  spelling_then : (f n steps : ℕ) → f < table_most → n < table_most → steps < table_most → steps * table_most + n < to_do s → form_at T s ≡ both (word r.w) (form_of T steps n f)
      → (m' to' : ℕ) (k' : List ℕ) → Spelled O P most r.w d s.mark.name s.mark.to k m' to' k'
      → OwnStep O T P most d s k (moved_to s (mark to' m') f n steps) k'
  spelling_then f n steps a b c z e m' to' k' x =
      record {
        ready =
            record { short = omega (arith, x.short, x.same); near = x.stays; in_names = x.in_names; in_nodes = y.in_nodes; in_table = a; few = b; steps = c };
        same = x.same;
        less = z;
        on = λ G N high. moves_as O L G N P high d e refl (moves_word O L G N P high d (form_of T steps n f) r.w most (cursor_of s) s.mark.to k m' to' k' x);
      }

  pub own_spelling : r.op ≡ 4 → (m' to' : ℕ) (k' : List ℕ) → Spelled O P most r.w d s.mark.name s.mark.to k m' to' k'
      → OwnStep O T P most d s k (moved_to s (mark to' m') r.b s.n (s.steps - 1)) k'
  own_spelling o m' to' k' x =
      spelling_then r.b s.n (s.steps - 1) i.next y.few (omega (arith, y.steps)) (omega arith) (at s.n 4 o) m' to' k' x

  pub own_spellings : r.op ≡ 2 → (s.n ≡ 0 → ⊥) → (m' to' : ℕ) (k' : List ℕ) → Spelled O P most r.w d s.mark.name s.mark.to k m' to' k'
      → OwnStep O T P most d s k (moved_to s (mark to' m') s.form (s.n - 1) s.steps) k'
  own_spellings o z m' to' k' x =
      spelling_then s.form (s.n - 1) s.steps y.in_table (omega (arith, y.few)) y.steps (omega arith)
      (at s.n 2 o ∙ ap (λ (v : ℕ). spellings_then v r.w (after 1 r.b)) (one_less s.n z) ∙ ap (both (word r.w)) (sym (at (s.n - 1) 2 o))) m' to' k' x

  -- Nothing is put out, and the walk goes on at a form.
  own_on : (f n steps : ℕ) → f < table_most → n < table_most → steps < table_most → steps * table_most + n < to_do s
      → ((G : Grammar) (N : List ℕ) (high : ℕ) → Moves O G N P high d (form_at T s) (cursor_of s) s.mark.to k (form_of T steps n f) (cursor_of s) s.mark.to k)
      → OwnStep O T P most d s k (moved_to s s.mark f n steps) k
  own_on f n steps a b c z e =
      record {
        ready = record { short = y.short; near = y.near; in_names = y.in_names; in_nodes = y.in_nodes; in_table = a; few = b; steps = c };
        same = refl;
        less = z;
        on = e;
      }

  never_on : r.op ≡ 0 → (f n steps : ℕ) (G : Grammar) (N : List ℕ) (high : ℕ)
      → Moves O G N P high d (form_at T s) (cursor_of s) s.mark.to k (form_of T steps n f) (cursor_of s) s.mark.to k
  never_on o f n steps G N high =
      moves_as O L G N P high d (at s.n 0 o) refl (moves_never O L G N P high d (form_of T steps n f) (cursor_of s) s.mark.to k y.short y.near refl)

  pub own_next : s.n ≡ 0 → r.op < 5 → (r.op ≡ 1 → ⊥) → (r.op ≡ 4 → ⊥)
      → OwnStep O T P most d s k (moved_to s s.mark r.b 1 (s.steps - 1)) k
  own_next z l a b = own_on r.b 1 (s.steps - 1) i.next (omega arith) (omega (arith, y.steps)) (omega arith) (λ G N high. by r.op refl l a b G N high)
    where
      skip : (o : ℕ) → r.op ≡ o → form_by T after 0 (entry_of r) o ≡ after 1 r.b → (G : Grammar) (N : List ℕ) (high : ℕ)
          → Moves O G N P high d (form_at T s) (cursor_of s) s.mark.to k (after 1 r.b) (cursor_of s) s.mark.to k
      skip o e q G N high =
          moves_as O L G N P high d (at s.n o e ∙ ap (λ (x : ℕ). form_by T after x (entry_of r) o) z ∙ q) refl
          (moves_none O L G N P high d (after 1 r.b) (cursor_of s) s.mark.to k y.short y.near)

      by : (o : ℕ) → r.op ≡ o → o < 5 → (o ≡ 1 → ⊥) → (o ≡ 4 → ⊥) → (G : Grammar) (N : List ℕ) (high : ℕ)
          → Moves O G N P high d (form_at T s) (cursor_of s) s.mark.to k (after 1 r.b) (cursor_of s) s.mark.to k
      by zero e l a b G N high = never_on e r.b 1 (s.steps - 1) G N high
      by (suc zero) e l a b G N high = absurd (a refl)
      by (suc (suc zero)) e l a b G N high = skip 2 e refl G N high
      by (suc (suc (suc zero))) e l a b G N high = skip 3 e refl G N high
      by (suc (suc (suc (suc zero)))) e l a b G N high = absurd (b refl)
      by (suc (suc (suc (suc (suc o))))) e l a b G N high = absurd (omega arith)

  pub own_stop : r.op ≡ 0 → OwnStep O T P most d s k (moved_to s s.mark s.form s.n 0) k
  own_stop o = own_on s.form s.n 0 y.in_table y.few (omega arith) (omega arith) (never_on o s.form s.n 0)

-- The same, where the walk that is answered is that one.
pub own_as : {O : Output} {T : List ℕ} {P : ℕ → List ℕ → Type 0} {most d : ℕ} {s : Walk} {k : List ℕ} {q q' : Walk} {k' : List ℕ} → q ≡ q' → OwnStep O T P most d s k q' k' → OwnStep O T P most d s k q k'
own_as {O} {T} {P} {most} {d} {s} {k} {q} {q'} {k'} e x = subst (λ (z : Walk). OwnStep O T P most d s k z k') (sym e) x

-- No operation but never is left.
pub no_other : (op n : ℕ) → op < 5 → (op ≡ 1 → ⊥) → (op ≡ 4 → ⊥) → (op ≡ 3 → n ≡ 0) → (n ≡ 0 → ⊥) → (op ≡ 2 → ⊥) → op ≡ 0
no_other zero n l a b c d e = refl
no_other (suc zero) n l a b c d e = absurd (a refl)
no_other (suc (suc zero)) n l a b c d e = absurd (e refl)
no_other (suc (suc (suc zero))) n l a b c d e = absurd (d (c refl))
no_other (suc (suc (suc (suc zero)))) n l a b c d e = absurd (b refl)
no_other (suc (suc (suc (suc (suc op))))) n l a b c d e = absurd (omega arith)

-- ---- A node's tag

pub begun : (O : Output) (L : Sound O) (T N : List ℕ) (P : ℕ → List ℕ → Type 0) (d c i : ℕ) (o : Mark) (k : List ℕ) (own kid : ℕ) (r : Row) (t x to₀ : ℕ) (k₀ : List ℕ) (to' : ℕ) (k' : List ℕ) (j : Jump) (steps : ℕ)
    → own ≡ word_at N i → kid ≡ child_at N i → kid < half_word → IsRow (class_at T c) r → t ≡ own % 2 ^ r.w → x ≡ own / 2 ^ r.w
    → O.Puts o.to (O.node i d) to₀ k k₀ → O.Puts to₀ (O.choice r.w t (O.under d)) to' k₀ k' → Lists T r t j → steps ≡ steps_of T → steps < table_most
    → Begun O T N P d c i o k (record { mark = mark to' o.name; word = x; child = kid; form = j.form; n = 1; steps = steps }) k'
begun O L T N P d c i o k own kid r t x to₀ k₀ to' k' j steps a b e v q y f p u z l =
    record {
      ready = λ most h.
          record {
            short = omega (arith, L.short p, L.same p);
            near = L.stays p;
            in_names = h;
            in_nodes = e;
            in_table = u.form;
            few = omega arith;
            steps = l;
          };
      same = L.same p ∙ L.same f;
      to₀ = to₀;
      k₀ = k₀;
      first = f;
      on = from;
    }
  where
    to : one_of (listed T (λ g. form_of T (steps_of T) 1 g) r.a r.b) (own % 2 ^ r.w) ≡ form_of T steps 1 j.form
    to =
        ap (one_of (listed T (λ g. form_of T (steps_of T) 1 g) r.a r.b)) (sym q) ∙ u.is (steps_of T)
        ∙ ap₂ (λ (m n : ℕ). form_of T m n j.form) (sym z) u.once

    from : (high : ℕ)
        → Moves O (grammar_of T) N P high (O.under d) (tagged (grammar_of T) c) (cursor (word_at N i) (child_at N i) o.name) to₀ k₀ (form_of T steps 1 j.form) (cursor x kid o.name) to' k'
    from high =
        subst (λ (m : ℕ). Moves O (grammar_of T) N P high (O.under d) (tagged (grammar_of T) c) (cursor m (child_at N i) o.name) to₀ k₀ (form_of T steps 1 j.form) (cursor x kid o.name) to' k') a
        (subst (λ (m : ℕ). Moves O (grammar_of T) N P high (O.under d) (tagged (grammar_of T) c) (cursor own m o.name) to₀ k₀ (form_of T steps 1 j.form) (cursor x kid o.name) to' k') b
        (subst (λ (m : ℕ). Moves O (grammar_of T) N P high (O.under d) (tagged (grammar_of T) c) (cursor own kid o.name) to₀ k₀ (form_of T steps 1 j.form) (cursor m kid o.name) to' k') (sym y)
        (moves_as O L (grammar_of T) N P high (O.under d)
        (ap (λ (m : Entry). choose m.w 0 (one_of (listed T (λ g. form_of T (steps_of T) 1 g) m.a m.b))) (sym v.is)) (sym to)
        (moves_choice O L (grammar_of T) N P high (O.under d) r.w (one_of (listed T (λ g. form_of T (steps_of T) 1 g) r.a r.b)) (cursor own kid o.name) to₀ k₀ to' k'
        (subst (λ (m : ℕ). O.Puts to₀ (O.choice r.w m (O.under d)) to' k₀ k') q p)))))

-- ---- The walk of a node

module _ (O : Output) (L : Sound O) (T N : List ℕ) (P : ℕ → List ℕ → Type 0) (most high d : ℕ) (s₀ : Walk) (k₀ : List ℕ) where
  -- From s₀ a walk has come to s.
  pub record Along (s : Walk) (k : List ℕ) : Type 0 where
    pub same : length k ≡ length k₀
    pub ready : Ready most k s
    pub on : Moves O (grammar_of T) N P high d (form_at T s₀) (cursor_of s₀) s₀.mark.to k₀ (form_at T s) (cursor_of s) s.mark.to k

  pub along_none : Ready most k₀ s₀ → Along s₀ k₀
  along_none h = record { same = refl; ready = h; on = moves_none O L (grammar_of T) N P high d (form_at T s₀) (cursor_of s₀) s₀.mark.to k₀ h.short h.near }

  pub along_own : {s q : Walk} {k k' : List ℕ} → Along s k → OwnStep O T P most d s k q k' → Along q k'
  along_own p x = record { same = x.same ∙ p.same; ready = x.ready; on = moves_then O L (grammar_of T) N P high d p.on (x.on (grammar_of T) N high) }

  -- Behind the last child the walk goes on at the next form.
  module _ (s q : Walk) (r : Row) (h : 0 < s.steps) (f : s.n ≡ 0 → q ≡ moved_to s s.mark r.b 1 (s.steps - 1)) (g : (s.n ≡ 0 → ⊥) → q ≡ s) where
    pub along_past : {k : List ℕ} → r.op ≡ 3 → IsRow (entry_at T s.form) r → Along s k → Along q k
    along_past {k} e i p = by s.n refl
      where
        by : (n : ℕ) → s.n ≡ n → Along q k
        by zero z =
            along_own p (own_as (f z) (own_next O L T P most d s k p.ready r i h z (omega (arith, e)) (λ x. absurd (omega (arith, x, e))) (λ x. absurd (omega (arith, x, e)))))
        by (suc n) z = subst (λ (x : Walk). Along x k) (sym (g (λ x. absurd (omega (arith, x, z))))) p

  module _ {s : Walk} {k : List ℕ} (p : Along s k) (r : Row) (z : IsRow (entry_at T s.form) r) (h : 0 < s.steps) where
    now_at : (n f : ℕ) → r.op ≡ f → form_of T s.steps n s.form ≡ form_by T (λ m g. form_of T (s.steps - 1) m g) n (entry_of r) f
    now_at n f e = form_at_lem T s.steps (s.steps - 1) n s.form (one_more s.steps h) r z f e

    pub along_child : r.op ≡ 3 → 0 < s.n → {m : Mark} {q : Walk} {k1 k2 : List ℕ} → Noded O (grammar_of T) N P high d most r.a s.child s.mark.name s.mark.to k m.name m.to k1
        → After O N P most r.w d s m k1 q k2 → Along q k2
    along_child e l {m} {q} {k1} {k2} x a =
        record {
          same = a.same ∙ x.same ∙ p.same;
          ready = a.ready;
          on =
              moves_then O L (grammar_of T) N P high d (moves_as O L (grammar_of T) N P high d refl (sym here) p.on)
              (moves_then O L (grammar_of T) N P high d (moves_node O L (grammar_of T) N P high d (spelling_if r.w others) r.a most (cursor_of s) s.mark.to k m.name m.to k1 x)
              (moves_as O L (grammar_of T) N P high d refl there (a.on (grammar_of T) high others)));
        }
      where
        others : Form
        others = nodes_then (s.n - 1) r.a r.w (form_of T (s.steps - 1) 1 r.b)

        here : form_at T s ≡ both (child r.a) (spelling_if r.w (nodes_then (s.n - 1) r.a r.w (form_of T (s.steps - 1) 1 r.b)))
        here = now_at s.n 3 e ∙ ap (λ (v : ℕ). nodes_then v r.a r.w (form_of T (s.steps - 1) 1 r.b)) (one_more s.n l)

        there : form_at T q ≡ nodes_then (s.n - 1) r.a r.w (form_of T (s.steps - 1) 1 r.b)
        there =
            ap₂ (λ (v y : ℕ). form_of T v y q.form) a.steps a.few ∙ ap (form_of T s.steps (s.n - 1)) a.form
            ∙ now_at (s.n - 1) 3 e

    along_one : r.op ≡ 1 → Moves O (grammar_of T) N P high d (form_at T s₀) (cursor_of s₀) s₀.mark.to k₀ one (cursor_of s) s.mark.to k
    along_one e = moves_as O L (grammar_of T) N P high d refl (sym (now_at s.n 1 e)) p.on

  along_never : {s : Walk} {k : List ℕ} → Along s k → s.steps ≡ 0 → Moves O (grammar_of T) N P high d (form_at T s₀) (cursor_of s₀) s₀.mark.to k₀ one (cursor_of s) s.mark.to k
  along_never {s} {k} p e =
      moves_then O L (grammar_of T) N P high d (moves_as O L (grammar_of T) N P high d refl (ap (λ (x : ℕ). form_of T x s.n s.form) (sym e)) p.on)
      (moves_never O L (grammar_of T) N P high d one (cursor_of s) s.mark.to k p.ready.short p.ready.near refl)

-- From the node's tag to its end.
module _ (O : Output) (L : Sound O) (T N : List ℕ) (P : ℕ → List ℕ → Type 0) (most high d : ℕ) (s₀ : Walk) (k₀ : List ℕ) (c i : ℕ) (o : Mark) (k₁ : List ℕ) (b : Begun O T N P d c i o k₁ s₀ k₀)
    (left : ℕ) (q : left ≡ suc high) {s : Walk} {k : List ℕ} (p : Along O L T N P most high (O.under d) s₀ k₀ s k) where
  whole : Moves O (grammar_of T) N P high (O.under d) (form_at T s₀) (cursor_of s₀) s₀.mark.to k₀ one (cursor_of s) s.mark.to k
      → Noded O (grammar_of T) N P left d most c i o.name o.to k₁ s.mark.name s.mark.to k
  whole x =
      noded O L (grammar_of T) N P left high d most c i o.name o.to k₁ b.to₀ b.k₀ (cursor_of s) s.mark.to k q p.ready.in_names b.first
      (moves_then O L (grammar_of T) N P high (O.under d) (b.on high) x)

  pub walked : (r : Row) → IsRow (entry_at T s.form) r → 0 < s.steps → r.op ≡ 1 → Noded O (grammar_of T) N P left d most c i o.name o.to k₁ s.mark.name s.mark.to k
  walked r z h e = whole (along_one O L T N P most high (O.under d) s₀ k₀ p r z h e)

  pub walked_out : s.steps ≡ 0 → Noded O (grammar_of T) N P left d most c i o.name o.to k₁ s.mark.name s.mark.to k
  walked_out e = whole (along_never O L T N P most high (O.under d) s₀ k₀ p e)
