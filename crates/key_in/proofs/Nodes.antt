-- Nodes: a node's tag, its fields and its record, and nodes one after the other.
use mathlib.Core.Path.{◌≡◌, refl, sym, ap, ap₂, ◌∙◌, subst, subst₂}
use mathlib.Core.List.{List, [], ◌∷◌, ◌++◌}
use Prim.Native.Nat.{ℕ, zero, suc, ◌+◌, ◌-◌, ◌*◌, ◌^◌, ◌≤◌, ◌<◌}
use native.Mathlib.Nat.{add-zero}
use native.Mathlib.Omega.{arith}
use lib.ListN.{length, drop, length-drop}
use Rattle.keys.specs.Bits.{Bits}
use Rattle.keys.specs.Form.{Form, one, both, child, Grammar, State, state}
use Rattle.keys.specs.Limits.{widest, half_word, choices_wide}
use Rattle.keys.specs.Store.{Run, done, chose, kid}
use Rattle.keys.proofs.StoreLaws.{join_done}
use Rattle.keys.specs.Table.{one_of}
use Rattle.keys.specs.Words.{first_nodes}
use Rattle.keys.specs.Stored.{base, Stored, Own}
use Rattle.keys.proofs.StoredLaws.{stored_none, stored_choice, stored_node}
use Rattle.node_table.specs.Forms.{Entry, listed, form_by, form_of, steps_of, entry_at, class_at, grammar_of, leads, entry_of, IsRow, nodes_then, spelling_if, table_most}
use Rattle.node_table.proofs.FormsLaws.{form_at_lem}
use Rattle.node_table.specs.declared.forms.Row.{Row}
use Rattle.key_parts.specs.Runs.{Ran, ran, halt, after, then_run, as_child, room_run, form_run, node_run}
use Rattle.key_parts.specs.Place.{state_at, Halts}
use Rattle.key_parts.specs.Choice.{Picked, PickedIn}
use Rattle.key_parts.specs.Widths.{Spans}
use Rattle.key_parts.specs.Step.{Steady, Housed, with_child, fill_on, Went, PlainIn, Linked, AfterIn}
use Rattle.key_in.specs.declared.back.Outputs.{Outputs}
use Rattle.key_in.specs.Back.{Same, NodeIn, Asks, NodesIn}
use Rattle.std.specs.Prelude.{Result, Ok, Err}
use Rattle.words.specs.declared.refusal.Refusal.TheVariants.{TooTall, NoRoom, BadKey}
use Rattle.key_parts.specs.declared.refusal.Stop.{Stop}
use Rattle.key_parts.specs.declared.place.Pos.{Pos}
use Rattle.key_parts.specs.declared.place.Fill.{Fill}
use Rattle.key_parts.specs.declared.choice.Pick.{Pick}
use Rattle.key_parts.proofs.Steps.{halts_after}
use Rattle.key_parts.proofs.Walk.{went_none, went_then, names_went, went_fill_on, spans_nodes, nodes_spans}

-- The same outputs, twice.
pub same_then : {t u v : Outputs} → Same t u → Same u v → Same t v
same_then a b = record { nodes = b.nodes ∙ a.nodes; names = b.names ∙ a.names; text = b.text ∙ a.text }

-- ---- The same over lengths that are equal

pub node_as : {bs : Bits} {lm lx lm' lx' : ℕ} {G : Grammar} {left c : ℕ} {p : Pos} {N M X : List ℕ} {q : Result Pos Stop} {N' M' X' : List ℕ} → lm' ≡ lm → lx' ≡ lx
    → NodeIn bs lm' lx' G left c p N M X q N' M' X' → NodeIn bs lm lx G left c p N M X q N' M' X'
node_as {bs} {lm} {lx} {lm'} {lx'} {G} {left} {c} {p} {N} {M} {X} {q} {N'} {M'} {X'} a b d = subst₂ (λ (x y : ℕ). NodeIn bs x y G left c p N M X q N' M' X') a b d

pub after_as : {bs : Bits} {lm lx lm' lx' w : ℕ} {s : Fill} {M X : List ℕ} {q : Result Fill Stop} {M' X' : List ℕ} → lm' ≡ lm → lx' ≡ lx
    → AfterIn bs lm' lx' w s M X q M' X' → AfterIn bs lm lx w s M X q M' X'
after_as {bs} {lm} {lx} {lm'} {lx'} {w} {s} {M} {X} {q} {M'} {X'} a b d = subst₂ (λ (x y : ℕ). AfterIn bs x y w s M X q M' X') a b d

-- ---- n nodes, i of them taken

module _ (bs : Bits) (lm lx : ℕ) (G : Grammar) (left : ℕ) (r : Row) (s : Fill) (N M X : List ℕ) where
  abbrev Y : ℕ → State → Ran
  Y = node_run lx G left

  abbrev F : ℕ → Form → Form
  F n g = nodes_then n r.a r.w g

  pub record Kids (i : ℕ) (q : Fill) (N' M' X' : List ℕ) : Type 0 where
    pub few : i ≤ s.n
    pub shift_same : q.shift ≡ s.shift
    pub went : (g : Form) → Spans g (choices_wide - s.shift) → Went bs lm lx (node_run lx G left) (nodes_then s.n r.a r.w g) (nodes_then (s.n - i) r.a r.w g) s N M X q N' M' X'

  pub kids_none : Steady bs lm lx s → Kids 0 s N M X
  kids_none h =
      let e : s.n ≡ s.n - 0 = omega arith in
      record {
        few = omega arith;
        shift_same = refl;
        went =
            λ g sp. subst (λ (k : ℕ). Went bs lm lx Y (F s.n g) (F k g) s N M X s N M X) e
            (went_none bs lm lx Y (F s.n g) s N M X h (nodes_spans s.n r.a r.w g (choices_wide - s.shift) sp));
      }

module _ {bs : Bits} {lm lx : ℕ} {G : Grammar} {left : ℕ} {r : Row} {s : Fill} {N M X : List ℕ} {i : ℕ} {q : Fill} {N1 M1 X1 : List ℕ}
    (d : Kids bs lm lx G left r s N M X i q N1 M1 X1) where
  any : Went bs lm lx (node_run lx G left) (nodes_then s.n r.a r.w one) (nodes_then (s.n - i) r.a r.w one) s N M X q N1 M1 X1
  any = d.went one tt

  pub kids_steady : Steady bs lm lx q
  kids_steady = any.steady

  pub kids_housed : Housed (length N) s → Housed (length N1) q
  kids_housed = any.housed

  pub kids_nodes : length N1 ≡ length N
  kids_nodes = any.nodes_same

  pub kids_names : length M1 ≡ length M
  kids_names = any.names_same

  pub kids_text : length X1 ≡ length X
  kids_text = any.text_same

  module _ (h : i < s.n) where
    abbrev rest : Form → Form
    rest g = nodes_then (s.n - (i + 1)) r.a r.w g

    here : (g : Form) → Spans g (choices_wide - s.shift) → Went bs lm lx (node_run lx G left) (nodes_then s.n r.a r.w g) (both (child r.a) (spelling_if r.w (rest g))) s N M X q N1 M1 X1
    here g sp =
        let z : s.n - i ≡ suc (s.n - (i + 1)) = omega arith in
        subst (λ (k : ℕ). Went bs lm lx (node_run lx G left) (nodes_then s.n r.a r.w g) (nodes_then k r.a r.w g) s N M X q N1 M1 X1) z (d.went g sp)

    -- A node is refused.
    pub kids_bad : {x : Stop} {N2 M2 X2 : List ℕ} → NodeIn bs lm lx G left r.a q.at N1 M1 X1 (Err x) N2 M2 X2 → NodesIn bs lm lx G left r s N M X (Err x) N2 M2 X2
    kids_bad e =
        record {
          nodes_same = e.nodes_same ∙ kids_nodes;
          names_same = e.names_same ∙ kids_names;
          text_same = e.text_same ∙ kids_text;
          stopped =
              λ g sp. halts_after bs lm lx (here g sp).run (here g sp).same
              (record { in_key = e.stopped.in_key; is = ap (λ (x : Ran). then_run x λ t. form_run lx (node_run lx G left) (spelling_if r.w (rest g)) t) e.stopped.is });
          went = tt;
        }

    module _ {p : Pos} {N2 M2 X2 : List ℕ} (e : NodeIn bs lm lx G left r.a q.at N1 M1 X1 (Ok p) N2 M2 X2) {q' : Fill} {N3 : List ℕ} (l : Linked N2 q p q' N3) where
      child_went : (f : Form) → Spans f (choices_wide - q.shift) → Went bs lm lx (node_run lx G left) (both (child r.a) f) f q N1 M1 X1 (with_child q p l.child) N3 M2 X2
      child_went f sp =
          let t = kids_steady in
          let k = e.grown in
          record {
            steady = record { inside = k.inside; small = t.small; narrow = t.narrow; in_table = t.in_table; few = t.few };
            housed =
                λ x. record {
                  above = omega (arith, k.stored.used, x.above);
                  nodes_fit = omega (arith, k.total, x.nodes_fit, l.same, e.nodes_same);
                  in_nodes = omega (arith, l.small, l.same, e.nodes_same);
                };
            spans = sp;
            base_same = refl;
            total = k.total;
            nodes_same = l.same ∙ e.nodes_same;
            names_same = e.names_same;
            text_same = e.text_same;
            run = kid 0 0 k.run done;
            same = ap (λ (x : Ran). then_run x λ u. form_run lx (node_run lx G left) f u) k.is;
            fill = λ B u j x o. l.grew B u k.run N1 M1 X1 M2 X2 j (sym e.nodes_same) x o k.stored;
          }

      shift_linked : q'.shift ≡ q.shift
      shift_linked = ap (λ (x : Fill). x.shift) l.is

      linked : (f : Form) → Spans f (choices_wide - s.shift) → Went bs lm lx (node_run lx G left) (both (child r.a) f) f q N1 M1 X1 q' N3 M2 X2
      linked f sp =
          subst (λ (x : Fill). Went bs lm lx (node_run lx G left) (both (child r.a) f) f q N1 M1 X1 x N3 M2 X2) (sym l.is)
          (child_went f (subst (λ (k : ℕ). Spans f (choices_wide - k)) (sym d.shift_same) sp))

      -- The child is there, and the spelling after it is to come.
      kid_there : (g : Form) → Spans g (choices_wide - s.shift) → Went bs lm lx (node_run lx G left) (nodes_then s.n r.a r.w g) (spelling_if r.w (rest g)) s N M X q' N3 M2 X2
      kid_there g sp = went_then bs lm lx (node_run lx G left) (here g sp) (linked (spelling_if r.w (rest g)) (subst (λ (k : ℕ). Spans (spelling_if r.w (rest g)) (choices_wide - k)) d.shift_same (here g sp).spans))

      pub kid_steady : Steady bs lm lx q'
      kid_steady = (kid_there one tt).steady

      -- The spelling after it is refused.
      pub kids_cut : {x : Stop} {M3 X3 : List ℕ} → AfterIn bs lm lx r.w q' M2 X2 (Err x) M3 X3 → NodesIn bs lm lx G left r s N M X (Err x) N3 M3 X3
      kids_cut a =
          record {
            nodes_same = (kid_there one tt).nodes_same;
            names_same = a.names_same ∙ (kid_there one tt).names_same;
            text_same = a.text_same ∙ (kid_there one tt).text_same;
            stopped = λ g sp. halts_after bs lm lx (kid_there g sp).run (kid_there g sp).same (a.stopped (rest g) (node_run lx G left));
            went = tt;
          }

      pub kids_more : {q'' : Fill} {M3 X3 : List ℕ} → AfterIn bs lm lx r.w q' M2 X2 (Ok q'') M3 X3 → Kids bs lm lx G left r s N M X (i + 1) q'' N3 M3 X3
      kids_more {q''} {M3} {X3} a =
          record {
            few = omega arith;
            shift_same = ap (λ (x : Fill). x.shift) a.gone.0 ∙ shift_linked ∙ d.shift_same;
            went =
                λ g sp. went_then bs lm lx (node_run lx G left) (kid_there g sp)
                (subst (λ (x : Fill). Went bs lm lx (node_run lx G left) (spelling_if r.w (rest g)) (rest g) q' N3 M2 X2 x N3 M3 X3) (sym a.gone.0)
                (names_went bs lm lx (node_run lx G left) q' q''.at (a.gone.1 (rest g)) a.names_same a.text_same kid_steady
                (subst (λ (k : ℕ). Spans (rest g) (choices_wide - k)) (sym (shift_linked ∙ d.shift_same)) (nodes_spans (s.n - (i + 1)) r.a r.w g (choices_wide - s.shift) sp))
                q'.form q'.n kid_steady.in_table kid_steady.few N3));
          }

  -- All of them are taken.
  pub kids_all : s.n ≤ i → r.b < table_most → NodesIn bs lm lx G left r s N M X (Ok (fill_on q q.at r.b 1)) N1 M1 X1
  kids_all h b =
      record {
        nodes_same = kids_nodes;
        names_same = kids_names;
        text_same = kids_text;
        stopped = tt;
        went =
            λ g sp. (
              refl,
              refl,
              went_fill_on bs lm lx (node_run lx G left)
                  (let z : s.n - i ≡ 0 = omega arith in subst (λ (k : ℕ). Went bs lm lx (node_run lx G left) (nodes_then s.n r.a r.w g) (nodes_then k r.a r.w g) s N M X q N1 M1 X1) z (d.went g sp))
                  r.b 1 b (omega arith),
            );
      }

-- ---- A node

module _ {bs : Bits} {ln lm lx : ℕ} {T : List ℕ} {class : ℕ} {p : Pos} (h : Asks bs ln lm lx T class p) {steps : ℕ} (st : steps ≡ steps_of T) {r : Row} (i : IsRow (class_at T class) r) where
  abbrev G : Grammar
  G = grammar_of T

  abbrev Tags : Result Pick Stop → Type 0
  Tags x = PickedIn bs T steps r.w (leads T (form_of T steps) (entry_of r) 0) p.bit x

  picked_as : (x : Result Pick Stop) → Tags x → PickedIn bs T (steps_of T) ((grammar_of T).tag_width class) ((grammar_of T).row class) p.bit x
  picked_as x k = subst₂ (λ (e : Entry) (d : ℕ). PickedIn bs T d e.w (λ t. one_of (listed T (λ f. form_of T d 1 f) e.a e.b) t) p.bit x) i.is st k

  refuse : (left : ℕ) (N M X : List ℕ) (e : Stop) → Halts bs (node_run lx (grammar_of T) left class (state_at bs lm lx p)) e → NodeIn bs lm lx (grammar_of T) left class p N M X (Err e) N M X
  refuse left N M X e d = record { nodes_same = refl; names_same = refl; text_same = refl; stopped = d; grown = tt }

  pub node_bad : (left : ℕ) (N M X : List ℕ) {e : Stop} → PickedIn bs T steps r.w (leads T (form_of T steps) (entry_of r) 0) p.bit (Err e) → NodeIn bs lm lx (grammar_of T) left class p N M X (Err e) N M X
  node_bad left N M X {e} k = refuse left N M X e (by left)
    where
      by : (x : ℕ) → Halts bs (node_run lx (grammar_of T) x class (state_at bs lm lx p)) e
      by zero = (picked_as (Err e) k).stopped.2 p.nodes (lm - p.names) (lx - p.chars) _
      by (suc x) = (picked_as (Err e) k).stopped.2 p.nodes (lm - p.names) (lx - p.chars) _

  module _ {c : Pick} (k' : PickedIn bs T steps r.w (leads T (form_of T steps) (entry_of r) 0) p.bit (Ok c)) where
    k : Picked bs T steps r.w (leads T (form_of T steps) (entry_of r) 0) p.bit c
    k = k'.picked

    picked : Picked bs T (steps_of T) ((grammar_of T).tag_width class) ((grammar_of T).row class) p.bit c
    picked = (picked_as (Ok c) k').picked

    pub node_tall : (left : ℕ) (N M X : List ℕ) → left ≡ 0 → NodeIn bs lm lx (grammar_of T) left class p N M X (Err (record { why = TooTall; bit = p.bit })) N M X
    node_tall left N M X l =
        refuse left N M X (record { why = TooTall; bit = p.bit }) (record {
          in_key = h.inside.in_key;
          is = ap (λ (x : ℕ). node_run lx G x class (state_at bs lm lx p)) l ∙ picked.went p.nodes (lm - p.names) (lx - p.chars) _ ∙ ap (halt 6) (length-drop p.bit bs);
        })

    module _ {left l : ℕ} (y : left ≡ suc l) where
      abbrev under_it : ℕ → Ran
      under_it n = as_child ((grammar_of T).tag_width class) c.number (form_run lx (node_run lx (grammar_of T) l) ((grammar_of T).row class c.number) (state n (lm - p.names) (lx - p.chars) (drop c.bit bs)))

      entered : (m : ℕ) → p.nodes ≡ m → node_run lx (grammar_of T) left class (state_at bs lm lx p) ≡ room_run (state_at bs lm lx p) under_it m
      entered m e =
          ap (λ (x : ℕ). node_run lx G x class (state_at bs lm lx p)) y ∙ picked.went p.nodes (lm - p.names) (lx - p.chars) _ ∙ ap (room_run (state_at bs lm lx p) under_it) e

      pub node_full : (N M X : List ℕ) → p.nodes ≡ 0 → NodeIn bs lm lx (grammar_of T) left class p N M X (Err (record { why = NoRoom; bit = p.bit })) N M X
      node_full N M X e = refuse left N M X (record { why = NoRoom; bit = p.bit }) (record { in_key = h.inside.in_key; is = entered 0 e ∙ ap (halt 8) (length-drop p.bit bs) })

      module _ {m : ℕ} (e : p.nodes ≡ suc m) where
        abbrev s₀ : Fill
        s₀ =
            record {
              at = record { bit = c.bit; nodes = p.nodes - 1; used = p.used; names = p.names; chars = p.chars };
              base = p.used;
              word = c.number;
              shift = r.w;
              child = 0;
              form = c.form;
              n = c.n;
            }

        abbrev f₀ : Form
        f₀ = form_of T steps c.n c.form

        to : (grammar_of T).row class c.number ≡ form_of T steps c.n c.form
        to = picked.to ∙ ap (λ (x : ℕ). form_of T x c.n c.form) (sym st)

        less : (x : ℕ) → x ≡ suc m → m ≡ x - 1
        less x v = omega arith

        fields : node_run lx (grammar_of T) left class (state_at bs lm lx p) ≡ as_child ((grammar_of T).tag_width class) c.number (form_run lx (node_run lx (grammar_of T) l) f₀ (state_at bs lm lx s₀.at))
        fields =
            entered (suc m) e
            ∙ ap₂ (λ (x : Form) (n : ℕ). as_child ((grammar_of T).tag_width class) c.number (form_run lx (node_run lx G l) x (state n (lm - p.names) (lx - p.chars) (drop c.bit bs)))) to (less p.nodes e)

        narrow : r.w ≤ widest
        narrow = subst (λ (x : Entry). x.w ≤ widest) (sym i.is) (h.slim.narrow.tag class)

        pub start_steady : Steady bs lm lx s₀
        start_steady =
            record {
              inside =
                  record {
                    in_key = k.inside;
                    in_names = h.inside.in_names;
                    in_text = h.inside.in_text;
                    few_names = h.inside.few_names;
                    few_chars = omega (arith, k.next, h.inside.few_chars);
                  };
              small = k.small;
              narrow = omega (arith, narrow);
              in_table = k.in_table;
              few = k.few;
            }

        pub start_housed : Housed ln s₀
        start_housed = record { above = omega arith; nodes_fit = omega (arith, h.nodes_fit); in_nodes = omega arith }

        pub start_spans : Spans f₀ (choices_wide - r.w)
        start_spans =
            subst₂ (λ (x : Form) (n : ℕ). Spans x (choices_wide - n)) to (sym (ap (λ (x : Entry). x.w) i.is)) (h.slim.rows class c.number)

        module _ {N M X : List ℕ} {f : Form} {s : Fill} {N1 M1 X1 : List ℕ} (w : Went bs lm lx (node_run lx (grammar_of T) l) f₀ f s₀ N M X s N1 M1 X1) where
          -- A refusal inside.
          pub node_stop : {e : Stop} → Halts bs (form_run lx (node_run lx (grammar_of T) l) f (state_at bs lm lx s.at)) e → (N2 M2 X2 : List ℕ)
              → length N2 ≡ length N1 → length M2 ≡ length M1 → length X2 ≡ length X1 → NodeIn bs lm lx (grammar_of T) left class p N M X (Err e) N2 M2 X2
          node_stop a N2 M2 X2 x1 x2 x3 =
              record {
                nodes_same = x1 ∙ w.nodes_same;
                names_same = x2 ∙ w.names_same;
                text_same = x3 ∙ w.text_same;
                stopped = record { in_key = a.in_key; is = fields ∙ ap (as_child ((grammar_of T).tag_width class) c.number) (w.same ∙ ap (after w.run) a.is) };
                grown = tt;
              }

          abbrev q₀ : Pos
          q₀ = record { bit = s.at.bit; nodes = s.at.nodes; used = s.at.used + 1; names = s.at.names; chars = s.at.chars }

          wide : r.w ≡ (grammar_of T).tag_width class
          wide = ap (λ (x : Entry). x.w) i.is

          zero_out : (x v : ℕ) → x ≡ x + v * 0
          zero_out x v = omega arith

          filled_in : Stored (base N M X p.used p.names p.chars) (chose r.w c.number w.run) N1 M1 X1 s.at.used s.at.names s.at.chars
              × Own (base N M X p.used p.names p.chars) (chose r.w c.number w.run) s.word s.shift s.child
          filled_in =
              w.fill (base N M X p.used p.names p.chars) (chose r.w c.number done) refl
              (stored_choice r.w c.number (stored_none N M X p.used p.names p.chars))
              (record { word_is = zero_out c.number (2 ^ r.w); shift_is = sym (add-zero r.w); child_is = refl })

          pub node_done : f ≡ one → (N2 : List ℕ) → length N2 ≡ length N1
              → first_nodes N2 (s.at.used + 1) ≡ first_nodes N1 s.at.used ++ (s.word ∷ (0 + half_word * 0) ∷ (s.child + half_word * p.names) ∷ 0 ∷ [])
              → NodeIn bs lm lx (grammar_of T) left class p N M X (Ok q₀) N2 M1 X1
          node_done a N2 b v =
              record {
                nodes_same = b ∙ w.nodes_same;
                names_same = w.names_same;
                text_same = w.text_same;
                stopped = tt;
                grown =
                    record {
                      run = chose r.w c.number w.run;
                      is =
                          fields ∙ ap (as_child ((grammar_of T).tag_width class) c.number) (w.same ∙ ap (λ (x : Form). after w.run (form_run lx (node_run lx G l) x (state_at bs lm lx s.at))) a)
                          ∙ ap₂ (λ (x : ℕ) (u : Run). ran (kid 0 0 (chose x c.number u) done) (state_at bs lm lx s.at)) (sym wide) (join_done w.run);
                      stored = stored_node 0 0 N2 filled_in.0 filled_in.1 v;
                      total = omega (arith, w.total);
                      inside =
                          let g = w.steady.inside in
                          record { in_key = g.in_key; in_names = g.in_names; in_text = g.in_text; few_names = g.few_names; few_chars = g.few_chars };
                    };
              }

-- ---- The walk of a node's fields

module _ (T : List ℕ) {bs : Bits} {lm lx : ℕ} {Y : ℕ → State → Ran} {f₀ : Form} {s₀ : Fill} {N₀ M₀ X₀ : List ℕ} {s : Fill} {N M X : List ℕ} (depth : ℕ)
    (w : Went bs lm lx Y f₀ (form_of T depth s.n s.form) s₀ N₀ M₀ X₀ s N M X) (d : ℕ) (q : depth ≡ suc d) (r : Row) (e : IsRow (entry_at T s.form) r) where
  pub form_is : (o : ℕ) → r.op ≡ o → form_of T depth s.n s.form ≡ form_by T (form_of T d) s.n (entry_of r) o
  form_is o i = form_at_lem T depth d s.n s.form q r e o i

  pub at_op : (o : ℕ) → r.op ≡ o → Went bs lm lx Y f₀ (form_by T (form_of T d) s.n (entry_of r) o) s₀ N₀ M₀ X₀ s N M X
  at_op o i = subst (λ (x : Form). Went bs lm lx Y f₀ x s₀ N₀ M₀ X₀ s N M X) (form_is o i) w

  module _ (lm' lx' : ℕ) (b : lm' ≡ lm) (c : lx' ≡ lx) {M' X' : List ℕ} where
    plain : {t : Result Fill Stop} → PlainIn bs lm' lx' T d r s M X t M' X' → PlainIn bs lm lx T d r s M X t M' X'
    plain {t} p = subst₂ (λ (x y : ℕ). PlainIn bs x y T d r s M X t M' X') b c p

    pub plain_on : {s' : Fill} → PlainIn bs lm' lx' T d r s M X (Ok s') M' X' → Went bs lm lx Y f₀ (form_of T d s'.n s'.form) s₀ N₀ M₀ X₀ s' N M' X'
    plain_on p = went_then bs lm lx Y (at_op r.op refl) ((plain p).went Y N)

    pub plain_off : {x : Stop} → PlainIn bs lm' lx' T d r s M X (Err x) M' X' → Halts bs (form_run lx Y (form_of T depth s.n s.form) (state_at bs lm lx s.at)) x
    plain_off {x} p = subst (λ (f : Form). Halts bs (form_run lx Y f (state_at bs lm lx s.at)) x) (sym (form_is r.op refl)) ((plain p).stopped Y)

module _ (T : List ℕ) (G : Grammar) (left : ℕ) {bs : Bits} {lm lx : ℕ} {f₀ : Form} {s₀ : Fill} {N₀ M₀ X₀ : List ℕ} {s : Fill} {N M X : List ℕ} (depth : ℕ)
    (w : Went bs lm lx (node_run lx G left) f₀ (form_of T depth s.n s.form) s₀ N₀ M₀ X₀ s N M X) (d : ℕ) (q : depth ≡ suc d) (r : Row) (e : IsRow (entry_at T s.form) r) (o : r.op ≡ 3) where
  there : Went bs lm lx (node_run lx G left) f₀ (nodes_then s.n r.a r.w (form_of T d 1 r.b)) s₀ N₀ M₀ X₀ s N M X
  there = at_op T depth w d q r e 3 o

  sp : Spans (form_of T d 1 r.b) (choices_wide - s.shift)
  sp = spans_nodes s.n r.a r.w (form_of T d 1 r.b) (choices_wide - s.shift) there.spans

  module _ (lm' lx' : ℕ) (b : lm' ≡ lm) (c : lx' ≡ lx) {N' M' X' : List ℕ} where
    nodes : {t : Result Fill Stop} → NodesIn bs lm' lx' G left r s N M X t N' M' X' → NodesIn bs lm lx G left r s N M X t N' M' X'
    nodes {t} p = subst₂ (λ (x y : ℕ). NodesIn bs x y G left r s N M X t N' M' X') b c p

    pub nodes_on : {s' : Fill} → NodesIn bs lm' lx' G left r s N M X (Ok s') N' M' X' → Went bs lm lx (node_run lx G left) f₀ (form_of T d s'.n s'.form) s₀ N₀ M₀ X₀ s' N' M' X'
    nodes_on {s'} p =
        let t = (nodes p).went (form_of T d 1 r.b) sp in
        subst₂ (λ (x y : ℕ). Went bs lm lx (node_run lx G left) f₀ (form_of T d x y) s₀ N₀ M₀ X₀ s' N' M' X') (sym t.1) (sym t.0)
        (went_then bs lm lx (node_run lx G left) there t.2)

    pub nodes_off : {x : Stop} → NodesIn bs lm' lx' G left r s N M X (Err x) N' M' X' → Halts bs (form_run lx (node_run lx G left) (form_of T depth s.n s.form) (state_at bs lm lx s.at)) x
    nodes_off {x} p =
        subst (λ (f : Form). Halts bs (form_run lx (node_run lx G left) f (state_at bs lm lx s.at)) x) (sym (form_is T depth w d q r e 3 o)) ((nodes p).stopped (form_of T d 1 r.b) sp)

pub never_off : (T : List ℕ) (Y : ℕ → State → Ran) (bs : Bits) (lm lx depth : ℕ) (s : Fill) → depth ≡ 0 → s.at.bit ≤ length bs
    → Halts bs (form_run lx Y (form_of T depth s.n s.form) (state_at bs lm lx s.at)) (record { why = BadKey; bit = s.at.bit })
never_off T Y bs lm lx depth s e k =
    record { in_key = k; is = ap (λ (x : ℕ). form_run lx Y (form_of T x s.n s.form) (state_at bs lm lx s.at)) e ∙ ap (halt 10) (length-drop s.at.bit bs) }
