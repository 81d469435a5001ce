-- The shapes of nodes: what lists, optional lists and optional types put into their node, as children and as choices.
use mathlib.Core.Path.{◌≡◌, refl, sym, ap, ◌∙◌, subst}
use mathlib.Core.Bool.{Bool, true}
use mathlib.Core.List.{List, [], ◌∷◌, ◌++◌}
use Prim.Native.Nat.{ℕ, ◌+◌, ◌*◌}
use native.Mathlib.Omega.{arith}
use borrow.Author.Tests.{eq-eqb}
use lib.Dec.{T, eqb, leb, leb-zero}
use lib.ListN.{length}
use Rattle.keys.specs.Limits.{count_width, tags, counts}
use Rattle.keys.specs.Form.{Form, child}
use Rattle.keys.specs.Key.{node_table}
use Rattle.keys.specs.Table.{list, opt, times, when}
use Rattle.keys.specs.Placed.{Placed, Opt, absent, present, entries, listed, maybe, maybe_list}
use Rattle.keys.specs.Store.{Run, done, chose, plant, packed, ◌⊕◌}
use Rattle.keys.proofs.StoreLaws.{join_done, join_join, plant_join}
use Rattle.rules.specs.List.{count}
use Rattle.marks.specs.Laid.{skeleton, run_in, run_opt, runs, runs_opt, IsNode, node, IsOpt, AllNodes, AllOpt, allowed, Shape, opt_bit}
use Rattle.marks.specs.Says.{is_there}
use Rattle.marks.specs.Node.{opt_list, list_choices, list_scale}
use Rattle.marks.proofs.RunLaws.{plant_entries}

-- ---- What a type shows

-- Two numbers that are the same pass their test.
pub shows : (a b : ℕ) → a ≡ b → T (eqb a b)
shows a b e = subst T (sym (eq-eqb a b e)) tt

-- ---- Lists of nodes

-- One node more at the end.
pub all_more : {c : ℕ} (l : List Placed) {t : Placed} → AllNodes c l → IsNode c t → AllNodes c (l ++ (t ∷ []))
all_more [] h n = (n, tt)
all_more (u ∷ l) h n = (h.0, all_more l h.1 n)

-- Nodes have no choices beside them.
pub packed_node : {c : ℕ} {t : Placed} (r : Run) → IsNode c t → packed (plant node_table (child c) t r) ≡ packed r
packed_node r (node a) = refl

pub packed_runs : (c : ℕ) (l : List Placed) (r : Run) → AllNodes c l → packed (runs c l ⊕ r) ≡ packed r
packed_runs c [] r h = refl
packed_runs c (t ∷ l) r h =
    ap packed (join_join (run_in c t) (runs c l) r ∙ sym (plant_join node_table (child c) t (runs c l ⊕ r)))
    ∙ packed_node (runs c l ⊕ r) h.0 ∙ packed_runs c l r h.1

-- ---- What a list puts before a run: its entries, and its count as a choice

module _ (c least : ℕ) (l : List Placed) (r : Run) (h : leb least (length l) ≡ true) where
  list_run : plant node_table (list count_width least (child c)) (listed l) r ≡ chose count_width (length l) (runs c l ⊕ r)
  list_run = ap (λ (b : Bool). chose count_width (length l) (plant node_table (when b (times (length l) (child c))) (entries l) r)) h ∙ ap (chose count_width (length l)) (plant_entries c l r)

  pub skeleton_list : skeleton (plant node_table (list count_width least (child c)) (listed l) r) ≡ skeleton (runs c l ⊕ r)
  skeleton_list = ap skeleton list_run

  pub packed_list : AllNodes c l → packed (plant node_table (list count_width least (child c)) (listed l) r) ≡ length l + counts * packed r
  packed_list a = ap packed list_run ∙ ap (λ (n : ℕ). length l + counts * n) (packed_runs c l r a)

-- ---- What a part that may be absent puts before a run

pub skeleton_maybe_list : (c : ℕ) (ts : Opt (List Placed)) (r : Run)
    → skeleton (plant node_table (opt (list count_width 0 (child c))) (maybe_list ts) r) ≡ skeleton (runs_opt c ts ⊕ r)
skeleton_maybe_list c absent r = refl
skeleton_maybe_list c (present l) r = skeleton_list c 0 l r (leb-zero (length l))

pub packed_maybe_list : (c : ℕ) (ts : Opt (List Placed)) (r : Run) → AllOpt c ts
    → packed (plant node_table (opt (list count_width 0 (child c))) (maybe_list ts) r) ≡ opt_list (is_there ts) (count ts) + list_scale (is_there ts) * packed r
packed_maybe_list c absent r h = omega arith
packed_maybe_list c (present l) r h = ap (λ (n : ℕ). 1 + 2 * n) (packed_list c 0 l r (leb-zero (length l)) h) ∙ (let e : 1 + 2 * (length l + counts * packed r) ≡ 1 + 2 * length l + list_choices * packed r = omega arith in e)

-- ---- A type that may be absent

-- What it puts before a run: itself, and its bit as a choice.
pub skeleton_maybe : (u : Opt Placed) (r : Run) → skeleton (plant node_table (opt (child 0)) (maybe u) r) ≡ skeleton (run_opt 0 u ⊕ r)
skeleton_maybe absent r = refl
skeleton_maybe (present u) r = ap skeleton (plant_join node_table (child 0) u r)

pub packed_maybe : (u : Opt Placed) (r : Run) → IsOpt 0 u → packed (plant node_table (opt (child 0)) (maybe u) r) ≡ opt_bit u + 2 * packed r
packed_maybe absent r h = omega arith
packed_maybe (present u) r h = ap (λ (n : ℕ). 1 + 2 * n) (packed_node r h)

-- ---- A node whose one list are its children

pub shape_list : (tag c least : ℕ) (l : List Placed) → node_table.row 0 tag ≡ list count_width least (child c) → T (allowed 0 tag (listed l))
    → leb least (length l) ≡ true → AllNodes c l → Shape 0 tag (listed l) (runs c l) (tag + tags * length l)
shape_list tag c least l e t h a =
    record {
      same =
          ap (λ (f : Form). skeleton (plant node_table f (listed l) done)) e ∙ skeleton_list c least l done h
          ∙ ap skeleton (join_done (runs c l));
      choices_are =
          ap (λ (n : ℕ). tag + tags * n)
          ((let z : length l ≡ length l + counts * 0 = omega arith in z)
          ∙ sym (packed_list c least l done h a) ∙ ap (λ (f : Form). packed (plant node_table f (listed l) done)) (sym e));
      allowed_is = t;
    }
