-- The laws of runs: choices aside, joined, and as the makers of trees plant them.
use mathlib.Core.Path.{◌≡◌, refl, sym, ap, ap₂, ◌∙◌}
use mathlib.Core.List.{List, [], ◌∷◌, ◌++◌}
use Prim.Native.Nat.{ℕ, suc, ◌+◌, ◌<◌, max}
use native.Mathlib.Omega.{arith}
use lib.ListN.{length}
use Rattle.keys.specs.Form.{Form, child, Grammar, height, branch, left, right, class}
use Rattle.keys.specs.Key.{node_table}
use Rattle.keys.specs.Table.{times}
use Rattle.keys.specs.Placed.{Placed, void, said, pick, join, tree, bare, Spelling, entries}
use Rattle.keys.specs.Store.{Run, done, chose, name, kid, plant, under, called, first_kid, records, names_in, ◌⊕◌}
use Rattle.keys.proofs.StoreLaws.{join_done, join_join, plant_join}
use Rattle.marks.specs.Laid.{heights, skeleton, run_in, runs, names_run, IsNode, node}

-- ---- Without choices

pub skeleton_join : (a r : Run) → skeleton (a ⊕ r) ≡ skeleton a ⊕ skeleton r
skeleton_join done r = refl
skeleton_join (chose w k a) r = skeleton_join a r
skeleton_join (name x s a) r = ap (name x s) (skeleton_join a r)
skeleton_join (kid first end b a) r = ap (kid first end b) (skeleton_join a r)

pub under_skeleton : (a : Run) → under (skeleton a) ≡ under a
under_skeleton done = refl
under_skeleton (chose w k a) = under_skeleton a
under_skeleton (name x s a) = under_skeleton a
under_skeleton (kid first end b a) = ap (λ (n : ℕ). under b + 1 + n) (under_skeleton a)

pub called_skeleton : (a : Run) → called (skeleton a) ≡ called a
called_skeleton done = refl
called_skeleton (chose w k a) = called_skeleton a
called_skeleton (name x s a) = ap (λ (n : ℕ). 1 + n) (called_skeleton a)
called_skeleton (kid first end b a) = ap (λ (n : ℕ). called b + n) (called_skeleton a)

pub heights_skeleton : (a : Run) → heights (skeleton a) ≡ heights a
heights_skeleton done = refl
heights_skeleton (chose w k a) = heights_skeleton a
heights_skeleton (name x s a) = heights_skeleton a
heights_skeleton (kid first end b a) = ap (max (suc (heights b))) (heights_skeleton a)

pub first_kid_skeleton : (a : Run) (b n : ℕ) → first_kid (skeleton a) b n ≡ first_kid a b n
first_kid_skeleton done b n = refl
first_kid_skeleton (chose w k a) b n = first_kid_skeleton a b n
first_kid_skeleton (name x s a) b n = first_kid_skeleton a b n
first_kid_skeleton (kid first end c a) b n = refl

pub records_skeleton : (a : Run) (b m n : ℕ) → records (skeleton a) b m n ≡ records a b m n
records_skeleton done b m n = refl
records_skeleton (chose w k a) b m n = records_skeleton a b m n
records_skeleton (name x s a) b m n = records_skeleton a b (m + 1) n
records_skeleton (kid first end c a) b m n =
    ap₂ (λ (x : ℕ) (y : List ℕ). (records c b m 0 ++ Rattle.keys.specs.Store.record_of first end c b m x) ++ y)
    (first_kid_skeleton a (b + under c + 1) n) (records_skeleton a (b + under c + 1) (m + called c) n)

pub names_in_skeleton : (a : Run) → names_in (skeleton a) ≡ names_in a
names_in_skeleton done = refl
names_in_skeleton (chose w k a) = names_in_skeleton a
names_in_skeleton (name x s a) = ap (λ (l : List ℕ). Rattle.keys.specs.Store.name_of x s ∷ l) (names_in_skeleton a)
names_in_skeleton (kid first end b a) = ap (λ (l : List ℕ). names_in b ++ l) (names_in_skeleton a)

-- ---- Heights

max_zero : (n : ℕ) → max n 0 ≡ n
max_zero n = omega arith

max_assoc : (a b c : ℕ) → max a (max b c) ≡ max (max a b) c
max_assoc a b c = omega arith

pub heights_join : (a r : Run) → heights (a ⊕ r) ≡ max (heights a) (heights r)
heights_join done r = omega arith
heights_join (chose w k a) r = heights_join a r
heights_join (name x s a) r = heights_join a r
heights_join (kid first end b a) r = ap (max (suc (heights b))) (heights_join a r) ∙ max_assoc (suc (heights b)) (heights a) (heights r)

pub heights_plant : (G : Grammar) (f : Form) (p : Placed) (r : Run) → heights (plant G f p r) ≡ max (height (bare p)) (heights r)
heights_plant G f void r = omega arith
heights_plant G f (said x s) r = omega arith
heights_plant G f (pick k p) r = heights_plant G (branch f k) p r
heights_plant G f (join a b) r =
    heights_plant G (left f) a (plant G (right f) b r) ∙ ap (max (height (bare a))) (heights_plant G (right f) b r)
    ∙ max_assoc (height (bare a)) (height (bare b)) (heights r)
heights_plant G f (tree t first end p) r = ap (λ (n : ℕ). max (suc n) (heights r)) (heights_plant G (G.row (class f) t) p done ∙ max_zero (height (bare p)))

pub heights_run : (c : ℕ) (t : Placed) → heights (run_in c t) ≡ height (bare t)
heights_run c t = heights_plant node_table (child c) t done ∙ max_zero (height (bare t))

-- There are nodes where there is a height, and no other.
pub some_nodes : (a : Run) → 0 < heights a → 0 < under a
some_nodes done h = h
some_nodes (chose w k a) h = some_nodes a h
some_nodes (name x s a) h = some_nodes a h
some_nodes (kid first end b a) h = omega arith

pub no_nodes : (a : Run) → heights a ≡ 0 → under a ≡ 0
no_nodes done h = refl
no_nodes (chose w k a) h = no_nodes a h
no_nodes (name x s a) h = no_nodes a h
no_nodes (kid first end b a) h = absurd (omega arith)

pub node_high : {c : ℕ} {t : Placed} → IsNode c t → 0 < heights (run_in c t)
node_high (node a) = omega arith

-- ---- Names alone

pub names_join : (l k : List Spelling) → names_run (l ++ k) ≡ names_run l ⊕ names_run k
names_join [] k = refl
names_join (s ∷ l) k = ap (name s.0 s.1) (names_join l k)

pub under_names : (l : List Spelling) → under (names_run l) ≡ 0
under_names [] = refl
under_names (s ∷ l) = under_names l

pub called_names : (l : List Spelling) → called (names_run l) ≡ length l
called_names [] = refl
called_names (s ∷ l) = omega (arith, called_names l)

pub heights_names : (l : List Spelling) → heights (names_run l) ≡ 0
heights_names [] = refl
heights_names (s ∷ l) = heights_names l

pub first_names_lem : (l : List Spelling) (b n : ℕ) → first_kid (names_run l) b n ≡ n
first_names_lem [] b n = refl
first_names_lem (s ∷ l) b n = first_names_lem l b n

pub records_names : (l : List Spelling) (b m n : ℕ) → records (names_run l) b m n ≡ []
records_names [] b m n = refl
records_names (s ∷ l) b m n = records_names l b (m + 1) n

-- ---- Lists of trees

pub runs_more : (c : ℕ) (l : List Placed) (t : Placed) → runs c (l ++ (t ∷ [])) ≡ runs c l ⊕ run_in c t
runs_more c [] t = join_done (run_in c t)
runs_more c (u ∷ l) t = ap (λ (r : Run). run_in c u ⊕ r) (runs_more c l t) ∙ sym (join_join (run_in c u) (runs c l) (run_in c t))

-- What the entries of a list put before a run.
pub plant_entries : (c : ℕ) (l : List Placed) (r : Run) → plant node_table (times (length l) (child c)) (entries l) r ≡ runs c l ⊕ r
plant_entries c [] r = refl
plant_entries c (t ∷ l) r =
    plant_join node_table (child c) t (plant node_table (times (length l) (child c)) (entries l) r)
    ∙ ap (λ (x : Run). run_in c t ⊕ x) (plant_entries c l r)
    ∙ sym (join_join (run_in c t) (runs c l) r)
