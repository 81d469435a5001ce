-- Laws of values that stand in order.
use mathlib.Core.Path.{◌≡◌, refl, ◌∙◌}
use mathlib.Core.Bool.{Bool, true, false}
use mathlib.Core.List.{List, [], ◌∷◌, ◌++◌}
use Prim.Native.Nat.{ℕ, ◌≤◌, ◌<◌}
use native.Mathlib.Omega.{arith}
use lib.Dec.{eqb}
use Rattle.keys.specs.Form.{child, nodes, Fits, fits_child}
use Rattle.keys.specs.Placed.{Placed, void, said, pick, join, tree, bare, entries, optional_if, as_element, first_of, end_of}
use Rattle.keys.specs.Key.{node_table}
use Rattle.keys.proofs.Fitting.{Is}
use Rattle.rules.specs.Places.{after, InOrder}

-- In order from lo on, and ended by hi.
pub record Spans (lo hi : ℕ) (p : Placed) : Type 0 where
  pub in_order : InOrder lo p
  pub up_to : after lo p ≤ hi

-- What is in order from b on is so from any earlier byte on.
less : (p : Placed) {a b : ℕ} → a ≤ b → InOrder b p → InOrder a p × (after a p ≤ after b p)
less void h i = (tt, h)
less (said x s) h i = (tt, h)
less (pick k p) h i = less p h i
less (join p q) h i =
    let x = less p h i.0 in
    let y = less q x.1 i.1 in
    ((x.0, y.0), y.1)
less (tree t first end p) h i = ((omega arith, i.1, i.2, i.3), omega arith)

pub rising : (p : Placed) {a : ℕ} → InOrder a p → a ≤ after a p
rising void i = omega arith
rising (said x s) i = omega arith
rising (pick k p) i = rising p i
rising (join p q) i = omega (arith, rising p i.0, rising q i.1)
rising (tree t first end p) i = omega arith

pub spans_le : {lo hi : ℕ} {p : Placed} → Spans lo hi p → lo ≤ hi
spans_le {p = p} x = omega (arith, rising p x.in_order)

pub spans_down : {a lo hi : ℕ} {p : Placed} → a ≤ lo → Spans lo hi p → Spans a hi p
spans_down {p = p} h x = let z = less p h x.in_order in record { in_order = z.0; up_to = omega arith }

pub spans_up : {lo m hi : ℕ} {p : Placed} → Spans lo m p → m ≤ hi → Spans lo hi p
spans_up x h = record { in_order = x.in_order; up_to = omega arith }

pub spans_join : {lo m hi : ℕ} {p q : Placed} → Spans lo m p → Spans m hi q → Spans lo hi (join p q)
spans_join {p = p} {q = q} x y =
    let z = less q x.up_to y.in_order in
    record { in_order = (x.in_order, z.0); up_to = omega arith }

-- Where there is no node nothing stands.
flat : (p : Placed) → nodes (bare p) ≡ 0 → (a : ℕ) → InOrder a p × (after a p ≡ a)
flat void e a = (tt, refl)
flat (said x s) e a = (tt, refl)
flat (pick k p) e a = flat p e a
flat (join p q) e a =
    let x = flat p (omega arith) a in
    let y = flat q (omega arith) (after a p) in
    ((x.0, y.0), y.1 ∙ x.1)
flat (tree t first end p) e a = absurd (omega arith)

pub spans_flat : {lo hi : ℕ} (p : Placed) → nodes (bare p) ≡ 0 → lo ≤ hi → Spans lo hi p
spans_flat {lo} p e h = let x = flat p e lo in record { in_order = x.0; up_to = omega arith }

pub spans_front : {lo hi : ℕ} (p : Placed) {q : Placed} → nodes (bare p) ≡ 0 → Spans lo hi q → Spans lo hi (join p q)
spans_front {lo} p {q} e y =
    let x = flat p e lo in
    let z = less q {a = after lo p} (omega arith) y.in_order in
    record { in_order = (x.0, z.0); up_to = omega arith }

pub spans_more : {lo m hi : ℕ} (l : List Placed) {t : Placed} → Spans lo m (entries l) → Spans m hi t → Spans lo hi (entries (l ++ (t ∷ [])))
spans_more [] {t} x y = let z = less t x.up_to y.in_order in record { in_order = (z.0, tt); up_to = omega arith }
spans_more (u ∷ l) x y =
    let z = spans_more l (record { in_order = x.in_order.1; up_to = x.up_to }) y in
    record { in_order = (x.in_order.0, z.in_order); up_to = z.up_to }

pub spans_element : {lo hi : ℕ} (p : Placed) → Spans lo hi p → Spans lo hi (as_element p)
spans_element void x = x
spans_element (said y s) x = x
spans_element (pick k p) x = x
spans_element (join p q) x = x
spans_element {lo} {hi} (tree t first end p) x = by (eqb t 24)
  where
    by : (b : Bool) → Spans lo hi (optional_if b (tree t first end p))
    by true = record { in_order = x.in_order; up_to = x.up_to }
    by false = x

-- Where a node stands.
pub spans_node : {class lo hi : ℕ} (p : Placed) → Is (child class) p → Spans lo hi p → (lo ≤ first_of p) × (first_of p < end_of p) × (end_of p ≤ hi)
spans_node {class} {lo} {hi} p i x = by p i.fits x
  where
    by : (p : Placed) → Fits node_table (child class) (bare p) → Spans lo hi p → (lo ≤ first_of p) × (first_of p < end_of p) × (end_of p ≤ hi)
    by void f x = elim f [ ]
    by (said _ _) f x = elim f [ ]
    by (pick _ _) f x = elim f [ ]
    by (join _ _) f x = elim f [ ]
    by (tree t first end p) (fits_child a b) x = (x.in_order.0, x.in_order.1, x.up_to)
