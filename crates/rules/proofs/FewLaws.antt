-- A tree that stands in order has no more nodes than its height times its bytes: nodes one above the other are as many as the height allows, and nodes beside each other have bytes of their own.
use mathlib.Core.Path.{◌≡◌, refl, ap}
use Prim.Native.Nat.{ℕ, zero, suc, ◌+◌, ◌-◌, ◌≤◌}
use native.Mathlib.Omega.{arith}
use Rattle.words.specs.Limits.{most_text, tallest}
use Rattle.keys.specs.Form.{height, nodes}
use Rattle.keys.specs.Placed.{Placed, void, said, pick, join, tree, bare}
use Rattle.rules.specs.Places.{after, InOrder}
use Rattle.rules.proofs.PlaceLaws.{rising}

-- h times x.
abbrev times : ℕ → ℕ → ℕ
times zero x = 0
times (suc h) x = x + times h x

times_up : (h : ℕ) {x y : ℕ} → x ≤ y → times h x ≤ times h y
times_up zero l = omega arith
times_up (suc h) l = omega (arith, times_up h l)

times_add : (h x y : ℕ) → times h (x + y) ≡ times h x + times h y
times_add zero x y = refl
times_add (suc h) x y = omega (arith, times_add h x y)

both : (p q : Placed) (h : ℕ) → height (bare (join p q)) ≤ h → (height (bare p) ≤ h) × (height (bare q) ≤ h)
both p q h l = (omega arith, omega arith)

few : (p : Placed) (h a : ℕ) → height (bare p) ≤ h → InOrder a p → nodes (bare p) ≤ times h (after a p - a)
few void h a l i = omega arith
few (said x s) h a l i = omega arith
few (pick k p) h a l i = few p h a l i
few (join p q) h a l i =
    let lows = both p q h l in
    let one = few p h a lows.0 i.0 in
    let two = few q h (after a p) lows.1 i.1 in
    let sum : after (after a p) q - a ≡ after a p - a + (after (after a p) q - after a p) = omega (arith, rising p i.0, rising q i.1) in
    omega (arith, one, two, ap (times h) sum, times_add h (after a p - a) (after (after a p) q - after a p))
few (tree t first end p) zero a l i = absurd (omega arith)
few (tree t first end p) (suc h) a l i =
    let below = few p h first (omega arith) i.2 in
    let wider : times h (after first p - first) ≤ times h (end - a) = times_up h (omega (arith, i.0, i.3)) in
    omega (arith, below, wider, i.0, i.1)

-- A tree of any height that is allowed, in a text of any length that is.
pub nodes_most : (t : Placed) → height (bare t) ≤ tallest → InOrder 0 t → after 0 t ≤ most_text → nodes (bare t) ≤ 16776960
nodes_most t l i h = omega (arith, few t tallest 0 l i, times_up tallest {x = after 0 t - 0} {y = most_text} (omega (arith, h)))
