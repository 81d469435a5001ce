-- A key in the front of the bytes that were lent for it.
use mathlib.Core.Path.{◌≡◌, ap, ap₂, ◌∙◌}
use mathlib.Core.List.{List, ◌++◌, append_assoc}
use Prim.Native.Nat.{ℕ, zero, suc, ◌+◌, ◌-◌, ◌*◌, ◌≤◌}
use native.Mathlib.Omega.{arith}
use lib.ListN.{length, drop, replicate, replicate-append-replicate}
use Rattle.words.specs.Limits.{most_key}
use Rattle.keys.specs.Limits.{tallest}
use Rattle.keys.specs.Placed.{bare}
use Rattle.keys.specs.Key.{key_of}
use Rattle.keys.specs.Store.{filled}
use Rattle.fields.specs.Put.{far, fitted}
use Rattle.fields.proofs.PutLaws.{fitted_whole}
use Rattle.key_out.specs.Out.{Keyed}
use Rattle.answers.specs.Reading.{WroteIn}

drop_copies : (m n : ℕ) → drop {A = ℕ} m (replicate n 0) ≡ replicate (n - m) 0
drop_copies zero n = ap (λ (x : ℕ). replicate {A = ℕ} x 0) (let z : n ≡ n - 0 = omega arith in z)
drop_copies (suc m) zero = ap (λ (x : ℕ). replicate {A = ℕ} x 0) (let z : 0 ≡ 0 - suc m = omega arith in z)
drop_copies (suc m) (suc n) = drop_copies m n ∙ ap (λ (x : ℕ). replicate {A = ℕ} x 0) (let z : n - m ≡ suc n - suc m = omega arith in z)

-- Of n bytes, all zeros, m were lent.
front_whole : (m n : ℕ) (key D k : List ℕ) → m ≤ n → D ≡ replicate n 0 → length key ≤ m → k ≡ fitted m key → k ++ drop m D ≡ filled n key
front_whole m n key D k h d l e =
    let q : m - length key + (n - m) ≡ n - length key = omega arith in
    ap₂ (λ (x y : List ℕ). x ++ y) (e ∙ fitted_whole m key l) (ap (drop m) d ∙ drop_copies m n)
    ∙ append_assoc key (replicate (m - length key) 0) (replicate (n - m) 0)
    ∙ ap (λ (x : List ℕ). key ++ x) (replicate-append-replicate (m - length key) (n - m) 0 ∙ ap (λ (x : ℕ). replicate {A = ℕ} x 0) q)

-- All bytes were lent.
pub wrote_all : {N M X : List ℕ} {root n r : ℕ} {k : List ℕ} → Keyed N M X root tallest n r k → WroteIn N M X root n r k
wrote_all {n = n} w = record { long = w.long; is = λ p s e h l m. w.is p s e h ∙ fitted_whole n (key_of (bare p)) m }

-- As many as a key may have.
pub wrote_front : {N M X : List ℕ} {root n r m : ℕ} {k D : List ℕ} → m ≡ most_key → most_key ≤ n → D ≡ replicate n 0 → Keyed N M X root tallest m r k
    → WroteIn N M X root n r (k ++ drop most_key D)
wrote_front {n = n} {k = k} {D = D} q h d w =
    record {
      long = w.long;
      is = λ p s e i l j. front_whole most_key n (key_of (bare p)) D k h d l (w.is p s e i ∙ ap (λ (x : ℕ). fitted x (key_of (bare p))) q);
    }

-- They are few.
pub short_front : (l : List ℕ) → length l ≡ most_key → length l * 8 ≤ far
short_front l e = omega (arith, e)
