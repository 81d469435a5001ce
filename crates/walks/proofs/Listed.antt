-- The list of pairs: put, kept, grown, and put back.
use mathlib.Core.Path.{◌≡◌, refl, sym, ap, ◌∙◌, subst}
use mathlib.Core.List.{List, [], ◌∷◌, ◌++◌, append_assoc, append-nil}
use mathlib.Core.Logic.{◌⊎◌, inl, inr}
use Prim.Native.Nat.{ℕ, zero, suc, ◌+◌, ◌*◌, ◌≤◌, ◌<◌}
use native.Mathlib.Omega.{arith}
use lib.ListN.{length, take, length-append}
use Rattle.keys.proofs.BitsLaws.{le_or_lt}
use Rattle.differs.specs.Content.{Pair}
use Rattle.differs.specs.Differ.{words_of}
use Rattle.walks.specs.Walk.{Begins, Grows, Puts}

take_prefix : (k : ℕ) (l m : List Pair) → k ≤ length l → take k (l ++ m) ≡ take k l
take_prefix zero l m h = refl
take_prefix (suc k) [] m h = absurd (omega arith)
take_prefix (suc k) (x ∷ l) m h = ap (λ (y : List Pair). x ∷ y) (take_prefix k l m (omega arith))

take_pairs : (k : ℕ) (l : List Pair) → length l ≤ k → take k l ≡ l
take_pairs zero [] h = refl
take_pairs zero (x ∷ l) h = absurd (omega arith)
take_pairs (suc k) [] h = refl
take_pairs (suc k) (x ∷ l) h = ap (λ (y : List Pair). x ∷ y) (take_pairs k l (omega arith))

words_append : (l m : List Pair) → words_of (l ++ m) ≡ words_of l ++ words_of m
words_append [] m = refl
words_append (x ∷ l) m = ap (λ (y : List ℕ). x.0 ∷ x.1 ∷ y) (words_append l m)

pub words_length : (l : List Pair) → length (words_of l) ≡ length l * 2
words_length [] = refl
words_length (x ∷ l) = let i = words_length l in omega arith

kept_prefix : (m : List ℕ) (ps new : List Pair) → Begins m (ps ++ new) → Begins m ps
kept_prefix m ps new K k h l = K k (omega (arith, length-append ps new)) l ∙ ap words_of (take_prefix k ps new h)

-- A pair put behind those before it.
put_kept : {l : List ℕ} {n a b : ℕ} {m : List ℕ} → Puts l n a b m → (ps : List Pair) → length ps ≡ n → Begins l ps → Begins m (ps ++ ((a, b) ∷ []))
put_kept {l} {n} {a} {b} {m} d ps e K k h r = by (le_or_lt k n)
  where
    by : (k ≤ n) ⊎ (n < k) → take (k * 2) m ≡ words_of (take k (ps ++ ((a, b) ∷ [])))
    by (inl o) = d.below k o ∙ K k (omega arith) (omega (arith, d.long)) ∙ ap words_of (sym (take_prefix k ps ((a, b) ∷ []) (omega arith)))
    by (inr o) =
        let q : k ≡ n + 1 = omega (arith, length-append ps ((a, b) ∷ [])) in
        ap (λ (x : ℕ). take (x * 2) m) q ∙ d.there (omega (arith, d.long))
        ∙ ap (λ (x : List ℕ). x ++ (a ∷ b ∷ [])) (K n (omega arith) (omega (arith, d.long)) ∙ ap words_of (take_pairs n ps (omega arith)))
        ∙ sym (words_append ps ((a, b) ∷ [])) ∙ ap words_of (sym (take_pairs k (ps ++ ((a, b) ∷ [])) (omega (arith, length-append ps ((a, b) ∷ [])))))

-- ---- Growing

pub grows_none : (l : List ℕ) (n : ℕ) → Grows l n l []
grows_none l n = record { long = refl; kept = λ ps e K. subst (Begins l) (sym (append-nil ps)) K }

pub grows_as : {l : List ℕ} {n n' : ℕ} {m : List ℕ} {a b : List Pair} → n ≡ n' → a ≡ b → Grows l n m a → Grows l n' m b
grows_as {l} {n} {n'} {m} {a} {b} p q d = subst (λ (x : List Pair). Grows l n' m x) q (subst (λ (x : ℕ). Grows l x m a) p d)

pub grows_then : {l : List ℕ} {n : ℕ} {m k : List ℕ} {a b : List Pair} → Grows l n m a → Grows m (n + length a) k b → Grows l n k (a ++ b)
grows_then {l} {n} {m} {k} {a} {b} d e =
    record {
      long = e.long ∙ d.long;
      kept = λ ps i K. subst (Begins k) (append_assoc ps a b) (e.kept (ps ++ a) (omega (arith, length-append ps a)) (d.kept ps i K));
    }

pub puts_grows : {l : List ℕ} {n a b : ℕ} {m : List ℕ} → Puts l n a b m → Grows l n m ((a, b) ∷ [])
puts_grows d = record { long = d.long; kept = λ ps e K. put_kept d ps e K }

-- What was found gives way to one pair.
pub puts_over : {l : List ℕ} {n a b : ℕ} {m k : List ℕ} {new : List Pair} → Grows l n m new → Puts m n a b k → Grows l n k ((a, b) ∷ [])
puts_over {m = m} {new = new} d p = record { long = p.long ∙ d.long; kept = λ ps e K. put_kept p ps e (kept_prefix m ps new (d.kept ps e K)) }
