-- Words stored one after the other.
use mathlib.Core.Path.{◌≡◌, refl, sym, ap, ap₂, ◌∙◌}
use mathlib.Core.List.{List, [], ◌∷◌, ◌++◌, append_assoc}
use Prim.Native.Nat.{ℕ, suc, ◌+◌, ◌*◌, ◌≤◌, ◌<◌}
use native.Mathlib.Numerals.{add-one}
use native.Mathlib.Omega.{arith}
use lib.ListN.{length, take, set, length-set, length-append}
use lib.Seq.{take-suc-set, take_all, length-take-le}
use Rattle.keys.specs.Limits.{half_word}
use Rattle.keys.specs.Words.{first_nodes, first_names}

one : (l : List ℕ) (j m v : ℕ) → m ≡ suc j → j < length l → take m (set l j v) ≡ take j l ++ (v ∷ [])
one l j m v e h = rw e (take-suc-set l j v h)

-- A record of four words behind the nodes before it.
pub four_stored : (s : List ℕ) (i a b c d : ℕ) → 4 * (i + 1) ≤ length s
    → first_nodes (set (set (set (set s (i * 4) a) (i * 4 + 1) b) (i * 4 + 2) c) (i * 4 + 3) d) (i + 1) ≡ first_nodes s i ++ (a ∷ b ∷ c ∷ d ∷ [])
unfolding first_nodes
four_stored s i a b c d h =
    let z : i * 4 ≡ 4 * i = omega arith in
    one (set (set (set s (i * 4) a) (i * 4 + 1) b) (i * 4 + 2) c) (i * 4 + 3) (4 * (i + 1)) d (omega arith) (simp length-set (omega arith))
    ∙ ap (λ (x : List ℕ). x ++ (d ∷ []))
    (one (set (set s (i * 4) a) (i * 4 + 1) b) (i * 4 + 2) (i * 4 + 3) c (omega arith) (simp length-set (omega arith))
    ∙ ap (λ (x : List ℕ). x ++ (c ∷ []))
    (one (set s (i * 4) a) (i * 4 + 1) (i * 4 + 2) b (omega arith) (simp length-set (omega arith))
    ∙ ap (λ (x : List ℕ). x ++ (b ∷ []))
    (one s (i * 4) (i * 4 + 1) a (omega arith) (omega arith))))
    ∙ (simp append_assoc) ∙ ap (λ (k : ℕ). take k s ++ (a ∷ b ∷ c ∷ d ∷ [])) z

-- A name behind those before it, where there is room.
pub name_roomy : (s : List ℕ) (i v : ℕ) → i < length s → take (length s) (first_names s i ++ (v ∷ [])) ≡ first_names s i ++ (v ∷ [])
unfolding first_names
name_roomy s i v h = take_all (length s) (take i s ++ (v ∷ [])) (omega (arith, length-append (take i s) (v ∷ []), length-take-le i s (omega arith)))

pub name_stored : (s : List ℕ) (i v : ℕ) → i < length s → first_names (set s i v) (i + 1) ≡ take (length s) (first_names s i ++ (v ∷ []))
unfolding first_names
name_stored s i v h = one s i (i + 1) v (add-one i) h ∙ sym (name_roomy s i v h)

-- Where there is none nothing changes.
pub name_dropped : (s : List ℕ) (i v : ℕ) → length s ≤ i → first_names s (i + 1) ≡ take (length s) (first_names s i ++ (v ∷ []))
unfolding first_names
name_dropped s i v h =
    let e : take i s ≡ s = take_all i s h in
    take_all (i + 1) s (omega arith) ∙ sym (ap (λ (x : List ℕ). take (length s) (x ++ (v ∷ []))) e ∙ seam s)
  where
    seam : (l : List ℕ) → take (length l) (l ++ (v ∷ [])) ≡ l
    seam [] = refl
    seam (x ∷ l) = ap (λ (y : List ℕ). x ∷ y) (seam l)

-- The same with the words that the code makes.
pub four_words : (old now : List ℕ) (i a : ℕ) {b b' c c' : ℕ} → b ≡ b' → c ≡ c' → first_nodes now (i + 1) ≡ first_nodes old i ++ (a ∷ b ∷ c ∷ 0 ∷ [])
    → first_nodes now (i + 1) ≡ first_nodes old i ++ (a ∷ b' ∷ c' ∷ 0 ∷ [])
four_words old now i a p q e = e ∙ ap₂ (λ (x y : ℕ). first_nodes old i ++ (a ∷ x ∷ y ∷ 0 ∷ [])) p q

pub name_word : (old now : List ℕ) (i start count : ℕ) {v : ℕ} → v ≡ count + half_word * start → first_names now (i + 1) ≡ take (length old) (first_names old i ++ (v ∷ []))
    → first_names now (i + 1) ≡ take (length old) (first_names old i ++ ((start * half_word + count) ∷ []))
name_word old now i start count p e = e ∙ ap (λ (x : ℕ). take (length old) (first_names old i ++ (x ∷ []))) (omega arith)
