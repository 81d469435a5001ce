-- The words tell the answer: no two answers that the calls give are told by the same words, since no refusal has the number 0.
use Rattle.std.specs.Prelude.{◌≡◌, refl, Bool, true, false, List, ℕ, zero, suc, ◌*◌, ◌<◌, ◌/◌, leb, length}
use Rattle.std.proofs.Common.{arith}
use Rattle.keys.specs.Form.{Bytes}
use Rattle.keys.specs.Key as key
use Rattle.keys.specs.Key.{Taken, taken, refused, take_key}
use Rattle.keys.specs.Limits.{newest, record_words}
use Rattle.keys.specs.Store as store
use Rattle.keys.specs.Store.{back, no, lent, take_back}
use Rattle.keys.proofs.BitsLaws.{clash}
use Rattle.keys.proofs.Theorems as keys
use Rattle.rules.specs.Read as rules
use Rattle.rules.specs.Read.{reads, refuses}
use Rattle.rules.specs.Call as call
use Rattle.rules.specs.Call.{Call, left}
use Rattle.rules.proofs.Theorems as theorems
use Rattle.keys.specs.Form.{Value}
use Rattle.keys.specs.Key.{node_table}
use Rattle.differs.specs.Content.{Pair, content_of, differences}
use Rattle.differs.specs.Differ as differs
use Rattle.differs.specs.Differ.{checked, begins, besides, compared, reported, differ, found}
use Rattle.told.specs.Answer.{told, told_back, told_difference}

-- ---- Reading

Numbered : rules.Answer → Type 0
Numbered a = (n i h b : ℕ) → a ≡ refuses n i h b → 0 < n

above_zero : {text words : List ℕ} {n p h b : ℕ} → call.IsRefusal text words n p h b → 0 < n
above_zero call.is_bad_list = omega arith
above_zero (call.is_bad_token l) = omega arith
above_zero (call.is_rules {n = zero} a l) = absurd a
above_zero (call.is_rules {n = suc n} a l) = omega arith
above_zero call.is_no_space = omega arith

apart : (a b : rules.Answer) → Numbered a → Numbered b → told a ≡ told b → a ≡ b
unfolding Numbered
apart (reads n m o i h k c) (reads n' m' o' i' h' k' c') p q e = cc
apart (reads n m o i h k c) (refuses n' i' h' b') p q e =
    let z : n' ≡ 0 = cc in
    let l = q n' i' h' b' refl in clash (omega arith)
apart (refuses n i h b) (reads n' m' o' i' h' k' c') p q e =
    let z : n ≡ 0 = cc in
    let l = p n i h b refl in clash (omega arith)
apart (refuses n i h b) (refuses n' i' h' b') p q e = cc

-- Two readings that are told by the same words have the same answer.
pub told_apart : (c d : Call) → Bytes c.text → Bytes d.text → told (left c).answer ≡ told (left d).answer → (left c).answer ≡ (left d).answer
unfolding Numbered
told_apart c d x y e =
    apart (left c).answer (left d).answer
    (λ n i h b f. above_zero (theorems.refusals c x f))
    (λ n i h b f. above_zero (theorems.refusals d y f))
    e

-- ---- Taking back

NumberedBack : store.Answer → Type 0
NumberedBack a = (n p : ℕ) → a ≡ no n p → 0 < n

above_zero_back : {all n p : ℕ} → key.IsRefusal all n p → 0 < n
above_zero_back (key.is_too_tall l) = omega arith
above_zero_back (key.is_no_room l) = omega arith
above_zero_back (key.is_bad_key l) = omega arith
above_zero_back key.is_no_space = omega arith

apart_back : (a b : store.Answer) → NumberedBack a → NumberedBack b → told_back a ≡ told_back b → a ≡ b
unfolding NumberedBack
apart_back (back n m l) (back n' m' l') p q e = cc
apart_back (back n m l) (no n' i') p q e =
    let z : n' ≡ 0 = cc in
    let h = q n' i' refl in clash (omega arith)
apart_back (no n i) (back n' m' l') p q e =
    let z : n ≡ 0 = cc in
    let h = p n i refl in clash (omega arith)
apart_back (no n i) (no n' i') p q e = cc

numbered_back : (k : List ℕ) (a b c : ℕ) → NumberedBack (take_back k a b c).answer
unfolding NumberedBack
numbered_back k a b c n p e = by (take_key (a / record_words) b c k) refl e
  where
    by : (o : Taken) → take_key (a / record_words) b c k ≡ o → (lent a b c o).answer ≡ no n p → 0 < n
    by (taken t) i j = clash (cc)
    by (refused w x) i j =
        let same : w ≡ n = cc in
        let l = above_zero_back (keys.refusals newest (a / record_words) b c k i) in omega arith

-- Two keys taken back that are told by the same words have the same answer.
pub told_back_apart : (k k' : List ℕ) (a b c a' b' c' : ℕ) → told_back (take_back k a b c).answer ≡ told_back (take_back k' a' b' c').answer
    → (take_back k a b c).answer ≡ (take_back k' a' b' c').answer
told_back_apart k k' a b c a' b' c' e =
    apart_back (take_back k a b c).answer (take_back k' a' b' c').answer (numbered_back k a b c) (numbered_back k' a' b' c') e

-- ---- What differs

NumberedDifference : differs.Answer → Type 0
NumberedDifference a = (n i p : ℕ) → a ≡ differs.no n i p → 0 < n

apart_difference : (a b : differs.Answer) → NumberedDifference a → NumberedDifference b → told_difference a ≡ told_difference b → a ≡ b
unfolding NumberedDifference
apart_difference (found m) (found m') p q e = cc
apart_difference (found m) (differs.no n' i' b') p q e =
    let z : n' ≡ 0 = cc in
    let h = q n' i' b' refl in clash (omega arith)
apart_difference (differs.no n i b) (found m') p q e =
    let z : n ≡ 0 = cc in
    let h = p n i b refl in clash (omega arith)
apart_difference (differs.no n i b) (differs.no n' i' b') p q e = cc

numbered_difference : (m : ℕ) (l r : List ℕ) → NumberedDifference (differ m l r).answer
unfolding NumberedDifference
numbered_difference m l r n i p e = left (checked l) refl e
  where
    listed : (b : Bool) (d : List Pair) → (reported m b d).answer ≡ differs.no n i p → 0 < n
    listed true d f = clash (cc)
    listed false d f =
        let same : 29 ≡ n = cc in
        omega arith

    right : (t : Value) (o : Taken) → checked r ≡ o → (besides m t o).answer ≡ differs.no n i p → 0 < n
    right t (taken u) j f =
        listed (leb (length (differences (content_of node_table t) (content_of node_table u))) (m / 2)) (differences (content_of node_table t) (content_of node_table u)) f
    right t (refused w x) j f =
        let same : w ≡ n = cc in
        let h = above_zero_back (keys.refusals newest (length r * 8) (length r * 8) (length r) r j) in omega arith

    left : (o : Taken) → checked l ≡ o → (begins m o r).answer ≡ differs.no n i p → 0 < n
    left (taken t) j f = right t (checked r) refl f
    left (refused w x) j f =
        let same : w ≡ n = cc in
        let h = above_zero_back (keys.refusals newest (length l * 8) (length l * 8) (length l) l j) in omega arith

-- Two comparisons that are told by the same words have the same answer.
pub told_difference_apart : (m m' : ℕ) (l r l' r' : List ℕ) → told_difference (differ m l r).answer ≡ told_difference (differ m' l' r').answer
    → (differ m l r).answer ≡ (differ m' l' r').answer
told_difference_apart m m' l r l' r' e =
    apart_difference (differ m l r).answer (differ m' l' r').answer (numbered_difference m l r) (numbered_difference m' l' r') e
