-- The records of diagnostics are their words behind the tallies, and are copied one word after the other.
use mathlib.Core.Path.{◌≡◌, refl, sym, ap, ap₂, ◌∙◌}
use mathlib.Core.List.{List, [], ◌∷◌, ◌++◌, append-nil}
use Prim.Native.Nat.{ℕ, zero, suc, ◌+◌, ◌*◌, ◌≤◌, ◌<◌}
use native.Mathlib.Omega.{arith}
use lib.ListN.{length, take, drop, get_or}
use Rattle.std.proofs.Math.Seq.{take-suc, take-append_seam, append_snoc}
use Rattle.std.proofs.lemmas.List.{length-append, length-drop, length-take-le, get_or-drop}
use Rattle.keys.specs.Store.{filled}
use Rattle.rules.specs.Notes.{Note, note_width, note_words}
use Rattle.marks.specs.State.{tallies, note_at, note_from, notes_of}

words_append : (l : List Note) (z : Note) → note_words (l ++ (z ∷ [])) ≡ note_words l ++ note_words (z ∷ [])
words_append [] z = refl
words_append (y ∷ l) z = ap (λ (r : List ℕ). y.number ∷ y.first ∷ y.end ∷ y.other_first ∷ y.other_end ∷ r) (words_append l z)

-- The first words behind the tallies.
unfoldable pub behind : List ℕ → ℕ → List ℕ
behind O zero = []
behind O (suc i) = behind O i ++ (get_or O (tallies + i) 0 ∷ [])

-- One word more.
behind_more : (O : List ℕ) (i j k : ℕ) (l : List ℕ) → j ≡ i + 1 → k ≡ tallies + i → behind O j ++ l ≡ behind O i ++ (get_or O k 0 ∷ l)
unfolding behind
behind_more O i j k l e f =
    ap (λ (x : ℕ). behind O x ++ l) (let z : j ≡ suc i = omega arith in z)
    ∙ append_snoc (behind O i) (get_or O (tallies + i) 0) l
    ∙ ap (λ (x : ℕ). behind O i ++ (get_or O x 0 ∷ l)) (sym f)

-- One record more.
behind_record : (O : List ℕ) (i : ℕ) → behind O (i + note_width) ≡ behind O i ++ note_words (note_from O (tallies + i) ∷ [])
behind_record O i =
    sym (append-nil (behind O (i + note_width)))
    ∙ behind_more O (i + 4) (i + note_width) (tallies + i + 4) _ (omega arith) (omega arith)
    ∙ behind_more O (i + 3) (i + 4) (tallies + i + 3) _ (omega arith) (omega arith)
    ∙ behind_more O (i + 2) (i + 3) (tallies + i + 2) _ (omega arith) (omega arith)
    ∙ behind_more O (i + 1) (i + 2) (tallies + i + 1) _ (omega arith) (omega arith)
    ∙ behind_more O i (i + 1) (tallies + i) _ refl refl

-- The words of the first n diagnostics.
note_words_lem : (O : List ℕ) (n : ℕ) → behind O (n * note_width) ≡ note_words (notes_of O n)
unfolding behind notes_of
note_words_lem O zero = refl
note_words_lem O (suc n) =
    let at = n * note_width in
    ap (behind O) (let z : suc n * note_width ≡ at + note_width = omega arith in z)
    ∙ behind_record O at
    ∙ ap (λ (r : List ℕ). r ++ note_words (note_from O (note_at n) ∷ [])) (note_words_lem O n)
    ∙ sym (words_append (notes_of O n) (note_from O (note_at n)))

-- They are a part of the words.
behind_part : (O : List ℕ) (i : ℕ) → tallies + i ≤ length O → behind O i ≡ take i (drop tallies O)
unfolding behind
behind_part O zero h = refl
behind_part O (suc i) h =
    let l : i < length (drop tallies O) = omega (arith, length-drop tallies O) in
    ap₂ (λ (r : List ℕ) (x : ℕ). r ++ (x ∷ [])) (behind_part O i (omega arith)) (sym (get_or-drop tallies O i 0))
    ∙ sym (take-suc (drop tallies O) i 0 l)

-- Words over the front of others, of which just those are kept.
kept_front : (F N : List ℕ) (n : ℕ) → length F ≡ n → n ≤ length N → filled (length (F ++ drop n N)) (take n (F ++ drop n N)) ≡ filled (length N) F
kept_front F N n e h =
    ap₂ filled
    (let l : length (F ++ drop n N) ≡ length N = omega (arith, length-append F (drop n N), length-drop n N) in l)
    (ap (λ (k : ℕ). take k (F ++ drop n N)) (sym e) ∙ take-append_seam F (drop n N))

-- The words of n diagnostics were copied, and zeros follow.
pub copied : (O N F : List ℕ) (n k : ℕ) → k ≡ n * note_width → tallies + n * note_width ≤ length O → n * note_width ≤ length N → F ≡ take k (drop tallies O)
    → filled (length (F ++ drop (n * note_width) N)) (take (n * note_width) (F ++ drop (n * note_width) N)) ≡ filled (length N) (note_words (notes_of O n))
copied O N F n k f a b z =
    let w = n * note_width in
    let e : F ≡ take w (drop tallies O) = z ∙ ap (λ (x : ℕ). take x (drop tallies O)) f in
    let l : length F ≡ w = omega (arith, ap length e, length-take-le w (drop tallies O) (omega (arith, length-drop tallies O))) in
    kept_front F N w l b ∙ ap (filled (length N)) (e ∙ sym (behind_part O w a) ∙ note_words_lem O n)
