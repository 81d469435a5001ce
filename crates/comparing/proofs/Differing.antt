-- The whole call: each way in which it answers, and that there is one answer only.
use mathlib.Core.Path.{◌≡◌, refl, sym, ap, ap₂, ◌∙◌, subst}
use mathlib.Core.Bool.{Bool}
use mathlib.Core.List.{List, [], ◌∷◌}
use Prim.Native.Nat.{ℕ, zero, suc, ◌+◌, ◌*◌, ◌/◌, ◌≤◌, ◌<◌}
use native.Mathlib.Omega.{arith}
use borrow.Author.Tests.{le-leb, lt-leb}
use lib.Dec.{leb}
use lib.ListN.{length, take}
use Rattle.keys.specs.Bits.{bits_of_bytes}
use Rattle.keys.proofs.BitsLaws.{clash}
use Rattle.keys.specs.Limits.{tallest}
use Rattle.keys.specs.Key.{Taken, node_table}
use Rattle.keys.specs.Store.{filled}
use Rattle.node_table.specs.Forms.{grammar_of}
use Rattle.differs.specs.Content.{Content, ends, enters, content_of, Pair, differences}
use Rattle.differs.specs.Differ.{words_of, found, Differed, declined, reported, besides, begins, differ}
use Rattle.sound_keys.specs.Sound.{reads, read_node, Good}
use Rattle.walks.specs.Walk.{Begins, IsRead, Walked}
use Rattle.std.specs.Prelude.{Ok, Err}
use Rattle.words.specs.Refusal.{number_of}
use Rattle.words.specs.declared.refusal.Refusal.{Refusal}
use Rattle.words.specs.declared.refusal.Refusal.TheVariants.{ManyDifferences}
use Rattle.words.proofs.Refusals.{one_refusal}
use Rattle.comparing.specs.Call.{side_of, Differing, answer_of, seen, Differs}
use Rattle.comparing.specs.declared.differ.Whose.{Whose}
use Rattle.comparing.specs.declared.differ.Whose.TheVariants.{Neither, Left, Right}
use Rattle.walks.specs.declared.walk.Both.{Both}

-- ---- One answer only

one_side : (a b : Whose) → side_of a ≡ side_of b → a ≡ b
one_side Neither Neither e = refl
one_side Neither Left e = clash (omega arith)
one_side Neither Right e = clash (omega arith)
one_side Left Neither e = clash (omega arith)
one_side Left Left e = refl
one_side Left Right e = clash (omega arith)
one_side Right Neither e = clash (omega arith)
one_side Right Left e = clash (omega arith)
one_side Right Right e = refl

pub one_answer : (r q : Differing) → answer_of r ≡ answer_of q → r ≡ q
one_answer (Ok n) (Ok m) e = let i : n ≡ m = cc in ap Ok i
one_answer (Ok n) (Err b) e = clash (cc)
one_answer (Err a) (Ok n) e = clash (cc)
one_answer (Err a) (Err b) e =
    let i : number_of a.why ≡ number_of b.why = cc in
    let w : a.why ≡ b.why = one_refusal a.why b.why i in
    let j : side_of a.side ≡ side_of b.side = cc in
    let s : a.side ≡ b.side = one_side a.side b.side j in
    let k : a.bit ≡ b.bit = cc in
    λ o. Err (record { why = w o; side = s o; bit = k o })

-- Two results of the same keys and list that keep the promise are the same.
pub one_result : (left right list : List ℕ) (r q : Differing) (l m : List ℕ) → Differs left right list r l → Differs left right list q m → (r ≡ q) × (l ≡ m)
one_result left right list r q l m a b =
    let e = a ∙ sym b in
    (one_answer r q (ap (λ (d : Differed). d.answer) e), ap (λ (d : Differed). d.list) e)

-- ---- Refusals

module _ (left right list : List ℕ) where
  seen_declined : (why : Refusal) (side : Whose) (bit : ℕ) (now after : List ℕ) → length now ≡ length list → after ≡ filled (length now) [] → differ (length list) left right ≡ declined (length list) (number_of why) (side_of side) bit
      → (r : Differing) → r ≡ Err (record { why = why; side = side; bit = bit }) → Differs left right list r after
  seen_declined why side bit now after l e d r i =
      ap (λ (x : Differing). seen x after) i ∙ ap (seen (Err (record { why = why; side = side; bit = bit }))) (e ∙ ap (λ (n : ℕ). filled n []) l) ∙ sym d

  module _ {T : List ℕ} (w : Good T left) where
    pub read_left : IsRead (read_node (bits_of_bytes left) (grammar_of T) tallest 0 4)
    read_left = record { content = content_of node_table w.tree; end = w.end; is = w.read }

    module _ {U : List ℕ} (words : U ≡ T) (d : Good U right) where
      v : Good T right
      v = subst (λ (x : List ℕ). Good x right) words d

      pub read_right : IsRead (read_node (bits_of_bytes right) (grammar_of T) tallest 0 4)
      read_right = record { content = content_of node_table v.tree; end = v.end; is = v.read }

      abbrev pairs : List Pair
      pairs = differences (content_of node_table w.tree) (content_of node_table v.tree)

      module _ {q : Both} {now : List ℕ} (a : Walked (bits_of_bytes left) (bits_of_bytes right) (grammar_of T) tallest 0 (record { left = 4; right = 4; found = 0 }) q list now) where
        content_left : content_of node_table w.tree ≡ enters 4 a.u ends
        content_left =
            let e : reads (content_of node_table w.tree) w.end ≡ reads (enters 4 a.u ends) q.left = sym w.read ∙ a.left in
            cc e

        content_right : content_of node_table v.tree ≡ enters 4 a.v ends
        content_right =
            let e : reads (content_of node_table v.tree) v.end ≡ reads (enters 4 a.v ends) q.right = sym v.read ∙ a.right in
            cc e

        found_is : q.found ≡ length (differences (content_of node_table w.tree) (content_of node_table v.tree))
        found_is =
            let e : length (differences (enters 4 a.u ends) (enters 4 a.v ends)) ≡ length pairs = ap₂ (λ (x x' : Content). length (differences x x')) (sym content_left) (sym content_right) in
            let f : q.found ≡ 0 + length (differences (enters 4 a.u ends) (enters 4 a.v ends)) = a.found in
            omega arith

        by_both : differ (length list) left right ≡ reported (length list) (leb (length (differences (content_of node_table w.tree) (content_of node_table v.tree))) (length list / 2)) (differences (content_of node_table w.tree) (content_of node_table v.tree))
        by_both = ap (λ (x : Taken). begins (length list) x right) w.is ∙ ap (besides (length list) w.tree) v.is

        pub too_many : length now / 2 < q.found → {after : List ℕ} → after ≡ filled (length now) [] → {r : Differing} → r ≡ Err (record { why = ManyDifferences; side = Neither; bit = 0 }) → Differs left right list r after
        too_many h {after} e {r} =
            seen_declined ManyDifferences Neither 0 now after a.grows.long e
            (by_both ∙ ap (λ (b : Bool). reported (length list) b pairs) (lt-leb (length pairs) (length list / 2) (omega (arith, found_is, a.grows.long)))) r

        none_kept : Begins list []
        none_kept zero h l = refl
        none_kept (suc k) h l = absurd (omega arith)

        -- The list holds the pairs.
        listed : q.found ≤ length now / 2 → take (q.found * 2) now ≡ words_of (differences (content_of node_table w.tree) (content_of node_table v.tree))
        listed h =
            let D : List Pair = differences (enters 4 a.u ends) (enters 4 a.v ends) in
            let f : q.found ≡ 0 + length D = a.found in
            let g : q.found ≡ length D = omega arith in
            ap (λ (n : ℕ). take (n * 2) now) g ∙ a.grows.kept [] refl none_kept (length D) (omega arith) (omega arith) ∙ ap words_of (take_all D)
            ∙ ap₂ (λ (x x' : Content). words_of (differences x x')) (sym content_left) (sym content_right)
          where
            take_all : (l : List Pair) → take (length l) l ≡ l
            take_all [] = refl
            take_all (x ∷ l) = ap (λ (y₁ : List Pair). x ∷ y₁) (take_all l)

        pub all_listed : q.found ≤ length now / 2 → {after : List ℕ} → after ≡ filled (length now) (take (q.found * 2) now) → Differs left right list (Ok q.found) after
        all_listed h {after} e =
            let i : after ≡ filled (length list) (words_of pairs) = e ∙ ap₂ filled a.grows.long (listed h) in
            (λ o. record { answer = found (found_is o); list = i o })
            ∙ sym (by_both ∙ ap (λ (b : Bool). reported (length list) b pairs) (le-leb (length pairs) (length list / 2) (omega (arith, found_is, a.grows.long))))
