-- What the check passes are the keys of trees, and no others; so two keys have no pair exactly where they are the same bytes.
use mathlib.Core.Path.{◌≡◌, refl, sym, ap, ◌∙◌}
use mathlib.Core.Logic.{◌↔◌}
use mathlib.Core.Bool.{Bool, true, false}
use mathlib.Core.List.{List, [], ◌∷◌, ◌++◌}
use Rattle.std.proofs.Common.{Result, Ok}
use Prim.Native.Nat.{ℕ, zero, suc, ◌+◌, ◌*◌, ◌/◌, ◌≤◌, ◌<◌}
use native.Mathlib.Omega.{arith}
use borrow.Author.Tests.{le-leb, leb-true}
use lib.Dec.{leb}
use lib.ListN.{length, length-append}
use Rattle.keys.specs.Bits.{bits_of, bits_of_bytes}
use Rattle.keys.proofs.BitsLaws.{clash, length_bits, length_bytes}
use Rattle.keys.specs.Form.{Value, choice, Form, never, one, word, choose, both, child, Grammar, nodes, names, Bytes, write, Fits, fits_one, fits_word, fits_choose, fits_both, fits_child}
use Rattle.keys.proofs.FormLaws.{letters_written}
use Rattle.keys.proofs.KeyLaws.{length_packed}
use Rattle.keys.specs.Limits.{newest, edition}
use Rattle.keys.specs.Table.{whole_key}
use Rattle.keys.specs.Key.{Taken, taken, refused, node_table, key_of, IsTree, IsKey}
use Rattle.keys.proofs.TakeLaws.{with_edition}
use Rattle.keys.proofs.Theorems.{exactly}
use Rattle.differs.specs.Content.{content_of, Pair, differences}
use Rattle.differs.specs.Differ.{checked, found, Differed, reported, besides, begins, differ}
use Rattle.sound_keys.specs.Sound.{said, verdict}
use Rattle.key_parts.specs.declared.refusal.Stop.{Stop}
use Rattle.differs.proofs.Theorems.{none_same}

-- ---- Room enough

-- Does a form begin with a bit?
abbrev starts : Form → Bool
starts never = true
starts one = false
starts (word w) = true
starts (choose w x fs) = leb 1 w
starts (both f g) = starts f
starts (child c) = false

-- A node without a tag begins with a bit.
abbrev Starts : Grammar → Type 0
Starts G = (c t : ℕ) → G.tag_width c ≡ 0 → starts (G.row c t) ≡ true

module _ (G : Grammar) (starting : Starts G) where
  -- A value has no more nodes than bits, and fewer where its form begins with a bit.
  record Few (f : Form) (v : Value) : Type 0 where
    most : nodes v ≤ length (write G f v)
    less : starts f ≡ true → nodes v < length (write G f v)

  few : {f : Form} {v : Value} → Fits G f v → Few f v
  few fits_one = record { most = omega arith; less = λ e. clash (cc) }
  few (fits_word {w = w} {s = s} a b c) =
      record { most = omega arith; less = λ e. omega (arith, length-append (bits_of w (length s)) (bits_of_bytes s), length_bytes s) }
  few (fits_choose {w = w} {fs = fs} {k = k} {v = v} a b) =
      let l = length-append (bits_of w k) (write G (fs k) v) in
      let n = length_bits w k in
      let i = (few b).most in
      record { most = omega arith; less = λ e. omega (arith, leb-true 1 w e) }
  few (fits_both {f = f} {g = g} {a = x} {b = y} a b) =
      let l = length-append (write G f x) (write G g y) in
      let i = few a in
      let j = (few b).most in
      record { most = omega (arith, i.most); less = λ e. omega (arith, i.less e) }
  few (fits_child {c = c} {t = t} {v = v} a b) =
      let l = length-append (bits_of (G.tag_width c) t) (write G (G.row c t) v) in
      let n = length_bits (G.tag_width c) t in
      record { most = by (few b) (G.tag_width c) refl l n; less = λ e. clash (cc) }
    where
      by : Few (G.row c t) v → (w : ℕ) → G.tag_width c ≡ w → length (bits_of (G.tag_width c) t ++ write G (G.row c t) v) ≡ length (bits_of (G.tag_width c) t) + length (write G (G.row c t) v)
          → length (bits_of (G.tag_width c) t) ≡ G.tag_width c → suc (nodes v) ≤ length (bits_of (G.tag_width c) t ++ write G (G.row c t) v)
      by i zero e l n = omega (arith, i.less (starting c t e))
      by i (suc w) e l n = omega (arith, i.most)

  -- It has no more names than bits.
  names_few : {f : Form} {v : Value} → Fits G f v → length (names v) ≤ length (write G f v)
  names_few fits_one = omega arith
  names_few (fits_word {w = w} {s = s} a b c) = omega (arith, length-append (bits_of w (length s)) (bits_of_bytes s), length_bytes s)
  names_few (fits_choose {w = w} {fs = fs} {k = k} {v = v} a b) = omega (arith, length-append (bits_of w k) (write G (fs k) v), names_few b)
  names_few (fits_both {f = f} {g = g} {a = x} {b = y} a b) =
      omega (arith, length-append (write G f x) (write G g y), length-append (names x) (names y), names_few a, names_few b)
  names_few (fits_child {c = c} {t = t} {v = v} a b) = omega (arith, length-append (bits_of (G.tag_width c) t) (write G (G.row c t) v), names_few b)

starting_table : Starts node_table
starting_table zero t e = absurd (omega arith)
starting_table (suc zero) t e = absurd (omega arith)
starting_table (suc (suc zero)) t e = absurd (omega arith)
starting_table (suc (suc (suc zero))) t e = absurd (omega arith)
starting_table (suc (suc (suc (suc zero)))) zero e = refl
starting_table (suc (suc (suc (suc zero)))) (suc t) e = refl
starting_table (suc (suc (suc (suc (suc zero))))) zero e = refl
starting_table (suc (suc (suc (suc (suc zero))))) (suc t) e = refl
starting_table (suc (suc (suc (suc (suc (suc zero)))))) t e = absurd (omega arith)
starting_table (suc (suc (suc (suc (suc (suc (suc c))))))) t e = refl

-- ---- Keys

-- The bytes pass the check, as a tree.
pub record Passed (key : List ℕ) : Type 0 where
  pub tree : Value
  pub is : checked key ≡ taken tree

-- Bytes pass the check as a tree exactly where the tree is one of the node table within the limits, and they are its key: room is never short.
pub passes : (key : List ℕ) → Bytes key → (t : Value) → (checked key ≡ taken t) ↔ (IsTree t × (key ≡ key_of t))
passes key ok t = (λ e. let k = (exactly newest ok).0 e in (k.is_tree, k.is), λ p. (exactly newest ok).1 (roomy p.0 p.1))
  where
    roomy : IsTree t → key ≡ key_of t → IsKey (length key * 8) (length key * 8) (length key) t key
    roomy a e =
        let l : length key ≡ length (key_of t) = ap length e in
        let w = length_packed (write node_table whole_key (choice edition t)) in
        let i = (few node_table starting_table (with_edition newest a.fits)).most in
        let j = names_few node_table starting_table (with_edition newest a.fits) in
        let k = letters_written node_table (with_edition newest a.fits) in
        record { is_tree = a; has_room = record { for_nodes = omega arith; for_names = omega arith; for_text = omega arith }; is = e }

-- The check answers without a refusal exactly for what passes.
pub zero_passes : (key : List ℕ) (r : Result (Unit {0}) Stop) → said r ≡ verdict (checked key) → r ≡ Ok tt → Passed key
zero_passes key r e z = by (checked key) refl
  where
    by : (x : Taken) → checked key ≡ x → Passed key
    by (taken t) i = record { tree = t; is = i }
    by (refused n p) i =
        let q = sym (ap said z) ∙ e ∙ ap verdict i in
        clash (cc q)

-- Of two keys that pass, the call finds no pair exactly where they are the same bytes.
pub same_bytes : (n : ℕ) (left right : List ℕ) → Bytes left → Bytes right → {t u : Value} → checked left ≡ taken t → checked right ≡ taken u
    → ((differ n left right).answer ≡ found 0) ↔ (left ≡ right)
same_bytes n left right a b {t} {u} p q = (
  λ e. pass.1 ∙ ap key_of ((none_same pass.0.fits pass'.0.fits).0 (none (leb (length pairs) (n / 2)) pairs (sym (ap (λ (d : Differed). d.answer) call) ∙ e))) ∙ sym pass'.1,
  λ e. ap (λ (d : Differed). d.answer) call
      ∙ ap (λ (l : List Pair). (reported n (leb (length l) (n / 2)) l).answer) ((none_same pass.0.fits pass'.0.fits).1 (one_tree e))
      ∙ ap (λ (x : Bool). (reported n x []).answer) (le-leb 0 (n / 2) (omega arith)),
)
  where
    pass : IsTree t × (left ≡ key_of t)
    pass = (passes left a t).0 p

    pass' : IsTree u × (right ≡ key_of u)
    pass' = (passes right b u).0 q

    pairs : List Pair
    pairs = differences (content_of node_table t) (content_of node_table u)

    call : differ n left right ≡ reported n (leb (length (differences (content_of node_table t) (content_of node_table u))) (n / 2)) (differences (content_of node_table t) (content_of node_table u))
    call = ap (λ (x : Taken). begins n x right) p ∙ ap (besides n t) q

    one_tree : left ≡ right → t ≡ u
    one_tree e =
        let i : taken t ≡ taken u = sym p ∙ ap checked e ∙ q in
        cc i

    no_length : (l : List Pair) → length l ≡ 0 → l ≡ []
    no_length [] e = refl
    no_length (x ∷ l) e = absurd (omega arith)

    none : (x : Bool) (l : List Pair) → (reported n x l).answer ≡ found 0 → l ≡ []
    none true l e =
        let i : length l ≡ 0 = cc in
        no_length l i
    none false l e = clash (cc)
