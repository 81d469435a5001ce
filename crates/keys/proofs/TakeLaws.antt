-- The laws of our own keys: from the value of a whole key to its tree, and from a tree to what the call leaves of it.
use mathlib.Core.Path.{◌≡◌, refl, sym, ap, ◌∙◌, subst}
use mathlib.Core.Bool.{Bool, true, false}
use mathlib.Core.List.{List, []}
use Prim.Native.Nat.{ℕ, ◌-◌, ◌*◌, ◌/◌, ◌^◌, ◌≤◌, ◌<◌}
use native.Mathlib.Omega.{arith}
use borrow.Author.Tests.{leb-true, eqb-true, eq-eqb}
use lib.Dec.{leb, eqb}
use lib.ListN.{length, take, replicate}
use lib.Seq.{take_at}
use Rattle.keys.specs.Bits.{bits_of_bytes}
use Rattle.keys.specs.Form.{Value, choice, Form, Bytes, Fits, fits_choose, nodes, names, letters, write, state, Result, got, stop}
use Rattle.keys.specs.Limits.{longest_key, tallest, edition_width, Edition, edition1, numbered, newest, edition, record_words, half_word}
use Rattle.keys.specs.Table.{when, type, table, type_under, key_form, whole_key}
use Rattle.keys.specs.Placed.{laid}
use Rattle.keys.specs.Key.{taken, refused, tree_in, outcome, take_whole, node_table, take_within, take_under, IsTree, HasRoom, IsKeyUnder}
use Rattle.keys.specs.Store.{Kept, lent, filled, run_of, nodes_of, names_of, text_of, done}
use Rattle.keys.proofs.BitsLaws.{clash}
use Rattle.keys.proofs.FormLaws.{some, letters_written}
use Rattle.keys.proofs.KeyLaws.{length_packed, whole_back, Came}
use Rattle.keys.proofs.StoreLaws.{length_records, length_names_in, under_plant, called_plant, length_text_of, length_filled, bare_laid}

-- ---- What a tree needs

-- Four words for each node.
pub length_nodes_of : (t : Value) → length (nodes_of (laid t 0)) ≡ 4 * nodes t
length_nodes_of t =
    omega (arith, length_records (run_of (laid t 0)) 0 0 0, under_plant node_table type (laid t 0) done, ap nodes (bare_laid t 0))

-- One word for each name.
pub length_names_of : (t : Value) → length (names_of (laid t 0)) ≡ length (names t)
length_names_of t =
    omega (arith, length_names_in (run_of (laid t 0)), called_plant node_table type (laid t 0) done, ap (λ (v : Value). length (names v)) (bare_laid t 0))

-- ---- The edition

-- Its number fits its field.
edition_fits : (e : Edition) → numbered e < 2 ^ edition_width
edition_fits edition1 = omega arith

-- It leads to a type.
its_own : (e : Edition) → type_under e (numbered e) ≡ type
its_own e = ap (λ (b : Bool). when b type) (eq-eqb (numbered e) (numbered e) refl)

-- A tree with its edition has the form of a whole key.
pub with_edition : (e : Edition) {t : Value} → Fits (table e) type t → Fits (table e) (key_form e) (choice (numbered e) t)
with_edition e {t} h = fits_choose (edition_fits e) (subst (λ (f : Form). Fits (table e) f t) (sym (its_own e)) h)

-- A whole key is a tree with its edition.
pub edition_only : (e : Edition) {v : Value} → Fits (table e) (key_form e) v → v ≡ choice (numbered e) (tree_in v)
edition_only e (fits_choose {k = k} {v = v} a b) = by (eqb k (numbered e)) refl b
  where
    by : (x : Bool) → eqb k (numbered e) ≡ x → Fits (table e) (when x type) v → choice k v ≡ choice (numbered e) v
    by true i f = ap (λ (y : ℕ). choice y v) (eqb-true k (numbered e) i)
    by false i f = clash (cc (some (table e) f))

tree_fits : (e : Edition) {t : Value} → Fits (table e) (key_form e) (choice (numbered e) t) → Fits (table e) type t
tree_fits e {t} (fits_choose a b) = subst (λ (f : Form). Fits (table e) f t) (its_own e) b

-- ---- What is taken is a key
module _ (e : Edition) (n k m : ℕ) (key : List ℕ) (ok : Bytes key) (t : Value) where
  came_key : length key ≤ longest_key → Came (table e) (key_form e) tallest n k m (choice (numbered e) t) key → IsKeyUnder e n k m t key
  came_key short c =
      record {
        is_tree = record { fits = tree_fits e c.fits; tall = c.tall; short = subst (λ (x : List ℕ). length x ≤ longest_key) c.is short };
        has_room = record { for_nodes = c.for_nodes; for_names = c.for_names; for_text = c.for_text };
        is = c.is;
      }

  got_key : length key ≤ longest_key → (x : Result) → take_whole (table e) (key_form e) tallest (state n k m (bits_of_bytes key)) ≡ x
      → outcome (length (bits_of_bytes key)) x ≡ taken t → IsKeyUnder e n k m t key
  got_key short (stop a l) i j = clash (cc)
  got_key short (got v s) i j =
      let c : Came (table e) (key_form e) tallest n k m v key = whole_back (table e) (key_form e) tallest n k m key ok v s i in
      let q : tree_in v ≡ t = cc in
      came_key short (subst (λ (x : Value). Came (table e) (key_form e) tallest n k m x key) (edition_only e c.fits ∙ ap (choice (numbered e)) q) c)

  -- Bytes from which a tree is taken are its key.
  pub key_back : take_under e n k m key ≡ taken t → IsKeyUnder e n k m t key
  key_back h = by (leb (length key) longest_key) refl h
    where
      by : (b : Bool) → leb (length key) longest_key ≡ b → take_within e b n k m key ≡ taken t → IsKeyUnder e n k m t key
      by false i j = clash (cc)
      by true i j =
          got_key (leb-true (length key) longest_key i) (take_whole (table e) (key_form e) tallest (state n k m (bits_of_bytes key))) refl j

-- ---- What the call leaves keeps its length
module _ (a b c : ℕ) where
  pub kept_taken : (t : Value) → HasRoom (a / record_words) b c t → Kept a b c (lent a b c (taken t))
  kept_taken t r =
      record {
        nodes_kept = length_filled a (nodes_of (laid t 0)) (omega (arith, length_nodes_of t, r.for_nodes));
        names_kept = length_filled b (names_of (laid t 0)) (omega (arith, length_names_of t, r.for_names));
        text_kept = length_filled c (text_of t) (omega (arith, length_text_of t, r.for_text));
      }

  pub kept_refused : (n p : ℕ) → Kept a b c (lent a b c (refused n p))
  kept_refused n p =
      record { nodes_kept = length_filled a [] (omega arith); names_kept = length_filled b [] (omega arith); text_kept = length_filled c [] (omega arith) }

-- ---- What it leaves of the names

-- A tree's spellings are short enough for the words of names.
pub text_small : {t : Value} → IsTree t → letters t < half_word
text_small {t} h =
    omega (arith, letters_written node_table (with_edition newest h.fits), length_packed (write node_table whole_key (choice edition t)), h.short)

-- Its names are the first words left for them.
pub names_first : (t : Value) (b : ℕ) → take (length (names t)) (filled b (names_of (laid t 0))) ≡ names_of (laid t 0)
names_first t b = take_at (names_of (laid t 0)) (replicate (b - length (names_of (laid t 0))) 0) (length (names t)) (length_names_of t)
