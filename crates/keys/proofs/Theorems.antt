-- What is proved of keys and of taking them back. Trees are bare values of the node table, positions aside; that every maker's tree is one of them stands in Makers.
use mathlib.Core.Path.{◌≡◌, refl, sym, ap, ◌∙◌, subst₂}
use mathlib.Core.Logic.{◌↔◌}
use mathlib.Core.Bool.{Bool, true, false}
use mathlib.Core.List.{List, ◌++◌}
use Prim.Native.Nat.{ℕ, ◌-◌, ◌/◌, ◌<◌}
use native.Mathlib.Omega.{arith}
use borrow.Author.Tests.{le-leb}
use lib.Dec.{leb}
use lib.ListN.{length, take, replicate}
use Rattle.keys.specs.Bits.{Bits, bits_of, bits_of_bytes}
use Rattle.keys.specs.Form.{Value, choice, nodes, names, Bytes, Fits, state}
use Rattle.keys.specs.Limits.{longest_key, tallest, edition_width, Edition, numbered, newest, edition, record_words, half_word}
use Rattle.keys.specs.Table.{type, table, key_form}
use Rattle.keys.specs.Placed.{Placed, bare}
use Rattle.keys.specs.Key.{Taken, taken, refused, outcome, bytes_of, node_table, key_under, take_within, take_under, take_key, IsTreeUnder, IsTree, HasRoom, IsKeyUnder, IsKey, IsRefusal}
use Rattle.keys.specs.Store.{back, no, lent, take_back, filled, nodes_of, names_of, text_of, all_pointed, Kept, Left}
use Rattle.keys.specs.Holds.{Stands}
use Rattle.keys.proofs.BitsLaws.{clash}
use Rattle.keys.proofs.KeyLaws.{whole_room, whole_one}
use Rattle.keys.proofs.RefusalLaws.{too_long_lem, whole_fine, outcome_fine}
use Rattle.keys.proofs.StoreLaws.{names_point}
use Rattle.keys.proofs.TakeLaws.{with_edition, key_back, kept_taken, kept_refused, text_small, names_first}
use Rattle.keys.proofs.OneTree.{one_written, own_words, four_words}

-- ---- Keys of one edition
module _ (e : Edition) where
  -- A key taken back with room enough gives its tree.
  pub taken_back : {n k m : ℕ} {t : Value} → IsTreeUnder e t → HasRoom n k m t → take_under e n k m (key_under e t) ≡ taken t
  taken_back {n} {k} {m} {t} a r =
      ap (λ (b : Bool). take_within e b n k m (key_under e t)) (le-leb (length (key_under e t)) longest_key a.short)
      ∙ ap (outcome (length (bits_of_bytes (key_under e t))))
      (whole_room (table e) (key_form e) (with_edition e a.fits) tallest n k m a.tall r.for_nodes r.for_names r.for_text)

  -- Two trees share a key exactly when they are the same tree.
  pub same_key : {t u : Value} → Fits (table e) type t → Fits (table e) type u → (key_under e t ≡ key_under e u) ↔ (t ≡ u)
  same_key {t} {u} a b = (λ h. inside (whole_one (table e) (key_form e) (with_edition e a) (with_edition e b) h), λ h. ap (key_under e) h)
    where
      inside : choice (numbered e) t ≡ choice (numbered e) u → t ≡ u
      inside h = cc

  -- Bytes are taken back as a tree exactly when they are the key of that tree, it is one of the node table within the limits, and there is room for it.
  pub exactly : {n k m : ℕ} {key : List ℕ} {t : Value} → Bytes key → (take_under e n k m key ≡ taken t) ↔ IsKeyUnder e n k m t key
  exactly {n} {k} {m} {key} {t} ok = (key_back e n k m key ok t, λ x. ap (take_under e n k m) x.is ∙ taken_back x.is_tree x.has_room)

  -- They are the key of no other tree, whatever the room.
  pub one_tree : {n k m n' k' m' : ℕ} {key : List ℕ} {t u : Value} → IsKeyUnder e n k m t key → IsKeyUnder e n' k' m' u key → t ≡ u
  one_tree x y = (same_key x.is_tree.fits y.is_tree.fits).0 (sym x.is ∙ y.is)

  -- What is not taken is refused under 6, 8, 10 or 11: at a bit of the key or at its end, and at 0 for 11.
  pub refusals : (n k m : ℕ) (key : List ℕ) {w p : ℕ} → take_under e n k m key ≡ refused w p → IsRefusal (length (bits_of_bytes key)) w p
  refusals n k m key {w} {p} h = by (leb (length key) longest_key) h
    where
      by : (b : Bool) → take_within e b n k m key ≡ refused w p → IsRefusal (length (bits_of_bytes key)) w p
      by false j = too_long_lem (length (bits_of_bytes key)) w p j
      by true j = outcome_fine (length (bits_of_bytes key)) w p (whole_fine (table e) (key_form e) tallest (state n k m (bits_of_bytes key))) j

-- ---- What stands in a store

-- Trees that stand in the same words with as many nodes are the same tree.
pub one_standing : {N M X : List ℕ} {p q : Placed} → Stands N M X p → Stands N M X q → nodes (bare p) ≡ nodes (bare q) → bare p ≡ bare q
one_standing a b e = (same_key newest a.fits b.fits).0 (ap (λ (x : Bits). bytes_of (bits_of edition_width edition ++ x)) (one_written a b e))

-- Trees that leave the same node and name words, and point at their spellings in the same text, are the same tree.
pub one_store : (X : List ℕ) (p q : Placed) → Fits node_table type (bare p) → Fits node_table type (bare q) → nodes (bare p) < half_word → nodes (bare q) < half_word
    → all_pointed X (names_of p) ≡ names (bare p) → all_pointed X (names_of q) ≡ names (bare q) → nodes_of p ≡ nodes_of q → names_of p ≡ names_of q → bare p ≡ bare q
one_store X p q a b c d s t e f =
    one_standing (own_words X p a c s) (subst₂ (λ (N M : List ℕ). Stands N M X q) (sym e) (sym f) (own_words X q b d t))
    (omega (arith, ap length e, four_words p, four_words q))

-- ---- The call, with a words lent for nodes, b words for names and c bytes for text
module _ (key : List ℕ) (a b c : ℕ) (ok : Bytes key) where
  -- On a key for whose tree there is room it leaves that tree.
  pub call_taken : {t : Value} → IsKey (a / record_words) b c t key → take_back key a b c ≡ lent a b c (taken t)
  call_taken x = ap (lent a b c) ((exactly newest ok).1 x)

  -- Where it answers that it took a tree, the bytes are that tree's key, and that tree is what it leaves.
  pub call_back : {x y z : ℕ} → (take_back key a b c).answer ≡ back x y z → Left key a b c (take_back key a b c)
  call_back {x} {y} {z} e = by (take_key (a / record_words) b c key) refl e
    where
      by : (o : Taken) → take_key (a / record_words) b c key ≡ o → (lent a b c o).answer ≡ back x y z → Left key a b c (take_back key a b c)
      by (taken t) i j = record { tree = t; is_key = (exactly newest ok).0 i; leaves = ap (lent a b c) i }
      by (refused n p) i j = clash (cc)

  -- Where it refuses, all that it leaves is zeros.
  pub call_refused : {n p : ℕ} → (take_back key a b c).answer ≡ no n p → take_back key a b c ≡ lent a b c (refused n p)
  call_refused {n} {p} e = by (take_key (a / record_words) b c key) e
    where
      by : (o : Taken) → (lent a b c o).answer ≡ no n p → lent a b c o ≡ lent a b c (refused n p)
      by (taken t) j = clash (cc)
      by (refused x y) j = let i : refused x y ≡ refused n p = cc in ap (lent a b c) i

  -- It refuses under 6, 8, 10 or 11, at a bit of the key or at its end, and at 0 for 11.
  pub call_placed : {n p : ℕ} → (take_back key a b c).answer ≡ no n p → IsRefusal (length (bits_of_bytes key)) n p
  call_placed {n} {p} e = by (take_key (a / record_words) b c key) refl e
    where
      by : (o : Taken) → take_key (a / record_words) b c key ≡ o → (lent a b c o).answer ≡ no n p → IsRefusal (length (bits_of_bytes key)) n p
      by (taken t) i j = clash (cc)
      by (refused x y) i j = let k : refused x y ≡ refused n p = cc in refusals newest (a / record_words) b c key (i ∙ k)

  -- It leaves every output as long as it was lent.
  pub lengths_kept : Kept a b c (take_back key a b c)
  lengths_kept = by (take_key (a / record_words) b c key) refl
    where
      by : (o : Taken) → take_key (a / record_words) b c key ≡ o → Kept a b c (lent a b c o)
      by (taken t) i = kept_taken a b c t (key_back newest (a / record_words) b c key ok t i).has_room
      by (refused n p) i = kept_refused a b c n p

-- The names that are left of a tree point, in the text that is left, at its spellings in the key's order.
pub names_spelled : (a b c : ℕ) {t : Value} → IsTree t
    → all_pointed (lent a b c (taken t)).text (take (length (names t)) (lent a b c (taken t)).name_words) ≡ names t
names_spelled a b c {t} h =
    ap (all_pointed (filled c (text_of t))) (names_first t b) ∙ names_point node_table type t (replicate (c - length (text_of t)) 0) (text_small h)
