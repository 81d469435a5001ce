-- Nodes that are put at once: what they hold, by their word alone.
use mathlib.Core.Path.{◌≡◌, refl, sym, ap, ◌∙◌, subst}
use mathlib.Core.Bool.{Bool, true, false}
use Prim.Native.Nat.{ℕ, ◌+◌, ◌/◌, ◌%◌, ◌^◌, ◌≤◌, ◌<◌}
use native.Mathlib.Omega.{arith}
use native.Mathlib.Nat.{mod-lt}
use borrow.Author.Tests.{eqb-true, ne_eqb}
use lib.Dec.{eqb, ltb}
use lib.ListN.{length}
use mathlib.Core.List.{List, [], ◌++◌, append-nil}
use Rattle.keys.specs.Bits.{Bits, bits_of, bits_of_bytes}
use Rattle.keys.specs.Form.{Form, one, word, choose, both, Grammar, wider}
use Rattle.words.proofs.Tests.{both_true}
use Rattle.keys.specs.Key.{node_table}
use Rattle.keys.specs.Table.{when}
use Rattle.keys.specs.Store.{Run, done, chose, name, called}
use Rattle.keys.specs.Holds.{word_at, child_at, Spells, Cursor, cursor, HoldsBy}
use Rattle.fields.specs.Put.{Put}
use Rattle.fields.proofs.PutLaws.{put_append, bits_three}
use Rattle.node_table.specs.Moves.{Noded, Spelled, items}
use Rattle.key_out.specs.Out.{key_bits, is_once}
use Rattle.key_out.proofs.OutLaws.{items_written}
use Rattle.keys.specs.Lines.{in_line, lined, tagged, Of, of_one, of_word, of_choose, written}

-- The node table with its rows in line.
abbrev pub L : Grammar
L = lined node_table

module _ (N : List ℕ) (P : ℕ → List ℕ → Type 0) where
  -- ---- A run from its front

  -- A choice is what the word says.
  choice_run_lem : {w x : ℕ} {fs : ℕ → Form} {a : Run} (s : Cursor) → Of L (choose w x fs) a → HoldsBy N P a s
      → (r : Run) × (a ≡ chose (wider w x) (s.word % 2 ^ wider w x) r) × Of L (fs (s.word % 2 ^ wider w x)) r × HoldsBy N P r (cursor (s.word / 2 ^ wider w x) s.child s.name)
  choice_run_lem s (of_choose {w = w} {x = x} {fs = fs} {r = r} o) h =
      (r, ap (λ (k : ℕ). chose (wider w x) k r) (sym h.0), subst (λ (k : ℕ). Of L (fs k) r) (sym h.0) o, h.1)

  -- A name is spelled as it says.
  name_run_lem : {w : ℕ} {g : Form} {a : Run} (s : Cursor) → Of L (both (word w) g) a → HoldsBy N P a s
      → (x : ℕ) × (u : List ℕ) × (r : Run) × (a ≡ name x u r) × P s.name u × Of L g r × HoldsBy N P r (cursor s.word s.child (s.name + 1))
  name_run_lem s (of_word {x = x} {s = u} {r = r} o) h = (x, u, r, refl, h.0, o, h.1)

  -- Nothing is left.
  no_run : {a : Run} → Of L one a → a ≡ done
  no_run of_one = refl

  -- The same behind a test.
  no_run_if : (b : Bool) {a : Run} → Of L (in_line (when b one) one) a → a ≡ done
  no_run_if true of_one = refl
  no_run_if false {a = a} x' = elim x' [ ]

  -- ---- The three rows

  -- A run that holds one name alone, between some bits.
  pub record Named (before after : Bits) (m : ℕ) (a : Run) : Type 0 where
    pub s : List ℕ
    pub spelt : P m s
    pub bits : written L (tagged L 0) a ≡ before ++ ((bits_of 16 (length s) ++ bits_of_bytes s) ++ after)
    pub count : called a ≡ 1

  module _ (c m : ℕ) (a : Run) (o : Of L (tagged L 0) a) where
    -- A reference whose word says one name and no arguments.
    pub reference_run : HoldsBy N P a (cursor 65 c m) → Named (bits_of 18 4097) (bits_of 1 0) m a
    reference_run h =
        let t = choice_run_lem (cursor 65 c m) o h in
        let n = choice_run_lem (cursor 1 c m) t.2 t.3 in
        let x = name_run_lem (cursor 0 c m) n.2 n.3 in
        let e = choice_run_lem (cursor 0 c (m + 1)) x.5 x.6 in
        let all : a ≡ chose 6 1 (chose 12 1 (name x.0 x.1 (chose 1 0 done)))
        = t.1 ∙ ap (chose 6 1) (n.1 ∙ ap (chose 12 1) (x.3 ∙ ap (name x.0 x.1) (e.1 ∙ ap (chose 1 0) (no_run e.2)))) in
        record { s = x.1; spelt = x.4; bits = ap (written L (tagged L 0)) all; count = ap called all }

    -- A string.
    pub string_run : HoldsBy N P a (cursor 3 c m) → Named (bits_of 9 24) [] m a
    string_run h =
        let t = choice_run_lem (cursor 3 c m) o h in
        let n = choice_run_lem (cursor 0 c m) t.2 t.3 in
        let x = name_run_lem (cursor 0 c m) n.2 n.3 in
        let all : a ≡ chose 6 3 (chose 3 0 (name x.0 x.1 done)) = t.1 ∙ ap (chose 6 3) (n.1 ∙ ap (chose 3 0) (x.3 ∙ ap (name x.0 x.1) (no_run x.5))) in
        record { s = x.1; spelt = x.4; bits = ap (written L (tagged L 0)) all; count = ap called all }

    -- A keyword, whose number is a choice.
    pub keyword_run : (w : ℕ) → w % 64 ≡ 2 → HoldsBy N P a (cursor w c m) → (written L (tagged L 0) a ≡ bits_of 6 2 ++ bits_of 4 (w / 64 % 16)) × (called a ≡ 0)
    keyword_run w e h =
        let t = choice_run_lem (cursor w c m) o h in
        let n = choice_run_lem (cursor (w / 64) c m) (subst (λ (k : ℕ). Of L (L.row 0 k) t.0) e t.2) t.3 in
        let all : a ≡ chose 6 2 (chose 4 (w / 64 % 16) done) = t.1 ∙ ap (λ (k : ℕ). chose 6 k t.0) e ∙ ap (chose 6 2) (n.1 ∙ ap (chose 4 (w / 64 % 16)) (no_run_if (ltb (w / 64 % 16) 13) n.2)) in
        (ap (written L (tagged L 0)) all ∙ ap (λ (x : Bits). bits_of 6 2 ++ x) (append-nil (bits_of 4 (w / 64 % 16))), ap called all)

-- The tag of a keyword and its number, in one field.
tag_number : (x : ℕ) → x < 16 → bits_of 10 (32 + x) ≡ bits_of 6 2 ++ bits_of 4 x
tag_number x l = bits_three 10 0 6 4 0 2 x refl (omega arith) l

-- ---- Such a node, put out
module _ (G : Grammar) (e : G ≡ L) (N M X : List ℕ) (left d at m to : ℕ) (k : List ℕ) where
  -- What a run has as items, under either table.
  items_are : (a : Run) → items key_bits G N (tagged G 0) a (cursor (word_at N at) (child_at N at) m) d ≡ written L (tagged L 0) a
  items_are a = items_written G N (tagged G 0) a (cursor (word_at N at) (child_at N at) m) d ∙ ap (λ (H : Grammar). written H (tagged H 0) a) e

  of_line : (a : Run) → Of G (tagged G 0) a → Of L (tagged L 0) a
  of_line a o = subst (λ (H : Grammar). Of H (tagged H 0) a) e o

  -- Bits, the name and bits behind it.
  pub named_put : {before after : Bits} {m' to1 to2 to3 : ℕ} {k1 k2 k3 : List ℕ}
      → ((a : Run) → Of L (tagged L 0) a → HoldsBy N (Spells M X) a (cursor (word_at N at) (child_at N at) m) → Named N (Spells M X) before after m a)
      → Put to before to1 k k1 → Spelled key_bits (Spells M X) (length M) 16 d m to1 k1 m' to2 k2 → Put to2 after to3 k2 k3
      → Noded key_bits G N (Spells M X) left d (length M) 0 at m to k m' to3 k3
  named_put {to3 = to3} {k3 = k3} is p q r =
      record {
        short = p.short;
        stays = omega (arith, r.next);
        same = r.same ∙ q.same ∙ p.same;
        in_names = q.in_names;
        on = λ a o l h.
            let n = is a (of_line a o) h in
            let y = q.on n.s n.spelt in
            (subst (λ (x : Bits). Put to x to3 k k3) (sym (items_are a ∙ n.bits)) (put_append p (put_append y.0 r)), y.1 ∙ ap (λ (x : ℕ). m + x) (sym n.count));
      }

  -- A keyword's tag and number, in one field.
  pub keyword_put : {to1 : ℕ} {k1 : List ℕ} → word_at N at % 64 ≡ 2 → m ≤ length M → Put to (bits_of 10 (32 + word_at N at / 64 % 16)) to1 k k1
      → Noded key_bits G N (Spells M X) left d (length M) 0 at m to k m to1 k1
  keyword_put {to1 = to1} {k1 = k1} w l p =
      record {
        short = p.short;
        stays = omega (arith, p.next);
        same = p.same;
        in_names = l;
        on = λ a o b h.
            let n = keyword_run N (Spells M X) (child_at N at) m a (of_line a o) (word_at N at) w h in
            (subst (λ (x : Bits). Put to x to1 k k1) (tag_number (word_at N at / 64 % 16) (mod-lt (word_at N at / 64) (omega arith)) ∙ sym (items_are a ∙ n.0)) p, let z : m ≡ m + called a = omega (arith, n.1) in z);
      }

-- ---- Which it is

-- A node that is put at once is a type.
pub once_type : (class w : ℕ) → is_once class w ≡ true → (class ≡ 0) × (is_once 0 w ≡ true)
once_type class w e =
    let t = both_true (eqb class 0) _ e in
    (eqb-true class 0 t.0, t.1)

-- It is a keyword if it is no name and no string.
pub once_keyword : (w : ℕ) → (w ≡ 65 → ⊥) → (w ≡ 3 → ⊥) → is_once 0 w ≡ true → w % 64 ≡ 2
once_keyword w a b e = eqb-true (w % 64) 2 (sym (rw (ne_eqb w 65 a, ne_eqb w 3 b)) ∙ e)

-- What is put of class 0 is put of a class that is 0.
pub of_class : {G : Grammar} {N M X : List ℕ} {left d class at m to : ℕ} {k : List ℕ} {m' to' : ℕ} {k' : List ℕ} → class ≡ 0
    → Noded key_bits G N (Spells M X) left d (length M) 0 at m to k m' to' k' → Noded key_bits G N (Spells M X) left d (length M) class at m to k m' to' k'
of_class {G} {N} {M} {X} {left} {d} {class} {at} {m} {to} {k} {m'} {to'} {k'} c n =
    subst (λ (x : ℕ). Noded key_bits G N (Spells M X) left d (length M) x at m to k m' to' k') (sym c) n
