-- The laws of key out: bits are an output, whose items are the bits of a run, and a spelling is put out.
use mathlib.Core.Path.{◌≡◌, refl, sym, ap, ap₂, ◌∙◌, subst}
use mathlib.Core.List.{List, ◌++◌}
use Prim.Native.Nat.{ℕ, ◌+◌, ◌*◌, ◌/◌, ◌^◌, ◌≤◌, ◌<◌}
use native.Mathlib.Omega.{arith}
use lib.ListN.{length, drop, length-drop}
use lib.Seq.{length-take-le}
use Rattle.keys.specs.Bits.{Bits, bits_of, bits_of_bytes}
use Rattle.keys.specs.Form.{Form, Grammar, width, branch, left, right, class}
use Rattle.keys.specs.Store.{Run, done, chose, name, kid, called, part}
use Rattle.keys.specs.Holds.{word_at, child_at, next_at, start_at, size_at, Spells, Cursor, cursor}
use Rattle.keys.specs.Lines.{tagged, written}
use Rattle.fields.specs.Put.{far, Put}
use Rattle.fields.proofs.PutLaws.{put_append}
use Rattle.node_table.specs.Moves.{items, Spelled}
use Rattle.key_out.specs.Out.{key_bits}

-- The items of a run are its bits.
pub items_written : (G : Grammar) (N : List ℕ) (f : Form) (a : Run) (s : Cursor) (d : ℕ) → items key_bits G N f a s d ≡ written G f a
items_written G N f done s d = refl
items_written G N f (chose w k r) s d =
    ap (λ (x : Bits). bits_of (width f) k ++ x) (items_written G N (branch f k) r (cursor (s.word / 2 ^ w) s.child s.name) d)
items_written G N f (name x u r) s d =
    ap (λ (y : Bits). (bits_of (width (left f)) (length u) ++ bits_of_bytes u) ++ y) (items_written G N (right f) r (cursor s.word s.child (s.name + 1)) d)
items_written G N f (kid first end a r) s d =
    ap₂ (λ (x y : Bits). x ++ y)
    (items_written G N (tagged G (class (left f))) a (cursor (word_at N s.child) (child_at N s.child) s.name) d)
    (items_written G N (right f) r (cursor s.word (next_at N s.child) (s.name + called a)) d)

-- ---- A spelling

module _ (M X : List ℕ) (w d m to : ℕ) (k : List ℕ) (l : length k * 8 ≤ far) (h : to ≤ far) (n : m ≤ length M) where
  pub spelled_put : (start size to1 to2 : ℕ) (k1 k2 : List ℕ) → start ≡ start_at M m → size ≡ size_at M m → start + size ≤ length X → m < length M
      → Put to (bits_of w size) to1 k k1 → Put to1 (bits_of_bytes (part X start size)) to2 k1 k2 → Spelled key_bits (Spells M X) (length M) w d m to k (m + 1) to2 k2
  spelled_put start size to1 to2 k1 k2 a b c d p q =
      record {
        short = l;
        stays = omega (arith, q.next);
        same = q.same ∙ p.same;
        in_names = omega arith;
        on = λ s e. (subst (λ (x : Bits). Put to x to2 k k2) (is s e) (put_append p q), refl);
      }
    where
      long : length (part X start size) ≡ size
      long = length-take-le size (drop start X) (omega (arith, length-drop start X))

      spelt : (s : List ℕ) → Spells M X m s → part X start size ≡ s
      spelt s e = ap₂ (λ (x y : ℕ). part X x y) a b ∙ e.is

      is : (s : List ℕ) → Spells M X m s → bits_of w size ++ bits_of_bytes (part X start size) ≡ bits_of w (length s) ++ bits_of_bytes s
      is s e = ap₂ (λ (x : ℕ) (y : List ℕ). bits_of w x ++ bits_of_bytes y) (sym long ∙ ap length (spelt s e)) (spelt s e)
