-- A store holds one run of a form only, so that what stands in it determines the tree.
use mathlib.Core.Path.{◌≡◌, refl, sym, ap, ap₂, ◌∙◌, subst}
use mathlib.Core.List.{List, ◌++◌}
use Prim.Native.Nat.{ℕ, ◌+◌, ◌*◌, ◌/◌, ◌^◌, ◌<◌}
use native.Mathlib.Omega.{arith}
use lib.ListN.{length}
use lib.Seq.{take_all}
use Rattle.keys.specs.Limits.{half_word}
use Rattle.keys.specs.Bits.{Bits, bits_of, bits_of_bytes}
use Rattle.keys.specs.Form.{Form, one, both, child, Grammar, wider, nodes, names, write, Fits}
use Rattle.keys.specs.Table.{type}
use Rattle.keys.specs.Placed.{Placed, bare}
use Rattle.keys.specs.Key.{node_table}
use Rattle.keys.specs.Store.{Run, done, called, first_kid, nodes_of, names_of, all_pointed, run_of}
use Rattle.keys.proofs.StoreLaws.{length_records, under_plant}
use Rattle.keys.specs.Lines.{lined, Of, of_one, of_word, of_choose, of_child, written}
use Rattle.keys.specs.Holds.{word_at, child_at, next_at, Cursor, cursor, HoldsBy, Stands}
use Rattle.keys.proofs.HoldsLaws.{of_type, root_is, stands_holds, stands_written}

-- Two runs of a form have one count of names and one row of bits.
record Alike (G : Grammar) (f : Form) (a b : Run) : Type 0 where
  count : called a ≡ called b
  bits : written G f a ≡ written G f b

-- From one place on a store holds one run of a form only, where a name has one spelling.
one_run : {G : Grammar} (N : List ℕ) {P : ℕ → List ℕ → Type 0} → ((m : ℕ) (u v : List ℕ) → P m u → P m v → u ≡ v)
    → {f : Form} {a b : Run} → Of G f a → Of G f b → (s : Cursor) → HoldsBy N P a s → HoldsBy N P b s → Alike G f a b
one_run N k of_one of_one s h j = record { count = refl; bits = refl }
one_run N k (of_word {w = w} {s = u} o) (of_word {s = v} q) s h j =
    let d = one_run N k o q (cursor s.word s.child (s.name + 1)) h.1 j.1 in
    record {
      count = ap (λ (n : ℕ). 1 + n) d.count;
      bits = ap₂ (λ (x : List ℕ) (y : Bits). (bits_of w (length x) ++ bits_of_bytes x) ++ y) (k s.name u v h.0 j.0) d.bits;
    }
one_run {G} N k (of_choose {w = w} {x = x} {k = m} {fs = fs} o) (of_choose {k = n} {r = b} q) s h j =
    let e : n ≡ m = sym j.0 ∙ h.0 in
    let d = one_run N k o (subst (λ (y : ℕ). Of G (fs y) b) e q) (cursor (s.word / 2 ^ wider w x) s.child s.name) h.1 j.1 in
    record {
      count = d.count;
      bits = ap (λ (x : Bits). bits_of w m ++ x) d.bits ∙ ap (λ (x : ℕ). bits_of w x ++ written G (fs x) b) (sym e);
    }
one_run N {P} k (of_child {a = a} o p) (of_child {r = u} q r) s h j =
    let d = one_run N k o q (cursor (word_at N s.child) (child_at N s.child) s.name) h.0 j.0 in
    let e = one_run N k p r (cursor s.word (next_at N s.child) (s.name + called a)) h.1
    (subst (λ (n : ℕ). HoldsBy N P u (cursor s.word (next_at N s.child) (s.name + n))) (sym d.count) j.1) in
    record {
      count = ap₂ (λ (m n : ℕ). m + n) d.count e.count;
      bits = ap₂ (λ (x y : Bits). x ++ y) d.bits e.bits;
    }

-- Trees that stand in the same words with as many nodes have the same bits.
pub one_written : {N M X : List ℕ} {p q : Placed} → Stands N M X p → Stands N M X q → nodes (bare p) ≡ nodes (bare q)
    → write node_table type (bare p) ≡ write node_table type (bare q)
one_written {N} {M} {X} {p} {q} a b e = sym (stands_written N M X p a) ∙ same.bits ∙ stands_written N M X q b
  where
    root : ℕ
    root = first_kid (run_of p) 0 0

    same : Alike (lined node_table) (both (child 0) one) (run_of p) (run_of q)
    same =
        one_run N (λ m u v x y. sym x.is ∙ y.is) (of_type p a.fits) (of_type q b.fits) (cursor 0 root 0)
        (stands_holds N M X p a root (root_is p a.fits)) (stands_holds N M X q b root (root_is p a.fits ∙ e))

-- A tree whose names point at its spellings stands in its own words.
pub own_words : (X : List ℕ) (p : Placed) → Fits node_table type (bare p) → nodes (bare p) < half_word → all_pointed X (names_of p) ≡ names (bare p) → Stands (nodes_of p) (names_of p) X p
own_words X p f h s =
    record {
      fits = f;
      few = h;
      nodes_there = take_all (length (nodes_of p)) (nodes_of p) (omega arith);
      names_there = take_all (length (names_of p)) (names_of p) (omega arith);
      spelled = s;
    }

-- A tree has four words for each of its nodes.
pub four_words : (p : Placed) → length (nodes_of p) ≡ 4 * nodes (bare p)
four_words p = omega (arith, length_records (run_of p) 0 0 0, under_plant node_table type p done)
