-- How a node that is being read grows: a child is linked, a name is spelled, the node is put.
use mathlib.Core.Path.{◌≡◌, refl, sym, ap, ap₂, ◌∙◌, subst}
use mathlib.Core.List.{List, [], ◌∷◌, ◌++◌, append_assoc, append-nil}
use Prim.Native.Nat.{ℕ, suc, ◌+◌, ◌-◌, ◌*◌, ◌^◌, ◌≤◌, ◌<◌, max}
use native.Mathlib.Omega.{arith}
use lib.ListN.{length, take, set, replicate, length-append, length-replicate}
use lib.Seq.{take_all}
use Rattle.keys.specs.Key.{node_table}
use Rattle.keys.specs.Placed.{Placed, tree, Spelling}
use Rattle.keys.specs.Store.{Run, done, chose, name, kid, plant, under, first_kid, records, name_of, names_in, ◌⊕◌}
use Rattle.keys.proofs.StoreLaws.{join_done, join_join, under_join, called_join, first_kid_join, names_in_join, length_names_in}
use Rattle.keys.specs.Words.{first_nodes, first_names}
use Rattle.keys.specs.Stored.{letters_in, Base, base, Stored}
use Rattle.keys.proofs.StoredLaws.{kid_first, kid_next, own_first, own_next, stored_node}
use Rattle.marks.specs.State.{used_mark}
use Rattle.marks.specs.Laid.{heights, run_in, names_run, IsNode, node, Was, was_at, Laid, Built, Stands, Spoken, Shape}
use Rattle.marks.proofs.RunLaws.{heights_skeleton, first_kid_skeleton, heights_join, names_join, heights_names, first_names_lem, no_nodes, some_nodes}
use Rattle.marks.proofs.LaidLaws.{laid_none, laid_as, laid_name, cut_twice, notes_same}
use Rattle.marks.specs.declared.state.Mark.{Mark}
use Rattle.marks.specs.declared.state.Kids.{Kids}

-- ---- The nodes as the key's store has them, under made-up names and text

abbrev base_of : Was → Base
base_of B = record { nodes = B.nodes; names = replicate B.named 0; text = []; used = B.used; named = B.named; chars = 0 }

abbrev names_for : Was → Run → List ℕ
names_for B t = replicate B.named 0 ++ names_in t

all_names : (l k : List ℕ) (n : ℕ) → n ≡ length l → first_names (l ++ k) (n + length k) ≡ first_names l n ++ k
unfolding first_names
all_names l k n e = take_all (n + length k) (l ++ k) (simp length-append (omega arith)) ∙ ap (λ (x : List ℕ). x ++ k) (sym (take_all n l (omega arith)))

stored : {B : Was} {t : Run} {used named noted : ℕ} {N M O : List ℕ} → Laid B t used named noted N M O
    → Stored (base_of B) t N (names_for B t) (letters_in t) used named (length (letters_in t))
unfolding first_names
stored {B} {t} {used} {named} {noted} {N} d =
    record {
      used = d.used_is;
      named = d.named_is;
      chars = omega arith;
      nodes_are = d.nodes_are;
      names_are = take_all named (names_for B t) (simp (length-append, length-replicate) (omega (arith, d.named_is, length_names_in t)));
      text_is = take_all (length (letters_in t)) (letters_in t) (omega arith);
    }

length_for : {B : Was} {t : Run} {used named noted : ℕ} {N M O : List ℕ} → Laid B t used named noted N M O → named ≡ length (names_for B t)
length_for {B} {t} d = simp (length-append, length-replicate) (omega (arith, d.named_is, length_names_in t))

stored_since : {B : Was} {t u : Run} {used named noted used' named' noted' : ℕ} {N M O N' M' O' : List ℕ} (d : Laid B t used named noted N M O)
    → Laid (was_at used named noted N M O) u used' named' noted' N' M' O'
    → Stored (base N (names_for B t) (letters_in t) used named (length (letters_in t))) u N' (names_for B t ++ names_in u) (letters_in t ++ letters_in u) used' named' (length (letters_in t ++ letters_in u))
stored_since {B} {t} {u} {used} {named} {noted} {used'} {named'} {noted'} {N} {M} {O} {N'} {M'} {O'} d e =
    record {
      used = e.used_is;
      named = e.named_is;
      chars = simp length-append (omega arith);
      nodes_are = e.nodes_are;
      names_are =
          ap (first_names (names_for B t ++ names_in u)) (let z : named' ≡ named + length (names_in u) = omega (arith, e.named_is, length_names_in u) in z)
          ∙ all_names (names_for B t) (names_in u) named (length_for d);
      text_is = take_all (length (letters_in t ++ letters_in u)) (letters_in t ++ letters_in u) (omega arith)
          ∙ ap (λ (x : List ℕ). x ++ letters_in u) (sym (take_all (length (letters_in t)) (letters_in t) (omega arith)));
    }

-- ---- A child

module _ {B : Was} {t a : Run} {f l used named noted used' named' noted' : ℕ} {N M O N' M' O' : List ℕ}
    (d : Laid B t used named noted N M O) (e : Laid (was_at used named noted N M O) (kid f l a done) used' named' noted' N' M' O') where
  abbrev k : Run
  k = kid f l a done

  with_nodes : (N'' : List ℕ) → first_nodes N'' used' ≡ B.nodes ++ records (t ⊕ k) B.used B.named 0 → Laid B (t ⊕ kid f l a done) used' named' noted' N'' M' O'
  with_nodes N'' i =
      record {
        used_is = omega (arith, d.used_is, e.used_is, under_join t k);
        named_is = omega (arith, d.named_is, e.named_is, called_join t k);
        nodes_are = i;
        room_is = e.room_is ∙ d.room_is;
        names_are =
            e.names_are ∙ ap (λ (n : ℕ). take n (first_names M named ++ names_in k)) d.room_is
            ∙ ap (λ (y : List ℕ). take B.room (y ++ names_in k)) d.names_are
            ∙ cut_twice B.room (B.names ++ names_in t) (names_in k)
            ∙ ap (take B.room) (append_assoc B.names (names_in t) (names_in k) ∙ ap (λ (y : List ℕ). B.names ++ y) (sym (names_in_join t k)));
        noted_is = omega (arith, d.noted_is, e.noted_is);
        notes_are = notes_same O O' noted B.noted d.noted_is e.notes_are ∙ d.notes_are;
      }

  pub laid_first : used ≡ B.used → Laid B (t ⊕ kid f l a done) used' named' noted' N' M' O'
  laid_first z = with_nodes N' (kid_first (stored d) (stored_since d e) z).nodes_are

  pub laid_next : B.used < used → 4 * used' ≤ length N' → length N ≡ length N' → Laid B (t ⊕ kid f l a done) used' named' noted' (set N' (4 * (used - 1) + 3) (used' - 1)) M' O'
  laid_next z h s = with_nodes (set N' (4 * (used - 1) + 3) (used' - 1)) (kid_next (stored d) (stored_since d e) z h s).nodes_are

  pub first_first : used ≡ B.used → used' - 1 ≡ first_kid (t ⊕ kid f l a done) B.used 0
  first_first z = (own_first (stored d) (stored_since d e) (record { word_is = refl; shift_is = refl; child_is = refl }) z).child_is

  pub first_next : B.used < used → first_kid t B.used 0 ≡ first_kid (t ⊕ kid f l a done) B.used 0
  first_next z = (own_next (stored d) (stored_since d e) (record { word_is = refl; shift_is = refl; child_is = refl }) z).child_is

zero_max : (n : ℕ) → n ≡ max 0 n
zero_max n = omega arith

-- The tree u, read since the children of k stood, is the first child; or it follows the last.
module _ {c : ℕ} {B : Was} {t : Run} {k : Kids} {used named noted used' named' noted' : ℕ} {N M O N' M' O' : List ℕ} (b : Built B t k used named noted N M O) where
  pub built_first : {u : Placed} (high many : ℕ) → IsNode c u → high ≡ heights (run_in c u) → Laid (was_at used named noted N M O) (run_in c u) used' named' noted' N' M' O'
      → k.high ≡ 0 → Built B (t ⊕ run_in c u) (record { first = used' - 1; count = many; high = high }) used' named' noted' N' M' O'
  built_first high many (node {tag = tag} {first = f} {end = l} {p = p} a) h e z =
      let none : heights t ≡ 0 = sym b.high_is ∙ z in
      let same : used ≡ B.used = omega (arith, b.laid.used_is, no_nodes t none) in
      record {
        laid = laid_first b.laid e same;
        first_is = first_first b.laid e same;
        high_is = h ∙ zero_max (heights (run_in c (tree tag f l p))) ∙ ap (λ (n : ℕ). max n (heights (run_in c (tree tag f l p)))) (sym none) ∙ sym (heights_join t (run_in c (tree tag f l p)));
      }

  pub built_next : {u : Placed} (high many : ℕ) → IsNode c u → high ≡ heights (run_in c u) → Laid (was_at used named noted N M O) (run_in c u) used' named' noted' N' M' O'
      → 0 < k.high → 4 * used' ≤ length N' → length N ≡ length N'
      → Built B (t ⊕ run_in c u) (record { first = k.first; count = many; high = max k.high high }) used' named' noted' (set N' (4 * (used - 1) + 3) (used' - 1)) M' O'
  built_next high many (node {tag = tag} {first = f} {end = l} {p = p} a) h e z r s =
      let some : 0 < under t = some_nodes t (rw (← b.high_is) z) in
      let more : B.used < used = omega (arith, b.laid.used_is) in
      record {
        laid = laid_next b.laid e more r s;
        first_is = b.first_is ∙ first_next b.laid e more;
        high_is = ap₂ max b.high_is h ∙ sym (heights_join t (run_in c (tree tag f l p)));
      }

pub built_none : (u m n : ℕ) (N M O : List ℕ) → Built (was_at u m n N M O) done (record { first = 0; count = 0; high = 0 }) u m n N M O
built_none u m n N M O = record { laid = laid_none u m n N M O; first_is = refl; high_is = refl }

-- Names alone have no children.
pub built_names : {B : Was} (ss : List Spelling) {used named noted : ℕ} {N M O : List ℕ} → Laid B (names_run ss) used named noted N M O
    → Built B (names_run ss) (record { first = 0; count = 0; high = 0 }) used named noted N M O
built_names {B} ss d = record { laid = d; first_is = sym (first_names_lem ss B.used 0); high_is = sym (heights_names ss) }

-- A tree that stands alone is the one child, also behind names.
pub built_one : {c : ℕ} {B : Was} {u : Placed} {high used named noted : ℕ} {N M O : List ℕ} (ss : List Spelling) → IsNode c u → high ≡ heights (run_in c u)
    → Laid B (names_run ss ⊕ run_in c u) used named noted N M O
    → Built B (names_run ss ⊕ run_in c u) (record { first = used - 1; count = 1; high = high }) used named noted N M O
built_one {c = c} {B = B} {used = used} ss (node {tag = tag} {first = f} {end = l} {p = p} a) h d =
    let r : Run = run_in c (tree tag f l p) in
    record {
      laid = d;
      first_is =
          (let z : used - 1 ≡ B.used + under (names_run ss) + under (chose (node_table.tag_width c) tag (plant node_table (node_table.row c tag) p done)) = omega (arith, d.used_is, under_join (names_run ss) r) in z)
          ∙ sym (first_names_lem ss B.used (first_kid r (B.used + under (names_run ss)) 0)) ∙ sym (first_kid_join (names_run ss) r B.used 0);
      high_is = h ∙ zero_max (heights r) ∙ ap (λ (n : ℕ). max n (heights r)) (sym (heights_names ss)) ∙ sym (heights_join (names_run ss) r);
    }

-- ---- A node

-- The record of a node behind its children makes a tree of them.
pub stands_node : {c tag choices first end : ℕ} {p : Placed} {B : Was} {t : Run} {k : Kids} {m : Mark} {N M O : List ℕ} (N' : List ℕ)
    → Built B t k m.used m.named m.noted N M O → Shape c tag p t choices → first < 2 ^ 32
    → first_nodes N' (m.used + 1) ≡ first_nodes N m.used ++ (choices ∷ (first + 2 ^ 32 * end) ∷ (k.first + 2 ^ 32 * B.named) ∷ 0 ∷ [])
    → Stands c B (tree tag first end p) (k.high + 1) (used_mark m) N' M O
stands_node {c} {tag} {choices} {first} {end} {p} {B} {t} {k} {m} {N} {M} {O} N' b s low e =
    let r : Run = chose (node_table.tag_width c) tag (plant node_table (node_table.row c tag) p done) in
    let d : Laid B r m.used m.named m.noted N M O = laid_as (sym s.same) b.laid in
    let child_is : k.first ≡ first_kid r B.used 0 =
    b.first_is ∙ sym (first_kid_skeleton t B.used 0) ∙ ap (λ (x : Run). first_kid x B.used 0) (sym s.same) ∙ first_kid_skeleton r B.used 0 in
    let n = stored_node first end N' (stored d) (record { word_is = s.choices_are; shift_is = refl; child_is = child_is }) e in
    record {
      is_node = node (s.allowed_is, low);
      high_is =
          ap (λ (x : ℕ). x + 1) (b.high_is ∙ sym (heights_skeleton t) ∙ ap heights (sym s.same) ∙ heights_skeleton r)
          ∙ (let z : heights r + 1 ≡ max (suc (heights r)) 0 = omega arith in z);
      laid =
          record {
            used_is = n.used;
            named_is = n.named;
            nodes_are = n.nodes_are;
            room_is = d.room_is;
            names_are = d.names_are ∙ ap (λ (x : List ℕ). take B.room (B.names ++ x)) (sym (append-nil (names_in r)));
            noted_is = d.noted_is;
            notes_are = d.notes_are;
          };
    }

-- ---- Names

pub spoken_none : (m q : Mark) (M : List ℕ) → q.used ≡ m.used → q.named ≡ m.named → q.noted ≡ m.noted → Spoken [] m q M M
spoken_none m q M a b c =
    record {
      used_is = a;
      noted_is = c;
      on = λ B t N O d.
          subst (λ (x : Run). Laid B x q.used q.named q.noted N M O) (sym (join_done t))
          (subst (λ (x : ℕ). Laid B t x q.named q.noted N M O) (sym a)
          (subst (λ (x : ℕ). Laid B t m.used x q.noted N M O) (sym b) (subst (λ (x : ℕ). Laid B t m.used m.named x N M O) (sym c) d)));
    }

pub spoken_then : {l k : List Spelling} {m p q : Mark} {M M' M'' : List ℕ} → Spoken l m p M M' → Spoken k p q M' M'' → Spoken (l ++ k) m q M M''
spoken_then {l} {k} {m} {p} {q} {M} {M'} {M''} a b =
    record {
      used_is = b.used_is ∙ a.used_is;
      noted_is = b.noted_is ∙ a.noted_is;
      on = λ B t N O d.
          subst (λ (x : Run). Laid B x q.used q.named q.noted N M'' O) (join_join t (names_run l) (names_run k) ∙ ap (λ (x : Run). t ⊕ x) (sym (names_join l k)))
          (b.on B (t ⊕ names_run l) N O (a.on B t N O d));
    }

-- Another mark before or behind with the same numbers.
pub spoken_from : {l : List Spelling} {m q : Mark} {M M' : List ℕ} (m' : Mark) → m'.used ≡ m.used → m'.named ≡ m.named → m'.noted ≡ m.noted → Spoken l m q M M' → Spoken l m' q M M'
spoken_from {l} {m} {q} {M} {M'} m' a b c s = spoken_then (spoken_none m' m M (sym a) (sym b) (sym c)) s

pub spoken_to : {l : List Spelling} {m q : Mark} {M M' : List ℕ} (q' : Mark) → q'.used ≡ q.used → q'.named ≡ q.named → q'.noted ≡ q.noted → Spoken l m q M M' → Spoken l m q' M M'
spoken_to {l} {m} {q} {M} {M'} q' a b c s =
    subst (λ (x : List Spelling). Spoken x m q' M M') (append-nil l) (spoken_then s (spoken_none q q' M' a b c))

-- Names that were spoken at the begin of a node are laid.
pub laid_spoken : {l : List Spelling} {m q : Mark} {M M' : List ℕ} (N O : List ℕ) → Spoken l m q M M'
    → Laid (was_at m.used m.named m.noted N M O) (names_run l) q.used q.named q.noted N M' O
laid_spoken {l} {m} {q} {M} {M'} N O s = s.on (was_at m.used m.named m.noted N M O) done N O (laid_none m.used m.named m.noted N M O)

-- The token's word behind the names is one name more.
pub spoken_one : {m : Mark} {M M' : List ℕ} (x : ℕ) (s : List ℕ) (q : Mark) → q.used ≡ m.used → q.named ≡ m.named + 1 → q.noted ≡ m.noted
    → length M' ≡ length M → first_names M' (m.named + 1) ≡ take (length M) (first_names M m.named ++ (name_of x s ∷ []))
    → Spoken ((x, s) ∷ []) m q M M'
spoken_one {m} {M} {M'} x s q a b c l e =
    record {
      used_is = a;
      noted_is = c;
      on = λ B t N O d.
          subst (λ (i : ℕ). Laid B (t ⊕ name x s done) i q.named q.noted N M' O) (sym a)
          (subst (λ (i : ℕ). Laid B (t ⊕ name x s done) m.used i q.noted N M' O) (sym b)
          (subst (λ (i : ℕ). Laid B (t ⊕ name x s done) m.used (m.named + 1) i N M' O) (sym c) (laid_name x s M' d l e)));
    }
