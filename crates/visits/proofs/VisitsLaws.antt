-- The laws of visits: words are an output, and a walk of a tree that stands in a store puts out the tree's visits.
use mathlib.Core.Path.{◌≡◌, refl, ap, ap₂, ◌∙◌, subst}
use mathlib.Core.List.{List, ◌++◌}
use Prim.Native.Nat.{ℕ, ◌+◌, ◌*◌, ◌/◌, ◌^◌, ◌≤◌, ◌<◌}
use native.Mathlib.Omega.{arith}
use lib.ListN.{length, replicate}
use lib.Seq.{sets}
use Rattle.keys.specs.Form.{Form, one, child, both, Grammar, branch, left, right, class, height, nodes}
use Rattle.keys.specs.Limits.{newest, count_width, half_word}
use Rattle.keys.specs.Placed.{Placed, bare}
use Rattle.keys.specs.Key.{node_table}
use Rattle.keys.specs.Store.{Run, done, chose, name, kid, under, called, first_kid, records, run_of, nodes_of, node_visit, choice_visit, name_visit, visit, visits, visits_of}
use Rattle.keys.proofs.StoreLaws.{under_plant}
use Rattle.keys.specs.Table.{type}
use Rattle.keys.specs.Lines.{lined, tagged}
use Rattle.keys.specs.Holds.{word_at, child_at, next_at, Cursor, cursor, HoldsBy, Stands}
use Rattle.keys.proofs.HoldsLaws.{In, in_front, kid_in, of_type, root_is, stands_holds, stands_low}
use Rattle.fields.proofs.PutLaws.{sets_copies}
use Rattle.node_table.specs.Forms.{grammar_of, table_words}
use Rattle.node_table.proofs.FormsLaws.{words_are}
use Rattle.node_table.specs.Moves.{items, Noded}
use Rattle.node_table.proofs.MovesLaws.{all_put}
use Rattle.visits.specs.Sound.{visits_sound}
use Rattle.visits.specs.Visits.{Visited, Listed, visit_words, Named}

-- ---- The visits of a tree that stands in a store

-- A store that holds a run holds it with less asked of its names.
holds_named : (N : List ℕ) {P Q : ℕ → List ℕ → Type 0} → ((m : ℕ) (s : List ℕ) → P m s → Q m s) → (t : Run) (s : Cursor) → HoldsBy N P t s → HoldsBy N Q t s
holds_named N f done s h = tt
holds_named N f (chose w k t) s h = (h.0, holds_named N f t (cursor (s.word / 2 ^ w) s.child s.name) h.1)
holds_named N f (name x u t) s h = (f s.name u h.0, holds_named N f t (cursor s.word s.child (s.name + 1)) h.1)
holds_named N f (kid first end a t) s h = (
  holds_named N f a (cursor (word_at N s.child) (child_at N s.child) s.name) h.0,
  holds_named N f t (cursor s.word (next_at N s.child) (s.name + called a)) h.1,
)

-- The items of a run that stands there are its visits: the links are the numbers of its nodes.
items_visits : (G : Grammar) (N : List ℕ) (f : Form) (t : Run) (b m n d : ℕ) → In N (b * 4) (records t b m n) → b + under t < half_word → n < half_word
    → (choices next : ℕ) → next ≡ first_kid t b n → items visit_words G N f t (cursor choices next m) d ≡ visits t b m d
items_visits G N f done b m n d p h l choices next e = refl
items_visits G N f (chose w k t) b m n d p h l choices next e =
    ap (λ (x : List ℕ). visit choice_visit k d ++ x) (items_visits G N (branch f k) t b m n d p h l (choices / 2 ^ w) next e)
items_visits G N f (name x s t) b m n d p h l choices next e =
    ap (λ (y : List ℕ). visit name_visit m d ++ y) (items_visits G N (right f) t b (m + 1) n d p h l choices next e)
items_visits G N f (kid first end a t) b m n d p h l choices next e =
    let i = kid_in N first end a t b m n next p h l e in
    ap₂ (λ (x y : List ℕ). x ++ y)
    (ap₂ (λ (x : ℕ) (y : List ℕ). visit node_visit x d ++ y) e
    (items_visits G N (tagged G (class (left f))) a b m 0 (d + 1) i.inside (omega arith) (omega arith) (word_at N next) (child_at N next) i.child))
    (items_visits G N (right f) t (b + under a + 1) (m + called a) n d i.others (omega arith) l choices (next_at N next) i.sibling)

module _ (N M : List ℕ) (root tall n m to : ℕ) (k0 k : List ℕ) (z : k0 ≡ replicate n 0)
    (d : Noded visit_words (grammar_of (table_words count_width)) N (Named M) tall 0 (length M) 0 root 0 0 k0 m to k) where
  -- The root is walked by the node table.
  rooted : Noded visit_words (lined node_table) N (Named M) tall 0 (length M) 0 root 0 0 k0 m to k
  rooted = subst (λ (G : Grammar). Noded visit_words G N (Named M) tall 0 (length M) 0 root 0 0 k0 m to k) (words_are newest) d

  all : (X : List ℕ) (p : Placed) → Stands N M X p → root + 1 ≡ nodes (bare p) → height (bare p) ≤ tall → Listed 0 (visits_of p) to k0 k
  all X p s e h =
      subst (λ (ws : List ℕ). Listed 0 ws to k0 k)
      (items_visits (lined node_table) N (both (child 0) one) (run_of p) 0 0 0 0 (in_front N (nodes_of p) s.nodes_there)
      (omega (arith, s.few, under_plant node_table type p done)) (omega arith) 0 root (omega (arith, e, root_is p s.fits)))
      (all_put visit_words visits_sound (lined node_table) N (Named M) tall 0 (cursor 0 root 0) rooted (run_of p)
      (of_type p s.fits) (stands_low N M X p tall h) (holds_named N (λ i u q. q.there) (run_of p) (cursor 0 root 0) (stands_holds N M X p s root e)))

  pub visited : Visited N M root tall n to k
  visited =
      record {
        long = λ X p s e h. omega (arith, (all X p s e h).next);
        is = λ X p s e h. (all X p s e h).is ∙ ap (λ (x : List ℕ). sets x 0 (visits_of p)) z ∙ sets_copies 0 n n (visits_of p) (omega arith);
      }
