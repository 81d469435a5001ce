-- How the lent slices grow: by a name, a child, a finished node, a diagnostic; and what stands when a part is given back.
use mathlib.Core.Path.{◌≡◌, refl, sym, ap, ap₂, ◌∙◌}
use mathlib.Core.List.{List, [], ◌∷◌, ◌++◌, append_assoc, append-nil}
use Prim.Native.Nat.{ℕ, zero, suc, ◌+◌, ◌*◌, ◌≤◌, ◌<◌}
use native.Mathlib.Nat.{add-zero}
use native.Mathlib.Omega.{arith}
use native.Mathlib.Decide.{dec_lt}
use lib.ListN.{length, take, set, length-append, length-set}
use lib.Seq.{length-take-le, take-take, take_at, take_all, take-append-le, take-append_seam, get_or-set_same, get_or-set_other}
use Rattle.keys.specs.Placed.{Spelling}
use Rattle.keys.specs.Store.{Run, done, name, under, called, first_kid, records, name_of, names_in, ◌⊕◌}
use Rattle.keys.proofs.StoreLaws.{under_join, called_join, records_join, names_in_join}
use Rattle.keys.specs.Words.{first_nodes, first_names}
use Rattle.rules.specs.Notes.{Note}
use Rattle.marks.specs.State.{tallies, note_at, note_from, notes_of}
use Rattle.marks.specs.Laid.{skeleton, names_run, Was, was_at, Laid}
use Rattle.marks.proofs.RunLaws.{under_skeleton, called_skeleton, records_skeleton, names_in_skeleton, under_names, records_names}

-- ---- The first words of each slice

length_nodes : (N : List ℕ) (n : ℕ) → 4 * n ≤ length N → length (first_nodes N n) ≡ 4 * n
unfolding first_nodes
length_nodes N n h = length-take-le (4 * n) N h

-- The nodes below those that were read since are as they were.
nodes_back : (N N' F : List ℕ) (u v : ℕ) → 4 * u ≤ length N → u ≤ v → first_nodes N' v ≡ first_nodes N u ++ F → first_nodes N' u ≡ first_nodes N u
unfolding first_nodes
nodes_back N N' F u v h l e = sym (take-take (4 * u) (4 * v) N' (omega arith)) ∙ ap (take (4 * u)) e ∙ take_at (first_nodes N u) F (4 * u) (length_nodes N u h)

-- Names are cut where they no longer fit.
pub cut_twice : (m : ℕ) (x y : List ℕ) → take m (take m x ++ y) ≡ take m (x ++ y)
cut_twice m x y = go (dec_lt (length x) m)
  where
    go : Dec (length x < m) → take m (take m x ++ y) ≡ take m (x ++ y)
    go (yes p) = ap (λ (l : List ℕ). take m (l ++ y)) (take_all m x (omega arith))
    go (no p) = take_at (take m x) y m (length-take-le m x (omega arith)) ∙ sym (take-append-le m x y (omega arith))

cut_none : (M : List ℕ) (n : ℕ) → first_names M n ≡ take (length M) (first_names M n ++ [])
unfolding first_names
cut_none M n = sym (ap (take (length M)) (append-nil (take n M)) ∙ go (dec_lt n (length M)))
  where
    go : Dec (n < length M) → take (length M) (take n M) ≡ take n M
    go (yes p) = take_all (length M) (take n M) (omega (arith, length-take-le n M (omega arith)))
    go (no p) = ap (take (length M)) (take_all n M (omega arith)) ∙ take_all (length M) M (omega arith) ∙ sym (take_all n M (omega arith))

names_back : (n n' : ℕ) (M M' l : List ℕ) → n ≤ n' → first_names M' n' ≡ take (length M) (first_names M n ++ l) → first_names M' n ≡ first_names M n
unfolding first_names
names_back n n' M M' l h e = sym (take-take n n' M' h) ∙ ap (take n) e ∙ go (dec_lt (length M) n)
  where
    go : Dec (length M < n) → take n (take (length M) (take n M ++ l)) ≡ take n M
    go (yes p) = ap (take n) (ap (λ (x : List ℕ). take (length M) (x ++ l)) (take_all n M (omega arith)) ∙ take-append_seam M l)
    go (no p) = take-take n (length M) (take n M ++ l) (omega arith) ∙ take_at (take n M) l n (length-take-le n M (omega arith))

-- ---- Diagnostics

pub length_notes : (O : List ℕ) (n : ℕ) → length (notes_of O n) ≡ n
unfolding notes_of
length_notes O zero = refl
length_notes O (suc n) = simp length-append (omega (arith, length_notes O n))

notes_take : (O : List ℕ) (n k : ℕ) → k ≤ n → take k (notes_of O n) ≡ notes_of O k
unfolding notes_of
notes_take O zero k h = rw (let e : k ≡ 0 = omega arith in e)
notes_take O (suc n) k h = go (dec_lt n k) (λ g. notes_take O n k g)
  where
    go : Dec (n < k) → (k ≤ n → take k (notes_of O n) ≡ notes_of O k) → take k (notes_of O (suc n)) ≡ notes_of O k
    go (yes p) f =
        ap (λ (j : ℕ). take j (notes_of O (suc n))) (let e : k ≡ suc n = omega arith in e)
        ∙ take_all (suc n) (notes_of O (suc n)) (omega (arith, length_notes O (suc n)))
        ∙ ap (notes_of O) (let e : suc n ≡ k = omega arith in e)
    go (no p) f = take-append-le k (notes_of O n) _ (omega (arith, length_notes O n)) ∙ f (omega arith)

-- Fewer diagnostics are the same if all are.
pub notes_same : (O O' : List ℕ) (n k : ℕ) → k ≤ n → notes_of O' n ≡ notes_of O n → notes_of O' k ≡ notes_of O k
notes_same O O' n k h e = sym (notes_take O' n k h) ∙ ap (take k) e ∙ notes_take O n k h

-- One diagnostic more leaves those before.
pub notes_before : (O O' : List ℕ) (n : ℕ) (z : Note) → notes_of O' (n + 1) ≡ notes_of O n ++ (z ∷ []) → notes_of O' n ≡ notes_of O n
notes_before O O' n z e = sym (notes_take O' (n + 1) n (omega arith)) ∙ ap (take n) e ∙ take_at (notes_of O n) (z ∷ []) n (length_notes O n)

-- A word that is none of theirs does not change diagnostics.
pub notes_apart : (O : List ℕ) (n i v : ℕ) → ((k : ℕ) → tallies ≤ k → k < note_at n → k ≡ i → ⊥) → notes_of (set O i v) n ≡ notes_of O n
unfolding notes_of
notes_apart O zero i v h = refl
notes_apart O (suc n) i v h =
    rw (
      notes_apart O n i v (λ k l b. h k l (omega arith)),
      get_or-set_other O i (note_at n) v 0 (h (note_at n) (omega arith) (omega arith)),
      get_or-set_other O i (note_at n + 1) v 0 (h (note_at n + 1) (omega arith) (omega arith)),
      get_or-set_other O i (note_at n + 2) v 0 (h (note_at n + 2) (omega arith) (omega arith)),
      get_or-set_other O i (note_at n + 3) v 0 (h (note_at n + 3) (omega arith) (omega arith)),
      get_or-set_other O i (note_at n + 4) v 0 (h (note_at n + 4) (omega arith) (omega arith)),
    )

notes_set : (O : List ℕ) (n i v : ℕ) → note_at n ≤ i → notes_of (set O i v) n ≡ notes_of O n
notes_set O n i v h = notes_apart O n i v (λ k l b e. omega arith)

-- The words of a record, stored from a word on.
abbrev recorded : List ℕ → ℕ → Note → List ℕ
recorded O i z = set (set (set (set (set O i z.number) (i + 1) z.first) (i + 2) z.end) (i + 3) z.other_first) (i + 4) z.other_end

-- The words that stand there then.
note_recorded : (O : List ℕ) (i : ℕ) (z : Note) → i + 4 < length O → note_from (recorded O i z) i ≡ z
note_recorded O i z h =
    let s1 = set O i z.number in
    let s2 = set s1 (i + 1) z.first in
    let s3 = set s2 (i + 2) z.end in
    let s4 = set s3 (i + 3) z.other_first in
    let l1 : length s1 ≡ length O = length-set O i z.number in
    let l2 : length s2 ≡ length O = length-set s1 (i + 1) z.first ∙ l1 in
    let l3 : length s3 ≡ length O = length-set s2 (i + 2) z.end ∙ l2 in
    let l4 : length s4 ≡ length O = length-set s3 (i + 3) z.other_first ∙ l3 in
    rw (
      get_or-set_other s4 (i + 4) i z.other_end 0 (λ e. omega arith),
      get_or-set_other s4 (i + 4) (i + 1) z.other_end 0 (λ e. omega arith),
      get_or-set_other s4 (i + 4) (i + 2) z.other_end 0 (λ e. omega arith),
      get_or-set_other s4 (i + 4) (i + 3) z.other_end 0 (λ e. omega arith),
      get_or-set_same s4 (i + 4) z.other_end 0 (omega arith),
      get_or-set_other s3 (i + 3) i z.other_first 0 (λ e. omega arith),
      get_or-set_other s3 (i + 3) (i + 1) z.other_first 0 (λ e. omega arith),
      get_or-set_other s3 (i + 3) (i + 2) z.other_first 0 (λ e. omega arith),
      get_or-set_same s3 (i + 3) z.other_first 0 (omega arith),
      get_or-set_other s2 (i + 2) i z.end 0 (λ e. omega arith),
      get_or-set_other s2 (i + 2) (i + 1) z.end 0 (λ e. omega arith),
      get_or-set_same s2 (i + 2) z.end 0 (omega arith),
      get_or-set_other s1 (i + 1) i z.first 0 (λ e. omega arith),
      get_or-set_same s1 (i + 1) z.first 0 (omega arith),
      get_or-set_same O i z.number 0 (omega arith),
    )

-- The words of a record stored behind n diagnostics are one more.
pub notes_recorded : (O : List ℕ) (n : ℕ) (z : Note) → note_at (n + 1) ≤ length O → notes_of (recorded O (note_at n) z) (n + 1) ≡ notes_of O n ++ (z ∷ [])
unfolding notes_of
notes_recorded O n z h =
    let i = note_at n in
    let s1 = set O i z.number in
    let s2 = set s1 (i + 1) z.first in
    let s3 = set s2 (i + 2) z.end in
    let s4 = set s3 (i + 3) z.other_first in
    let before : notes_of (recorded O i z) n ≡ notes_of O n =
    notes_set s4 n (i + 4) z.other_end (omega arith) ∙ notes_set s3 n (i + 3) z.other_first (omega arith) ∙ notes_set s2 n (i + 2) z.end (omega arith)
    ∙ notes_set s1 n (i + 1) z.first (omega arith) ∙ notes_set O n i z.number (omega arith) in
    ap (notes_of (recorded O i z)) (let e : n + 1 ≡ suc n = omega arith in e)
    ∙ ap₂ (λ (l : List Note) (y : Note). l ++ (y ∷ [])) before (note_recorded O i z (omega arith))

-- ---- What is laid

pub laid_none : (u m n : ℕ) (N M O : List ℕ) → Laid (was_at u m n N M O) done u m n N M O
laid_none u m n N M O =
    record {
      used_is = sym (add-zero u);
      named_is = sym (add-zero m);
      nodes_are = sym (append-nil (first_nodes N u));
      room_is = refl;
      names_are = cut_none M m;
      noted_is = omega arith;
      notes_are = refl;
    }

-- The same run but for its choices.
pub laid_as : {B : Was} {t u : Run} {used named noted : ℕ} {N M O : List ℕ} → skeleton t ≡ skeleton u → Laid B t used named noted N M O → Laid B u used named noted N M O
laid_as {B} {t} {u} {used} {named} {noted} {N} {M} {O} e d =
    record {
      used_is = d.used_is ∙ ap (λ (n : ℕ). B.used + n) (sym (under_skeleton t) ∙ ap under e ∙ under_skeleton u);
      named_is = d.named_is ∙ ap (λ (n : ℕ). B.named + n) (sym (called_skeleton t) ∙ ap called e ∙ called_skeleton u);
      nodes_are =
          d.nodes_are
          ∙ ap (λ (l : List ℕ). B.nodes ++ l)
          (sym (records_skeleton t B.used B.named 0) ∙ ap (λ (r : Run). records r B.used B.named 0) e ∙ records_skeleton u B.used B.named 0);
      room_is = d.room_is;
      names_are = d.names_are ∙ ap (λ (l : List ℕ). take B.room (B.names ++ l)) (sym (names_in_skeleton t) ∙ ap names_in e ∙ names_in_skeleton u);
      noted_is = d.noted_is;
      notes_are = d.notes_are;
    }

-- The diagnostics behind may change, if those that stood there stand.
pub laid_noted : {B : Was} {t : Run} {used named noted : ℕ} {N M O : List ℕ} (noted' : ℕ) (O' : List ℕ) → noted ≤ noted' → notes_of O' noted ≡ notes_of O noted
    → Laid B t used named noted N M O → Laid B t used named noted' N M O'
laid_noted {B} {t} {used} {named} {noted} {N} {M} {O} noted' O' h e d =
    record {
      used_is = d.used_is;
      named_is = d.named_is;
      nodes_are = d.nodes_are;
      room_is = d.room_is;
      names_are = d.names_are;
      noted_is = omega (arith, d.noted_is);
      notes_are = notes_same O O' noted B.noted d.noted_is e ∙ d.notes_are;
    }

-- One name more.
pub laid_name : {B : Was} {t : Run} {used named noted : ℕ} {N M O : List ℕ} (x : ℕ) (s M' : List ℕ) → Laid B t used named noted N M O
    → length M' ≡ length M → first_names M' (named + 1) ≡ take (length M) (first_names M named ++ (name_of x s ∷ []))
    → Laid B (t ⊕ name x s done) used (named + 1) noted N M' O
laid_name {B} {t} {used} {named} {noted} {N} {M} {O} x s M' d l e =
    let c : Run = name x s done in
    record {
      used_is = omega (arith, d.used_is, under_join t c);
      named_is = omega (arith, d.named_is, called_join t c);
      nodes_are = d.nodes_are ∙ ap (λ (y : List ℕ). B.nodes ++ y) (sym (records_join t c B.used B.named 0 ∙ append-nil (records t B.used B.named 0)));
      room_is = l ∙ d.room_is;
      names_are =
          e ∙ ap (λ (n : ℕ). take n (first_names M named ++ (name_of x s ∷ []))) d.room_is
          ∙ ap (λ (y : List ℕ). take B.room (y ++ (name_of x s ∷ []))) d.names_are
          ∙ cut_twice B.room (B.names ++ names_in t) (name_of x s ∷ [])
          ∙ ap (take B.room) (append_assoc B.names (names_in t) (name_of x s ∷ []) ∙ ap (λ (y : List ℕ). B.names ++ y) (sym (names_in_join t c)));
      noted_is = d.noted_is;
      notes_are = d.notes_are;
    }

-- What was laid since, behind names alone.
pub laid_on : {B : Was} (ss : List Spelling) {u : Run} {used named noted used' named' noted' : ℕ} {N M O N' M' O' : List ℕ}
    → Laid B (names_run ss) used named noted N M O → Laid (was_at used named noted N M O) u used' named' noted' N' M' O'
    → Laid B (names_run ss ⊕ u) used' named' noted' N' M' O'
laid_on {B} ss {u} {used} {named} {noted} {used'} {named'} {noted'} {N} {M} {O} {N'} {M'} {O'} d e =
    let t : Run = names_run ss in
    let z : under t ≡ 0 = under_names ss in
    let same : used ≡ B.used = omega (arith, d.used_is) in
    record {
      used_is = omega (arith, d.used_is, e.used_is, under_join t u);
      named_is = omega (arith, d.named_is, e.named_is, called_join t u);
      nodes_are =
          e.nodes_are
          ∙ ap (λ (y : List ℕ). y ++ records u used named 0) (d.nodes_are ∙ ap (λ (y : List ℕ). B.nodes ++ y) (records_names ss B.used B.named 0) ∙ append-nil B.nodes)
          ∙ ap (λ (y : List ℕ). B.nodes ++ y)
          (ap₂ (λ (i j : ℕ). records u i j 0) d.used_is d.named_is
          ∙ ap (λ (y : List ℕ). y ++ records u (B.used + under t) (B.named + called t) 0) (sym (records_names ss B.used B.named (first_kid u (B.used + under t) 0)))
          ∙ sym (records_join t u B.used B.named 0));
      room_is = e.room_is ∙ d.room_is;
      names_are =
          e.names_are ∙ ap (λ (n : ℕ). take n (first_names M named ++ names_in u)) d.room_is
          ∙ ap (λ (y : List ℕ). take B.room (y ++ names_in u)) d.names_are
          ∙ cut_twice B.room (B.names ++ names_in t) (names_in u)
          ∙ ap (take B.room) (append_assoc B.names (names_in t) (names_in u) ∙ ap (λ (y : List ℕ). B.names ++ y) (sym (names_in_join t u)));
      noted_is = omega (arith, d.noted_is, e.noted_is);
      notes_are = notes_same O O' noted B.noted d.noted_is e.notes_are ∙ d.notes_are;
    }

-- What was laid since is given back, its diagnostics too or not: all below stands.
pub laid_back : {B : Was} {t u : Run} {used named noted used' named' noted' : ℕ} {N M O N' M' O' : List ℕ} (kept : ℕ) → noted ≤ kept → 4 * used ≤ length N
    → Laid B t used named noted N M O → Laid (was_at used named noted N M O) u used' named' noted' N' M' O'
    → Laid B t used named kept N' M' O'
laid_back {B} {t} {u} {used} {named} {noted} {used'} {named'} {noted'} {N} {M} {O} {N'} {M'} {O'} kept k h d e =
    record {
      used_is = d.used_is;
      named_is = d.named_is;
      nodes_are = nodes_back N N' (records u used named 0) used used' h (omega (arith, e.used_is)) e.nodes_are ∙ d.nodes_are;
      room_is = e.room_is ∙ d.room_is;
      names_are = names_back named named' M M' (names_in u) (omega (arith, e.named_is)) e.names_are ∙ d.names_are;
      noted_is = omega (arith, d.noted_is);
      notes_are = notes_same O O' noted B.noted d.noted_is e.notes_are ∙ d.notes_are;
    }
