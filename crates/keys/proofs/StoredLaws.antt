-- How the outputs grow: by a choice, a name, a child, a finished node.
use mathlib.Core.Path.{◌≡◌, refl, sym, ap, ap₂, ◌∙◌, subst}
use mathlib.Core.List.{List, [], ◌∷◌, ◌++◌, append_assoc, append-nil}
use Prim.Native.Nat.{ℕ, ◌+◌, ◌-◌, ◌*◌, ◌^◌, ◌≤◌, ◌<◌}
use native.Mathlib.Nat.{add-zero}
use native.Mathlib.Omega.{arith}
use lib.ListN.{length, take, set, length-append}
use lib.Seq.{take-set-lt, set_at, length-take-le, take-take, take_at}
use Rattle.keys.specs.Limits.{half_word}
use Rattle.keys.specs.Store.{Run, done, chose, name, kid, under, called, packed, first_kid, record_of, records, name_of, names_in, ◌⊕◌, span}
use Rattle.keys.proofs.StoreLaws.{join_done, under_join, called_join, span_join, packed_join, first_kid_join, records_join, names_in_join}
use Rattle.keys.specs.Words.{first_nodes, first_names}
use Rattle.keys.specs.Stored.{letters_in, Base, base, Stored, Own}

pub letters_join : (a r : Run) → letters_in (a ⊕ r) ≡ letters_in a ++ letters_in r
letters_join done r = refl
letters_join (chose w k a) r = letters_join a r
letters_join (name x s a) r = ap (λ (l : List ℕ). s ++ l) (letters_join a r) ∙ sym (append_assoc s (letters_in a) (letters_in r))
letters_join (kid f e b a) r = ap (λ (l : List ℕ). letters_in b ++ l) (letters_join a r) ∙ sym (append_assoc (letters_in b) (letters_in a) (letters_in r))

-- ---- The last child's next sibling is the last word

data Ends (t : Run) (b m : ℕ) : Type 0 where
  no_kid : under t ≡ 0 → ((n : ℕ) → records t b m n ≡ []) → ((n : ℕ) → first_kid t b n ≡ n) → Ends t b m
  some_kid : 0 < under t → (l : List ℕ) → ((n : ℕ) → records t b m n ≡ l ++ (n ∷ [])) → ((n o : ℕ) → first_kid t b n ≡ first_kid t b o) → Ends t b m

ends : (t : Run) (b m : ℕ) → Ends t b m
ends done b m = no_kid refl (λ n. refl) (λ n. refl)
ends (chose w k t) b m = by (ends t b m)
  where
    by : Ends t b m → Ends (chose w k t) b m
    by (no_kid a f g) = no_kid a f g
    by (some_kid a l f g) = some_kid a l f g
ends (name x s t) b m = by (ends t b (m + 1))
  where
    by : Ends t b (m + 1) → Ends (name x s t) b m
    by (no_kid a f g) = no_kid a f g
    by (some_kid a l f g) = some_kid a l f g
ends (kid p q a t) b m = by (ends t (b + under a + 1) (m + called a))
  where
    by : Ends t (b + under a + 1) (m + called a) → Ends (kid p q a t) b m
    by (no_kid z f g) =
        some_kid (omega arith) (records a b m 0 ++ take 3 (record_of p q a b m 0))
        (λ n. ap₂ (λ (x : ℕ) (y : List ℕ). (records a b m 0 ++ record_of p q a b m x) ++ y) (g n) (f n) ∙ append-nil (records a b m 0 ++ record_of p q a b m n)
        ∙ sym (append_assoc (records a b m 0) (take 3 (record_of p q a b m 0)) (n ∷ []))) (λ n o. refl)
    by (some_kid z l f g) =
        some_kid (omega arith) ((records a b m 0 ++ record_of p q a b m (first_kid t (b + under a + 1) 0)) ++ l)
        (λ n. ap₂ (λ (x : ℕ) (y : List ℕ). (records a b m 0 ++ record_of p q a b m x) ++ y) (g n 0) (f n)
        ∙ sym (append_assoc (records a b m 0 ++ record_of p q a b m (first_kid t (b + under a + 1) 0)) l (n ∷ []))) (λ n o. refl)

-- ---- Nothing, a choice, a name

pub stored_none : (N M X : List ℕ) (u m x : ℕ) → Stored (base N M X u m x) done N M X u m x
stored_none N M X u m x =
    record {
      used = sym (add-zero u);
      named = sym (add-zero m);
      chars = sym (add-zero x);
      nodes_are = sym (append-nil (first_nodes N u));
      names_are = sym (append-nil (first_names M m));
      text_is = sym (append-nil (take x X));
    }

pub stored_same : {B : Base} {t : Run} {N M X : List ℕ} {u m x : ℕ} → Stored B t N M X u m x → Stored B (t ⊕ done) N M X u m x
stored_same {B} {t} {N} {M} {X} {u} {m} {x} d = subst (λ (y : Run). Stored B y N M X u m x) (sym (join_done t)) d

pub own_same : {B : Base} {t : Run} {a b c : ℕ} → Own B t a b c → Own B (t ⊕ done) a b c
own_same {B} {t} {a} {b} {c} o = subst (λ (y : Run). Own B y a b c) (sym (join_done t)) o

zero_out : (x p : ℕ) → x ≡ x + p * 0
zero_out x p = omega arith

pub stored_choice : {B : Base} {t : Run} {N M X : List ℕ} {u m x : ℕ} (w k : ℕ) → Stored B t N M X u m x → Stored B (t ⊕ chose w k done) N M X u m x
stored_choice {B} {t} {N} {M} {X} {u} {m} {x} w k d =
    let c : Run = chose w k done in
    record {
      used = omega (arith, d.used, under_join t c);
      named = omega (arith, d.named, called_join t c);
      chars = d.chars ∙ ap (λ (y : List ℕ). B.chars + length y) (sym (letters_join t c ∙ append-nil (letters_in t)));
      nodes_are = d.nodes_are ∙ ap (λ (y : List ℕ). B.nodes ++ y) (sym (records_join t c B.used B.named 0 ∙ append-nil (records t B.used B.named 0)));
      names_are = d.names_are ∙ ap (λ (y : List ℕ). B.names ++ y) (sym (names_in_join t c ∙ append-nil (names_in t)));
      text_is = d.text_is ∙ ap (λ (y : List ℕ). B.text ++ y) (sym (letters_join t c ∙ append-nil (letters_in t)));
    }

pub own_choice : {B : Base} {t : Run} {word shift child : ℕ} (w k : ℕ) → Own B t word shift child → Own B (t ⊕ chose w k done) (word + 2 ^ shift * k) (shift + w) child
own_choice {B} {t} {word} {shift} {child} w k d =
    record {
      word_is =
          ap₂ (λ (x y : ℕ). x + 2 ^ y * k) d.word_is d.shift_is ∙ ap (λ (x : ℕ). packed t + 2 ^ span t * x) (zero_out k (2 ^ w))
          ∙ sym (packed_join t (chose w k done));
      shift_is = omega (arith, d.shift_is, span_join t (chose w k done));
      child_is = d.child_is ∙ sym (first_kid_join t (chose w k done) B.used 0);
    }

pub stored_name : {B : Base} {t : Run} {N M X : List ℕ} {u m x : ℕ} (s M' X' : List ℕ) → Stored B t N M X u m x
    → first_names M' (m + 1) ≡ first_names M m ++ (name_of x s ∷ []) → take (x + length s) X' ≡ take x X ++ s
    → Stored B (t ⊕ name x s done) N M' X' u (m + 1) (x + length s)
stored_name {B} {t} {N} {M} {X} {u} {m} {x} s M' X' d e f =
    let c : Run = name x s done in
    record {
      used = omega (arith, d.used, under_join t c);
      named = omega (arith, d.named, called_join t c);
      chars = omega (arith, d.chars, ap length (letters_join t c), length-append (letters_in t) (s ++ []), length-append s []);
      nodes_are = d.nodes_are ∙ ap (λ (y : List ℕ). B.nodes ++ y) (sym (records_join t c B.used B.named 0 ∙ append-nil (records t B.used B.named 0)));
      names_are =
          e ∙ ap (λ (y : List ℕ). y ++ (name_of x s ∷ [])) d.names_are ∙ append_assoc B.names (names_in t) (name_of x s ∷ [])
          ∙ ap (λ (y : List ℕ). B.names ++ y) (sym (names_in_join t c));
      text_is =
          f ∙ ap (λ (y : List ℕ). y ++ s) d.text_is ∙ append_assoc B.text (letters_in t) s
          ∙ ap (λ (y : List ℕ). B.text ++ y) (sym (letters_join t c ∙ ap (λ (y : List ℕ). letters_in t ++ y) (append-nil s)));
    }

pub own_name : {B : Base} {t : Run} {word shift child : ℕ} (x : ℕ) (s : List ℕ) → Own B t word shift child → Own B (t ⊕ name x s done) word shift child
own_name {B} {t} {word} {shift} {child} x s d =
    record {
      word_is = d.word_is ∙ zero_out (packed t) (2 ^ span t) ∙ sym (packed_join t (name x s done));
      shift_is = omega (arith, d.shift_is, span_join t (name x s done));
      child_is = d.child_is ∙ sym (first_kid_join t (name x s done) B.used 0);
    }

-- ---- A child

-- The last child's next is set, below the words of one more child.
relink : (s P l F : List ℕ) (u m r : ℕ) → 1 ≤ u → u ≤ m → 4 * m ≤ length s
    → P ++ (l ++ (0 ∷ [])) ≡ take (4 * u) s → take (4 * m) s ≡ (P ++ (l ++ (0 ∷ []))) ++ F
    → take (4 * m) (set s (4 * (u - 1) + 3) r) ≡ (P ++ (l ++ (r ∷ []))) ++ F
relink s P l F u m r h1 h2 h3 e1 e2 =
    let len : length P + (length l + 1) ≡ 4 * u = simp length-append at (ap length e1 ∙ length-take-le (4 * u) s (omega arith)) in
    let p : length (P ++ l) ≡ 4 * (u - 1) + 3 = simp length-append (omega arith) in
    take-set-lt (4 * m) s (4 * (u - 1) + 3) r (omega arith)
    ∙ ap (λ (x : List ℕ). set x (4 * (u - 1) + 3) r) (e2 ∙ (simp append_assoc) ∙ sym (append_assoc P l (0 ∷ F)))
    ∙ set_at (P ++ l) 0 F r (4 * (u - 1) + 3) p
    ∙ simp append_assoc

module _ {B : Base} {first end : ℕ} {t a : Run} {N M X N' M' X' : List ℕ} {u m x u' m' x' : ℕ} (d : Stored B t N M X u m x)
    (e : Stored (base N M X u m x) (kid first end a done) N' M' X' u' m' x') where
  abbrev k : Run
  k = kid first end a done

  names_kid : first_names M' m' ≡ B.names ++ names_in (t ⊕ k)
  names_kid =
      e.names_are ∙ ap (λ (y : List ℕ). y ++ names_in k) d.names_are ∙ append_assoc B.names (names_in t) (names_in k)
      ∙ ap (λ (y : List ℕ). B.names ++ y) (sym (names_in_join t k))

  text_kid : take x' X' ≡ B.text ++ letters_in (t ⊕ k)
  text_kid =
      e.text_is ∙ ap (λ (y : List ℕ). y ++ letters_in k) d.text_is ∙ append_assoc B.text (letters_in t) (letters_in k)
      ∙ ap (λ (y : List ℕ). B.text ++ y) (sym (letters_join t k))

  used_kid : u' ≡ B.used + under (t ⊕ k)
  used_kid = omega (arith, e.used, d.used, under_join t k)

  named_kid : m' ≡ B.named + called (t ⊕ k)
  named_kid = omega (arith, e.named, d.named, called_join t k)

  chars_kid : x' ≡ B.chars + length (letters_in (t ⊕ k))
  chars_kid = omega (arith, e.chars, d.chars, ap length (letters_join t k), length-append (letters_in t) (letters_in k))

  root : B.used + under t + under a ≡ u' - 1
  root = omega (arith, e.used, d.used)

  both_records : (n : ℕ) → n ≡ u' - 1 → (B.nodes ++ records t B.used B.named n) ++ records k u m 0 ≡ B.nodes ++ records (t ⊕ k) B.used B.named 0
  both_records n q =
      append_assoc B.nodes (records t B.used B.named n) (records k u m 0)
      ∙ ap (λ (y : List ℕ). B.nodes ++ y)
      (ap₂ (λ (y z : ℕ). records t B.used B.named n ++ records k y z 0) d.used d.named
      ∙ ap (λ (y : ℕ). records t B.used B.named y ++ records k (B.used + under t) (B.named + called t) 0) (q ∙ sym root)
      ∙ sym (records_join t k B.used B.named 0))

  pub kid_first : u ≡ B.used → Stored B (t ⊕ kid first end a done) N' M' X' u' m' x'
  kid_first z = record { used = used_kid; named = named_kid; chars = chars_kid; nodes_are = by (ends t B.used B.named); names_are = names_kid; text_is = text_kid }
    where
      by : Ends t B.used B.named → first_nodes N' u' ≡ B.nodes ++ records (t ⊕ k) B.used B.named 0
      by (no_kid _ f g) =
          e.nodes_are ∙ ap (λ (y : List ℕ). y ++ records k u m 0) (d.nodes_are ∙ ap (λ (y : List ℕ). B.nodes ++ y) (f 0 ∙ sym (f (u' - 1)))) ∙ both_records (u' - 1) refl
      by (some_kid p l f g) = absurd (omega (arith, d.used))

  linked_words : B.used < u → 4 * u' ≤ length N' → length N ≡ length N' → Ends t B.used B.named
      → first_nodes (set N' (4 * (u - 1) + 3) (u' - 1)) u' ≡ B.nodes ++ records (t ⊕ k) B.used B.named 0
  unfolding first_nodes
  linked_words z len same (no_kid p f g) = absurd (omega (arith, d.used))
  linked_words z len same (some_kid p l f g) =
      let w : take (4 * u) N ≡ B.nodes ++ (l ++ (0 ∷ [])) = d.nodes_are ∙ ap (λ (y : List ℕ). B.nodes ++ y) (f 0) in
      let v : take (4 * u') N' ≡ (B.nodes ++ (l ++ (0 ∷ []))) ++ records k u m 0 = e.nodes_are ∙ ap (λ (y : List ℕ). y ++ records k u m 0) w in
      let lower : u ≤ u' = omega (arith, e.used) in
      let y : B.nodes ++ (l ++ (0 ∷ [])) ≡ take (4 * u) N' =
      sym (sym (take-take (4 * u) (4 * u') N' (omega arith)) ∙ ap (take (4 * u)) v
      ∙ take_at (B.nodes ++ (l ++ (0 ∷ []))) (records k u m 0) (4 * u) (sym (ap length w) ∙ length-take-le (4 * u) N (omega arith))) in
      relink N' B.nodes l (records k u m 0) u u' (u' - 1) (omega arith) lower len y v
      ∙ ap (λ (q : List ℕ). (B.nodes ++ q) ++ records k u m 0) (sym (f (u' - 1))) ∙ both_records (u' - 1) refl

  pub kid_next : B.used < u → 4 * u' ≤ length N' → length N ≡ length N' → Stored B (t ⊕ kid first end a done) (set N' (4 * (u - 1) + 3) (u' - 1)) M' X' u' m' x'
  kid_next z len same =
      record { used = used_kid; named = named_kid; chars = chars_kid; nodes_are = linked_words z len same (ends t B.used B.named); names_are = names_kid; text_is = text_kid }

  module _ {word shift child : ℕ} (o : Own B t word shift child) where
    own_kid : (c : ℕ) → c ≡ first_kid (t ⊕ k) B.used 0 → Own B (t ⊕ kid first end a done) word shift c
    own_kid c i =
        record {
          word_is = o.word_is ∙ zero_out (packed t) (2 ^ span t) ∙ sym (packed_join t k);
          shift_is = omega (arith, o.shift_is, span_join t k);
          child_is = i;
        }

    pub own_first : u ≡ B.used → Own B (t ⊕ kid first end a done) word shift (u' - 1)
    own_first z = own_kid (u' - 1) (by (ends t B.used B.named))
      where
        by : Ends t B.used B.named → u' - 1 ≡ first_kid (t ⊕ k) B.used 0
        by (no_kid _ f g) = sym (first_kid_join t k B.used 0 ∙ g (B.used + under t + under a) ∙ root)
        by (some_kid p l f g) = absurd (omega (arith, d.used))

    pub own_next : B.used < u → Own B (t ⊕ kid first end a done) word shift child
    own_next z = own_kid child (by (ends t B.used B.named))
      where
        by : Ends t B.used B.named → child ≡ first_kid (t ⊕ k) B.used 0
        by (no_kid p f g) = absurd (omega (arith, d.used))
        by (some_kid p l f g) = o.child_is ∙ g 0 (B.used + under t + under a) ∙ sym (first_kid_join t k B.used 0)

-- ---- A finished node

pub stored_node : (first end : ℕ) {B : Base} {t : Run} {N M X : List ℕ} {u m x word shift child : ℕ} (N' : List ℕ) → Stored B t N M X u m x → Own B t word shift child
    → first_nodes N' (u + 1) ≡ first_nodes N u ++ (word ∷ (first + half_word * end) ∷ (child + half_word * B.named) ∷ 0 ∷ [])
    → Stored B (kid first end t done) N' M X (u + 1) m x
stored_node first end {B} {t} {N} {M} {X} {u} {m} {x} {word} {shift} {child} N' d o e =
    let r : List ℕ = records t B.used B.named 0 in
    record {
      used = omega (arith, d.used);
      named = omega (arith, d.named);
      chars = omega (arith, d.chars, length-append (letters_in t) []);
      nodes_are =
          e ∙ ap (λ (y : List ℕ). y ++ (word ∷ (first + half_word * end) ∷ (child + half_word * B.named) ∷ 0 ∷ [])) d.nodes_are
          ∙ append_assoc B.nodes r (word ∷ (first + half_word * end) ∷ (child + half_word * B.named) ∷ 0 ∷ [])
          ∙ ap₂ (λ (y z : ℕ). B.nodes ++ (r ++ (y ∷ (first + half_word * end) ∷ (z + half_word * B.named) ∷ 0 ∷ []))) o.word_is o.child_is
          ∙ ap (λ (y : List ℕ). B.nodes ++ y) (sym (append-nil (r ++ record_of first end t B.used B.named 0)));
      names_are = d.names_are ∙ ap (λ (y : List ℕ). B.names ++ y) (sym (append-nil (names_in t)));
      text_is = d.text_is ∙ ap (λ (y : List ℕ). B.text ++ y) (sym (append-nil (letters_in t)));
    }
