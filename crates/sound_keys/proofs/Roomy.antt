-- Where there is room enough, taking a key back and reading it come to the same.
use mathlib.Core.Path.{◌≡◌, refl, sym, ap, ap₂, ◌∙◌, subst}
use mathlib.Core.Bool.{Bool, true, false}
use mathlib.Core.List.{List, ◌++◌, append_assoc}
use Prim.Native.Nat.{ℕ, zero, suc, ◌+◌, ◌-◌, ◌*◌, ◌≤◌, ◌<◌}
use native.Mathlib.Omega.{arith}
use borrow.Author.Tests.{le-leb}
use lib.Dec.{leb, eqb}
use lib.ListN.{length, drop, length-append, length-drop}
use lib.Seq.{drop_at, drop-drop}
use Rattle.keys.specs.Bits.{Bits, bits_of, Field, short, field, take_field, bits_of_bytes, Row, cut, row, take_bytes}
use Rattle.keys.proofs.BitsLaws.{clash, length_bits, length_bytes, take_back_lem, bytes_back, Written, Spelled}
use Rattle.keys.specs.Form.{Value, nothing, spelt, choice, pair, node, Form, never, one, word, choose, both, child, Grammar, is_never, width, branch, left, right, write, State, state, Result, got, stop, stop_at, into, and_then, allowed, if_whole, take_choice, keep, take_letters, take_length, take_spelling, take_room, take_form, take_node}
use Rattle.keys.specs.Limits.{bad_key, too_tall, no_space}
use Rattle.differs.specs.Content.{Content, ends, chooses, spells, content}
use Rattle.sound_keys.specs.Sound.{Scan, reads, fails, ◌⊕◌, after, then_read, as_node, read_allowed, read_whole, read_letters, read_length, read_choice, read_spelling, read_form, read_node}

-- Room for what the bits may hold; d is 1 where a node was counted before its first bit.
pub record Roomy (d : ℕ) (s : State) : Type 0 where
  pub nodes : length s.bits < s.nodes_left + d
  pub names : length s.bits ≤ s.names_left
  pub text : length s.bits ≤ s.text_left * 8

-- A form that begins with a bit.
pub data Eager : Form → Type 0 where
  eager_never : Eager never
  eager_word : {w : ℕ} → Eager (word w)
  eager_choose : {w x : ℕ} {fs : ℕ → Form} → 1 ≤ w → Eager (choose w x fs)
  eager_both : {f g : Form} → Eager f → Eager (both f g)

-- A content and what follows it.
content_join : (G : Grammar) (f : Form) (v : Value) (a : ℕ) (c d : Content) → content G f v a c ⊕ d ≡ content G f v a (c ⊕ d)
content_join G f nothing a c d = refl
content_join G f (spelt s) a c d = refl
content_join G f (choice k v) a c d = ap (chooses k) (content_join G (branch f k) v (a + width f) c d)
content_join G f (pair v w) a c d =
    content_join G (left f) v a (content G (right f) w (a + length (write G (left f) v)) c) d
    ∙ ap (content G (left f) v a) (content_join G (right f) w (a + length (write G (left f) v)) c d)
content_join G f (node t v) a c d = refl

module _ (all : Bits) (G : Grammar) where
  -- The state stands at a bit.
  pub record At (a : ℕ) (s : State) : Type 0 where
    pub bits : s.bits ≡ drop a all
    pub in_key : a ≤ length all

  -- Taking and reading come to the same, and there is room enough left.
  pub data Same (f : Form) (a : ℕ) (x : Result) (y : Scan) : Type 0 where
    same_got : (v : Value) (s : State) (e : ℕ) → x ≡ got v s → y ≡ reads (content G f v a ends) e → e ≡ a + length (write G f v) → At e s → Roomy 0 s → Same f a x y
    same_stop : (n b : ℕ) → x ≡ stop n (length all - b) → y ≡ fails n b → b ≤ length all → eqb n no_space ≡ false → Same f a x y

  module _ {a : ℕ} {s : State} (h : At a s) where
    size : length s.bits ≡ length all - a
    size = ap length h.bits ∙ length-drop a all

    stops : (f : Form) (n : ℕ) → eqb n no_space ≡ false → Same f a (stop_at n s) (fails n a)
    stops f n z = same_stop n a (ap (stop n) size) refl h.in_key z

    -- Behind bits that were taken.
    further : (p q : Bits) → s.bits ≡ p ++ q → (e : ℕ) → e ≡ a + length p → (q ≡ drop e all) × (e ≤ length all)
    further p q i e j =
        let l : length s.bits ≡ length p + length q = ap length i ∙ length-append p q in
        let k : length p + a ≡ e = omega arith in (
          sym (drop_at p q (length p) refl) ∙ ap (drop (length p)) (sym i ∙ h.bits) ∙ drop-drop (length p) a all ∙ ap (λ (x : ℕ). drop x all) (let z : a + length p ≡ e = sym j in z),
          omega (arith, size, h.in_key),
        )

    -- A choice.
    choice_by : (P : Result → Scan → Type 0) (w : ℕ) (fs : ℕ → Form) (K : ℕ → Bits → Result) (K' : ℕ → Scan) → P (stop_at bad_key s) (fails bad_key a)
        → ((t : ℕ) (r : Bits) → Written w t s.bits r → P (K t r) (K' t)) → P (take_choice w fs s K) (read_choice all w fs a K')
    choice_by P w fs K K' z k =
        subst (λ (x : Bits). P (take_choice w fs s K) (read_whole a fs K' (take_field w x))) h.bits (whole (take_field w s.bits) refl)
      where
        known : (t : ℕ) (r : Bits) → take_field w s.bits ≡ field t r → (b : Bool) → P (allowed s K t r b) (read_allowed a K' t b)
        known t r i true = z
        known t r i false = k t r (take_back_lem w t s.bits r i)

        whole : (x : Field) → take_field w s.bits ≡ x → P (if_whole s fs K x) (read_whole a fs K' x)
        whole short i = z
        whole (field t r) i = known t r i (is_never (fs t))

    -- A spelling.
    same_word : (w : ℕ) → Roomy 1 s → Same (word w) a (take_spelling w s) (read_spelling all w a)
    same_word w n = subst (λ (x : Bits). Same (word w) a (take_spelling w s) (read_length w a (take_field w x))) h.bits (long (take_field w s.bits) refl)
      where
        bad : Same (word w) a (stop_at bad_key s) (fails bad_key a)
        bad = stops (word w) bad_key refl

        kept : (m : ℕ) (r : Bits) → Written w (suc m) s.bits r → (t : List ℕ) (q : Bits) → Spelled (suc m) t r q → (b : Bool) → leb (length t) s.text_left ≡ b → (k : ℕ) → s.names_left ≡ k
            → Same (word w) a (keep s t q b k) (reads (spells a t ends) (a + w + suc m * 8))
        kept m r i t q j b o k u =
            by b o k u
          where
            whole : s.bits ≡ (bits_of w (suc m) ++ bits_of_bytes t) ++ q
            whole = i.bits ∙ ap (λ (x : Bits). bits_of w (suc m) ++ x) j.bits ∙ sym (append_assoc (bits_of w (suc m)) (bits_of_bytes t) q)

            few : length (bits_of w (suc m) ++ bits_of_bytes t) ≡ w + suc m * 8
            few = length-append (bits_of w (suc m)) (bits_of_bytes t) ∙ ap₂ ◌+◌ (length_bits w (suc m)) (length_bytes t ∙ ap (λ (x : ℕ). x * 8) j.size)

            total : length s.bits ≡ w + suc m * 8 + length q
            total = ap length whole ∙ length-append (bits_of w (suc m) ++ bits_of_bytes t) q ∙ ap (λ (x : ℕ). x + length q) few

            by : (b : Bool) → leb (length t) s.text_left ≡ b → (k : ℕ) → s.names_left ≡ k → Same (word w) a (keep s t q b k) (reads (spells a t ends) (a + w + suc m * 8))
            by false o k u = clash (cc (sym o ∙ le-leb (length t) s.text_left (omega (arith, total, n.text, j.size))))
            by true o zero u = absurd (omega (arith, total, n.names))
            by true o (suc k) u =
                let f = further (bits_of w (suc m) ++ bits_of_bytes t) q whole (a + w + suc m * 8) (omega (arith, few)) in
                same_got (spelt t) (state s.nodes_left k (s.text_left - length t) q) (a + w + suc m * 8) refl refl
                (omega (arith, length-append (bits_of w (length t)) (bits_of_bytes t), length_bits w (length t), length_bytes t, j.size))
                (record { bits = f.0; in_key = f.1 })
                (record { nodes = omega (arith, total, n.nodes); names = omega (arith, total, n.names); text = omega (arith, total, n.text, j.size) })

        letters : (m : ℕ) (r : Bits) → Written w (suc m) s.bits r → (x : Row) → take_bytes (suc m) r ≡ x → Same (word w) a (take_letters s x) (read_letters a (a + w + suc m * 8) x)
        letters m r i cut o = bad
        letters m r i (row t q) o = kept m r i t q (bytes_back (suc m) r t q o) (leb (length t) s.text_left) refl s.names_left refl

        long : (x : Field) → take_field w s.bits ≡ x → Same (word w) a (take_length s x) (read_length w a x)
        long short i = bad
        long (field zero r) i = bad
        long (field (suc m) r) i = letters m r (take_back_lem w (suc m) s.bits r i) (take_bytes (suc m) r) refl

    -- The state behind a field.
    past_field : (w t : ℕ) (r : Bits) → Written w t s.bits r → (n k m : ℕ) → At (a + w) (state n k m r)
    past_field w t r i n k m =
        let f = further (bits_of w t) r i.bits (a + w) (ap (λ (x : ℕ). a + x) (sym (length_bits w t))) in
        record { bits = f.0; in_key = f.1 }

    field_size : (w t : ℕ) (r : Bits) → Written w t s.bits r → length s.bits ≡ w + length r
    field_size w t r i = ap length i.bits ∙ length-append (bits_of w t) r ∙ ap (λ (x : ℕ). x + length r) (length_bits w t)

  -- A choice and what it leads to.
  into_choice : (w : ℕ) {z : ℕ} (fs : ℕ → Form) (a t : ℕ) {x : Result} {y : Scan} → Same (fs t) (a + w) x y → Same (choose w z fs) a (into (choice t) x) (after (chooses t ends) y)
  into_choice w fs a t (same_got v s e i j k p n) =
      same_got (choice t v) s e (ap (into (choice t)) i) (ap (after (chooses t ends)) j)
      (omega (arith, k, length-append (bits_of w t) (write G (fs t) v), length_bits w t)) p n
  into_choice w fs a t (same_stop n b i j l z) = same_stop n b (ap (into (choice t)) i) (ap (after (chooses t ends)) j) l z

  into_node : (c a t : ℕ) {x : Result} {y : Scan} → Same (G.row c t) (a + G.tag_width c) x y → Same (child c) a (into (node t) x) (as_node a (after (chooses t ends) y))
  into_node c a t (same_got v s e i j k p n) =
      same_got (node t v) s e (ap (into (node t)) i) (ap (λ (o : Scan). as_node a (after (chooses t ends) o)) j)
      (omega (arith, k, length-append (bits_of (G.tag_width c) t) (write G (G.row c t) v), length_bits (G.tag_width c) t)) p n
  into_node c a t (same_stop n b i j l z) = same_stop n b (ap (into (node t)) i) (ap (λ (o : Scan). as_node a (after (chooses t ends) o)) j) l z

  then_both : (f g : Form) (a : ℕ) {x : Result} {y : Scan} (K : State → Result) (K' : ℕ → Scan) → Same f a x y
      → ((s : State) (e : ℕ) → At e s → Roomy 0 s → Same g e (K s) (K' e)) → Same (both f g) a (and_then x λ v s. into (pair v) (K s)) (then_read y K')
  then_both f g a K K' (same_stop n b i j l z) k = same_stop n b (ap (λ (x : Result). and_then x λ v s. into (pair v) (K s)) i) (ap (λ (y : Scan). then_read y K') j) l z
  then_both f g a {x} {y} K K' (same_got v s e i j l p n) k = by (k s e p n)
    where
      by : Same g e (K s) (K' e) → Same (both f g) a (and_then x λ v s. into (pair v) (K s)) (then_read y K')
      by (same_stop m b i' j' l' z) =
          same_stop m b (ap (λ (r : Result). and_then r λ v s. into (pair v) (K s)) i ∙ ap (into (pair v)) i')
          (ap (λ (o : Scan). then_read o K') j ∙ ap (after (content G f v a ends)) j') l' z
      by (same_got w s' e' i' j' l' p' n') =
          same_got (pair v w) s' e' (ap (λ (r : Result). and_then r λ u q. into (pair u) (K q)) i ∙ ap (into (pair v)) i')
          (ap (λ (o : Scan). then_read o K') j ∙ ap (after (content G f v a ends)) j'
          ∙ ap (λ (c : Content). reads c e') (content_join G f v a ends (content G g w e ends) ∙ ap (λ (o : ℕ). content G f v a (content G g w o ends)) l))
          (omega (arith, l, l', length-append (write G f v) (write G g w))) p' n'

  module _ (X : ℕ → State → Result) (Y : ℕ → ℕ → Scan) (nodes : (c : ℕ) (s : State) (a : ℕ) → At a s → Roomy 0 s → Same (child c) a (X c s) (Y c a)) where
    same_form : (f : Form) (s : State) (a : ℕ) → At a s → Roomy 0 s → Same f a (take_form X f s) (read_form all Y f a)
    same_form never s a h n = stops h never bad_key refl
    same_form one s a h n = same_got nothing s a refl refl (omega arith) h n
    same_form (word w) s a h n = same_word h w (record { nodes = omega (arith, n.nodes); names = n.names; text = n.text })
    same_form (choose w x fs) s a h n =
        choice_by h (Same (choose w x fs) a) w fs _ _ (stops h (choose w x fs) bad_key refl)
        λ t r i. into_choice w fs a t
        (same_form (fs t) (state s.nodes_left s.names_left s.text_left r) (a + w) (past_field h w t r i s.nodes_left s.names_left s.text_left)
        (record { nodes = omega (arith, field_size h w t r i, n.nodes); names = omega (arith, field_size h w t r i, n.names); text = omega (arith, field_size h w t r i, n.text) }))
    same_form (both f g) s a h n = then_both f g a (λ q. take_form X g q) (λ e. read_form all Y g e) (same_form f s a h n) (λ q e i m. same_form g q e i m)
    same_form (child c) s a h n = nodes c s a h n

    -- The same where a node was counted before its first bit.
    same_eager : {f : Form} → Eager f → (s : State) (a : ℕ) → At a s → Roomy 1 s → Same f a (take_form X f s) (read_form all Y f a)
    same_eager eager_never s a h n = stops h never bad_key refl
    same_eager (eager_word {w = w}) s a h n = same_word h w n
    same_eager (eager_choose {w = w} {x = x} {fs = fs} l) s a h n =
        choice_by h (Same (choose w x fs) a) w fs _ _ (stops h (choose w x fs) bad_key refl)
        λ t r i. into_choice w fs a t
        (same_form (fs t) (state s.nodes_left s.names_left s.text_left r) (a + w) (past_field h w t r i s.nodes_left s.names_left s.text_left)
        (record { nodes = omega (arith, field_size h w t r i, n.nodes); names = omega (arith, field_size h w t r i, n.names); text = omega (arith, field_size h w t r i, n.text) }))
    same_eager (eager_both {f = f} {g = g} l) s a h n = then_both f g a (λ q. take_form X g q) (λ e. read_form all Y g e) (same_eager l s a h n) (λ q e i m. same_form g q e i m)

  module _ (eager : (c t : ℕ) → G.tag_width c ≡ 0 → Eager (G.row c t)) where
    -- A node.
    pub same_node : (high c : ℕ) (s : State) (a : ℕ) → At a s → Roomy 0 s → Same (child c) a (take_node G high c s) (read_node all G high c a)
    same_node zero c s a h n =
        choice_by h (Same (child c) a) (G.tag_width c) (G.row c) _ _ (stops h (child c) bad_key refl) λ t r i. stops h (child c) too_tall refl
    same_node (suc high) c s a h n =
        choice_by h (λ (x : Result) (y : Scan). Same (child c) a x (as_node a y)) (G.tag_width c) (G.row c) _ _ (stops h (child c) bad_key refl)
        λ t r i. room t r i (λ c₁ s₁ a₁ h₁ n₁. same_node high c₁ s₁ a₁ h₁ n₁) s.nodes_left refl
      where
        inner : (t : ℕ) (r : Bits) → Written (G.tag_width c) t s.bits r → ((c₁ : ℕ) (s₁ : State) (a₁ : ℕ) → At a₁ s₁ → Roomy 0 s₁ → Same (child c₁) a₁ (take_node G high c₁ s₁) (read_node all G high c₁ a₁))
            → (m : ℕ) → s.nodes_left ≡ suc m → (w : ℕ) → G.tag_width c ≡ w
            → Same (G.row c t) (a + G.tag_width c) (take_form (take_node G high) (G.row c t) (state m s.names_left s.text_left r)) (read_form all (read_node all G high) (G.row c t) (a + G.tag_width c))
        inner t r i ih m u zero z =
            same_eager (take_node G high) (read_node all G high) ih (eager c t z) (state m s.names_left s.text_left r) (a + G.tag_width c) (past_field h (G.tag_width c) t r i m s.names_left s.text_left)
            (record { nodes = omega (arith, field_size h (G.tag_width c) t r i, n.nodes); names = omega (arith, field_size h (G.tag_width c) t r i, n.names); text = omega (arith, field_size h (G.tag_width c) t r i, n.text) })
        inner t r i ih m u (suc w) z =
            same_form (take_node G high) (read_node all G high) ih (G.row c t) (state m s.names_left s.text_left r) (a + G.tag_width c) (past_field h (G.tag_width c) t r i m s.names_left s.text_left)
            (record { nodes = omega (arith, field_size h (G.tag_width c) t r i, n.nodes); names = omega (arith, field_size h (G.tag_width c) t r i, n.names); text = omega (arith, field_size h (G.tag_width c) t r i, n.text) })

        room : (t : ℕ) (r : Bits) → Written (G.tag_width c) t s.bits r → ((c₁ : ℕ) (s₁ : State) (a₁ : ℕ) → At a₁ s₁ → Roomy 0 s₁ → Same (child c₁) a₁ (take_node G high c₁ s₁) (read_node all G high c₁ a₁))
            → (m : ℕ) → s.nodes_left ≡ m
            → Same (child c) a (take_room s t (λ k. take_form (take_node G high) (G.row c t) (state k s.names_left s.text_left r)) m)
            (as_node a (after (chooses t ends) (read_form all (read_node all G high) (G.row c t) (a + G.tag_width c))))
        room t r i ih zero u = absurd (omega (arith, n.nodes))
        room t r i ih (suc m) u = into_node c a t (inner t r i ih m u (G.tag_width c) refl)
