-- The two laws of forms, once for each form and over any node table: what was written is taken, what is taken was written and fits.
use mathlib.Core.Path.{◌≡◌, refl, sym, ap, ap₂, ◌∙◌, subst, subst₂}
use mathlib.Core.Bool.{Bool, true, false}
use mathlib.Core.List.{List, [], ◌∷◌, ◌++◌, append_assoc}
use Prim.Native.Nat.{ℕ, zero, suc, ◌+◌, ◌-◌, ◌*◌, ◌^◌, ◌≤◌, ◌<◌}
use native.Mathlib.Nat.{zero-add, add_assoc, le_trans, le-max_left, le-max_right, not-suc-le-zero, le_of_suc-le-suc, suc-add, max-le}
use native.Mathlib.Omega.{arith}
use borrow.Author.Tests.{le-leb, leb-true}
use lib.Dec.{leb}
use lib.ListN.{length, length-append}
use Rattle.keys.specs.Bits.{Bits, bits_of, Field, short, field, take_field, bits_of_bytes, Row, cut, row, take_bytes}
use Rattle.keys.specs.Form.{Value, nothing, spelt, choice, pair, node, Form, never, one, word, choose, both, child, Grammar, is_never, height, nodes, names, letters, Bytes, write, Fits, fits_one, fits_word, fits_choose, fits_both, fits_child, State, state, Result, got, stop, into, and_then, allowed, if_whole, take_choice, keep, take_letters, take_length, take_spelling, take_room, take_form, take_node}
use Rattle.keys.proofs.BitsLaws.{clash, take_written, take_back_lem, Written, take_bytes_lem, bytes_back, Spelled, length_bytes}

-- ---- What was written is taken

state_path : {n n' k k' m m' : ℕ} {b b' : Bits} → n ≡ n' → k ≡ k' → m ≡ m' → b ≡ b' → state n k m b ≡ state n' k' m' b'
state_path p q r e = λ i. state (p i) (q i) (r i) (e i)

spelling_taken : (w n k m : ℕ) (s : List ℕ) (r : Bits) → 1 ≤ length s → length s < 2 ^ w → Bytes s
    → take_spelling w (state n (1 + k) (length s + m) ((bits_of w (length s) ++ bits_of_bytes s) ++ r)) ≡ got (spelt s) (state n k m r)
spelling_taken w n k m [] r a b c = absurd (omega arith)
spelling_taken w n k m (x ∷ u) r a b c =
    let s : List ℕ = x ∷ u in
    let q : State = state n (1 + k) (length s + m) ((bits_of w (length s) ++ bits_of_bytes s) ++ r) in
    ap (take_length q) (ap (take_field w) (append_assoc (bits_of w (length s)) (bits_of_bytes s) r) ∙ take_written w (length s) (bits_of_bytes s ++ r) b)
    ∙ ap (take_letters q) (take_bytes_lem s r c)
    ∙ ap₂ (keep q s r) (le-leb (length s) (length s + m) (omega arith)) (suc-add 0 k ∙ ap suc (zero-add k))
    ∙ ap (λ (y : ℕ). got (spelt s) (state n k y r)) (omega arith)

module _ (G : Grammar) where
  -- A form with a value is not never.
  pub some : {f : Form} {v : Value} → Fits G f v → is_never f ≡ false
  some fits_one = refl
  some (fits_word a b c) = refl
  some (fits_choose a b) = refl
  some (fits_both a b) = refl
  some (fits_child a b) = refl

  choice_taken : (w : ℕ) (fs : ℕ → Form) (n k m t : ℕ) {v : Value} (a r : Bits) (q : ℕ → Bits → Result) → t < 2 ^ w → Fits G (fs t) v
      → take_choice w fs (state n k m ((bits_of w t ++ a) ++ r)) q ≡ q t (a ++ r)
  choice_taken w fs n k m t a r q h ok =
      let s : State = state n k m ((bits_of w t ++ a) ++ r) in
      ap (if_whole s fs q) (ap (take_field w) (append_assoc (bits_of w t) a r) ∙ take_written w t (a ++ r) h) ∙ ap (allowed s q t (a ++ r)) (some ok)

  -- A value that fits its form is taken from its bits, where there is height and room for it.
  pub form_taken : {f : Form} {v : Value} → Fits G f v → (h : ℕ) → height v ≤ h → (n k m : ℕ) (r : Bits)
      → take_form (take_node G h) f (state (nodes v + n) (length (names v) + k) (letters v + m) (write G f v ++ r)) ≡ got v (state n k m r)
  form_taken fits_one h t n k m r = ap (got nothing) (state_path (zero-add n) (zero-add k) (zero-add m) refl)
  form_taken (fits_word {w = w} {s = s} a b c) h t n k m r =
      spelling_taken w (0 + n) k m s r a b c ∙ ap (λ (y : ℕ). got (spelt s) (state y k m r)) (zero-add n)
  form_taken (fits_choose {w = w} {fs = fs} {k = j} {v = v} a b) h t n k m r =
      choice_taken w fs (nodes v + n) (length (names v) + k) (letters v + m) j (write G (fs j) v) r _ a b
      ∙ ap (into (choice j)) (form_taken b h t n k m r)
  form_taken (fits_both {f = f} {g = g} {a = x} {b = y} a b) h t n k m r =
      let X = take_node G h in
      ap (λ (s : State). and_then (take_form X f s) λ u q. into (pair u) (take_form X g q))
      (state_path (add_assoc (nodes x) (nodes y) n)
      (ap (λ (l : ℕ). l + k) (length-append (names x) (names y)) ∙ add_assoc (length (names x)) (length (names y)) k)
      (add_assoc (letters x) (letters y) m) (append_assoc (write G f x) (write G g y) r))
      ∙ ap (λ (z : Result). and_then z λ u q. into (pair u) (take_form X g q))
      (form_taken a h (le_trans (le-max_left (height x) (height y)) t) (nodes y + n) (length (names y) + k) (letters y + m) (write G g y ++ r))
      ∙ ap (into (pair x)) (form_taken b h (le_trans (le-max_right (height x) (height y)) t) n k m r)
  form_taken (fits_child a b) zero t n k m r = absurd (not-suc-le-zero t)
  form_taken (fits_child {c = c} {t = j} {v = v} a b) (suc h) t n k m r =
      choice_taken (G.tag_width c) (G.row c) (suc (nodes v) + n) (length (names v) + k) (letters v + m) j (write G (G.row c j) v) r _ a b
      ∙ ap (take_room (state (nodes (node j v) + n) (length (names (node j v)) + k) (letters (node j v) + m) (write G (child c) (node j v) ++ r)) j _) (suc-add (nodes v) n) ∙ ap (into (node j)) (form_taken b h (le_of_suc-le-suc t) n k m r)

-- ---- What is taken was written

record Into (x : Result) (F : Value → Value) (v : Value) (s : State) : Type 0 where
  inner : Value
  came : x ≡ got inner s
  made : v ≡ F inner

into_back : (F : Value → Value) (x : Result) (v : Value) (s : State) → into F x ≡ got v s → Into x F v s
into_back F (got u q) v s e =
    let a : F u ≡ v = cc in
    let b : q ≡ s = cc in
    record { inner = u; came = ap (got u) b; made = sym a }
into_back F (stop n l) v s e = clash (cc)

record Then (x : Result) (K : Value → State → Result) (v : Value) (s : State) : Type 0 where
  first : Value
  mid : State
  came : x ≡ got first mid
  went : K first mid ≡ got v s

then_back : (x : Result) (K : Value → State → Result) (v : Value) (s : State) → and_then x K ≡ got v s → Then x K v s
then_back (got u q) K v s e = record { first = u; mid = q; came = refl; went = e }
then_back (stop n l) K v s e = clash (cc)

record Chose (w : ℕ) (s : State) (K : ℕ → Bits → Result) (v : Value) (s' : State) : Type 0 where
  number : ℕ
  rest : Bits
  was : Written w number s.bits rest
  went : K number rest ≡ got v s'

choice_back : (w : ℕ) (fs : ℕ → Form) (s : State) (K : ℕ → Bits → Result) (v : Value) (s' : State) → take_choice w fs s K ≡ got v s' → Chose w s K v s'
choice_back w fs s K v s' e = whole (take_field w s.bits) refl e
  where
    known : (t : ℕ) (r : Bits) → take_field w s.bits ≡ field t r → (x : Bool) → allowed s K t r x ≡ got v s' → Chose w s K v s'
    known t r i true j = clash (cc)
    known t r i false j = record { number = t; rest = r; was = take_back_lem w t s.bits r i; went = j }

    whole : (x : Field) → take_field w s.bits ≡ x → if_whole s fs K x ≡ got v s' → Chose w s K v s'
    whole short i j = clash (cc)
    whole (field t r) i j = known t r i (is_never (fs t)) j

record Room (t : ℕ) (K : ℕ → Result) (v : Value) (s' : State) (n : ℕ) : Type 0 where
  others : ℕ
  inner : Value
  counted : n ≡ suc others
  came : K others ≡ got inner s'
  made : v ≡ node t inner

room_back : (s : State) (t : ℕ) (K : ℕ → Result) (v : Value) (s' : State) (n : ℕ) → take_room s t K n ≡ got v s' → Room t K v s' n
room_back s t K v s' zero e = clash (cc)
room_back s t K v s' (suc n) e =
    let g = into_back (node t) (K n) v s' e in
    record { others = n; inner = g.inner; counted = refl; came = g.came; made = g.made }

module _ (G : Grammar) where
  -- From s to s' the value v of the form f was taken, at most h high: it fits, its bits stood there, and it took its room.
  pub record Back (h : ℕ) (f : Form) (v : Value) (s s' : State) : Type 0 where
    pub fits : Fits G f v
    pub tall : height v ≤ h
    pub bits : s.bits ≡ write G f v ++ s'.bits
    pub nodes_left : s.nodes_left ≡ nodes v + s'.nodes_left
    pub names_left : s.names_left ≡ length (names v) + s'.names_left
    pub text_left : s.text_left ≡ letters v + s'.text_left

  spelling_back : (h w : ℕ) (s : State) (v : Value) (s' : State) → take_spelling w s ≡ got v s' → Back h (word w) v s s'
  spelling_back h w s v s' e = length_in (take_field w s.bits) refl e
    where
      kept : (n : ℕ) (t : List ℕ) (q r : Bits) → 1 ≤ n → Written w n s.bits r → Spelled n t r q → (x : Bool) → leb (length t) s.text_left ≡ x
          → (k : ℕ) → s.names_left ≡ k → keep s t q x k ≡ got v s' → Back h (word w) v s s'
      kept n t q r p a b false i k u j = clash (cc)
      kept n t q r p a b true i zero u j = clash (cc)
      kept n t q r p a b true i (suc k) u j =
          let room : length t ≤ s.text_left = leb-true (length t) s.text_left i in
          let value : spelt t ≡ v = cc in
          let after : state s.nodes_left k (s.text_left - length t) q ≡ s' = cc in
          let l : length t ≡ n = b.size in
          subst₂ (λ (x : Value) (z : State). Back h (word w) x s z) value after
          (record {
            fits = fits_word (omega arith) (subst (λ (x : ℕ). x < 2 ^ w) (sym l) a.small) b.bytes;
            tall = omega arith;
            bits =
                a.bits ∙ ap₂ (λ (x : ℕ) (z : Bits). bits_of w x ++ z) (sym l) b.bits
                ∙ sym (append_assoc (bits_of w (length t)) (bits_of_bytes t) q);
            nodes_left = omega arith;
            names_left = omega arith;
            text_left = omega arith;
          })

      letters_in_lem : (n : ℕ) (r : Bits) → 1 ≤ n → Written w n s.bits r → (x : Row) → take_bytes n r ≡ x → take_letters s x ≡ got v s' → Back h (word w) v s s'
      letters_in_lem n r p a cut i j = clash (cc)
      letters_in_lem n r p a (row t q) i j = kept n t q r p a (bytes_back n r t q i) (leb (length t) s.text_left) refl s.names_left refl j

      length_in : (x : Field) → take_field w s.bits ≡ x → take_length s x ≡ got v s' → Back h (word w) v s s'
      length_in short i j = clash (cc)
      length_in (field zero r) i j = clash (cc)
      length_in (field (suc n) r) i j = letters_in_lem (suc n) r (omega arith) (take_back_lem w (suc n) s.bits r i) (take_bytes (suc n) r) refl j

  module _ (h : ℕ) (s s' : State) where
    one_back : (v : Value) → got nothing s ≡ got v s' → Back h one v s s'
    one_back v e =
        let value : nothing ≡ v = cc in
        let after : s ≡ s' = cc in
        subst₂ (λ (x : Value) (z : State). Back h one x s z) value after
        (record { fits = fits_one; tall = omega arith; bits = refl; nodes_left = omega arith; names_left = omega arith; text_left = omega arith })

    choose_back : (w x : ℕ) (fs : ℕ → Form) (t : ℕ) (r : Bits) (u v : Value) → Written w t s.bits r → v ≡ choice t u
        → Back h (fs t) u (state s.nodes_left s.names_left s.text_left r) s' → Back h (choose w x fs) v s s'
    choose_back w x fs t r u v a e d =
        subst (λ (y : Value). Back h (choose w x fs) y s s') (sym e)
        (record {
          fits = fits_choose a.small d.fits;
          tall = d.tall;
          bits = a.bits ∙ ap (λ (z : Bits). bits_of w t ++ z) d.bits ∙ sym (append_assoc (bits_of w t) (write G (fs t) u) s'.bits);
          nodes_left = d.nodes_left;
          names_left = d.names_left;
          text_left = d.text_left;
        })

    both_back : (f g : Form) (q : State) (a b v : Value) → v ≡ pair a b → Back h f a s q → Back h g b q s' → Back h (both f g) v s s'
    both_back f g q a b v e c d =
        subst (λ (x : Value). Back h (both f g) x s s') (sym e)
        (record {
          fits = fits_both c.fits d.fits;
          tall = max-le c.tall d.tall;
          bits = c.bits ∙ ap (λ (z : Bits). write G f a ++ z) d.bits ∙ sym (append_assoc (write G f a) (write G g b) s'.bits);
          nodes_left = omega (arith, c.nodes_left, d.nodes_left);
          names_left = omega (arith, c.names_left, d.names_left, length-append (names a) (names b));
          text_left = omega (arith, c.text_left, d.text_left);
        })

    child_back : (c t n : ℕ) (r : Bits) (u v : Value) → Written (G.tag_width c) t s.bits r → s.nodes_left ≡ suc n → v ≡ node t u
        → Back h (G.row c t) u (state n s.names_left s.text_left r) s' → Back (suc h) (child c) v s s'
    child_back c t n r u v a p e d =
        subst (λ (x : Value). Back (suc h) (child c) x s s') (sym e)
        (record {
          fits = fits_child a.small d.fits;
          tall = omega (arith, d.tall);
          bits =
              a.bits ∙ ap (λ (z : Bits). bits_of (G.tag_width c) t ++ z) d.bits
              ∙ sym (append_assoc (bits_of (G.tag_width c) t) (write G (G.row c t) u) s'.bits);
          nodes_left = omega (arith, d.nodes_left);
          names_left = d.names_left;
          text_left = d.text_left;
        })

  module _ (h : ℕ) (X : (c : ℕ) (s : State) (v : Value) (s' : State) → take_node G h c s ≡ got v s' → Back h (child c) v s s') where
    fields_back : (f : Form) (s : State) (v : Value) (s' : State) → take_form (take_node G h) f s ≡ got v s' → Back h f v s s'
    fields_back never s v s' e = clash (cc)
    fields_back one s v s' e = one_back h s s' v e
    fields_back (word w) s v s' e = spelling_back h w s v s' e
    fields_back (choose w x fs) s v s' e =
        let c = choice_back w fs s _ v s' e in
        let g = into_back (choice c.number) _ v s' c.went in
        choose_back h s s' w x fs c.number c.rest g.inner v c.was g.made
        (fields_back (fs c.number) (state s.nodes_left s.names_left s.text_left c.rest) g.inner s' g.came)
    fields_back (both f g) s v s' e =
        let c = then_back (take_form (take_node G h) f s) _ v s' e in
        let d = into_back (pair c.first) _ v s' c.went in
        both_back h s s' f g c.mid c.first d.inner v d.made (fields_back f s c.first c.mid c.came)
        (fields_back g c.mid d.inner s' d.came)
    fields_back (child c) s v s' e = X c s v s' e

  node_back : (h c : ℕ) (s : State) (v : Value) (s' : State) → take_node G h c s ≡ got v s' → Back h (child c) v s s'
  node_back zero c s v s' e =
      let g = choice_back (G.tag_width c) (G.row c) s _ v s' e in
      let w = g.went in
      clash (cc w)
  node_back (suc h) c s v s' e =
      let g = choice_back (G.tag_width c) (G.row c) s _ v s' e in
      let d = room_back s g.number _ v s' s.nodes_left g.went in
      child_back h s s' c g.number d.others g.rest d.inner v g.was d.counted d.made
      (fields_back h (λ c₁ s₁ v₁ s₂ e₁. node_back h c₁ s₁ v₁ s₂ e₁) (G.row c g.number) (state d.others s.names_left s.text_left g.rest) d.inner s' d.came)

  -- A value that is taken by a form fits it and was written there.
  pub form_back : (h : ℕ) (f : Form) (s : State) (v : Value) (s' : State) → take_form (take_node G h) f s ≡ got v s' → Back h f v s s'
  form_back h f s v s' e = fields_back h (node_back h) f s v s' e

  -- A spelling's bytes stand in the key: what is spelled is no longer than what is written.
  pub letters_written : {f : Form} {v : Value} → Fits G f v → letters v * 8 ≤ length (write G f v)
  letters_written fits_one = omega arith
  letters_written (fits_word {w = w} {s = s} a b c) = omega (arith, length-append (bits_of w (length s)) (bits_of_bytes s), length_bytes s)
  letters_written (fits_choose {w = w} {fs = fs} {k = k} {v = v} a b) = omega (arith, length-append (bits_of w k) (write G (fs k) v), letters_written b)
  letters_written (fits_both {f = f} {g = g} {a = x} {b = y} a b) = omega (arith, length-append (write G f x) (write G g y), letters_written a, letters_written b)
  letters_written (fits_child {c = c} {t = t} {v = v} a b) = omega (arith, length-append (bits_of (G.tag_width c) t) (write G (G.row c t) v), letters_written b)
