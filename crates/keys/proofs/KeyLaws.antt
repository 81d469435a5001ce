-- The laws of whole keys, over any node table, form of the whole and greatest height: padding and bytes on top of the laws of forms.
use mathlib.Core.Path.{◌≡◌, refl, sym, ap, ◌∙◌, subst}
use mathlib.Core.Bool.{true, false}
use mathlib.Core.List.{List, [], ◌∷◌, ◌++◌, append-nil}
use Prim.Native.Nat.{ℕ, zero, suc, ◌+◌, ◌-◌, ◌*◌, ◌/◌, ◌%◌, ◌≤◌, ◌<◌}
use native.Mathlib.Omega.{arith}
use lib.ListN.{length, replicate, length-append, length-replicate}
use Rattle.keys.specs.Bits.{Bits, bits_of_bytes, Row}
use Rattle.keys.specs.Form.{Value, Form, Grammar, height, nodes, names, letters, Bytes, write, Fits, State, state, Result, got, stop, take_form, take_node}
use Rattle.keys.specs.Key.{gap, padded, bytes_in, bytes_of, padding, closed, bytes_by, take_whole}
use Rattle.keys.proofs.BitsLaws.{clash, length_bytes, bytes_back, bytes_one, Even, take_even}
use Rattle.keys.proofs.FormLaws.{form_taken, form_back, Back}

-- ---- Bits as bytes

-- Padded bits are the bits of their bytes.
pub record Packed (bs : Bits) : Type 0 where
  pub bytes : Bytes (bytes_of bs)
  pub bits : bits_of_bytes (bytes_of bs) ≡ padded bs

pub length_padded : (bs : Bits) → length (padded bs) ≡ length bs + gap (length bs)
length_padded bs = length-append bs (replicate (gap (length bs)) false) ∙ ap (λ (x : ℕ). length bs + x) (length-replicate (gap (length bs)) false)

pub packs : (bs : Bits) → Packed bs
packs bs = by (take_even (length (padded bs) / 8) (padded bs) (omega (arith, length_padded bs)))
  where
    by : Even (length (padded bs) / 8) (padded bs) → Packed bs
    by c =
        let d = bytes_back (length (padded bs) / 8) (padded bs) c.bytes [] c.is in
        record {
          bytes = subst Bytes (sym (ap bytes_in c.is)) d.bytes;
          bits = ap (λ (x : Row). bits_of_bytes (bytes_in x)) c.is ∙ sym (append-nil (bits_of_bytes c.bytes)) ∙ sym d.bits;
        }

-- A key has as many bytes as its bits need.
pub length_packed : (bs : Bits) → length (bytes_of bs) * 8 ≡ length bs + gap (length bs)
length_packed bs = sym (length_bytes (bytes_of bs)) ∙ ap length (packs bs).bits ∙ length_padded bs

-- ---- Padding

zeros_pass : (v : Value) (k g : ℕ) → g ≤ k → padding v k (replicate g false) ≡ got v (state 0 0 0 [])
zeros_pass v k zero h = refl
zeros_pass v zero (suc g) h = absurd (omega arith)
zeros_pass v (suc k) (suc g) h = zeros_pass v k g (omega arith)

-- The bits are zeros, at most k, and stand after the value v.
record Zeros (u v : Value) (k : ℕ) (bs : Bits) : Type 0 where
  same : v ≡ u
  zeros : bs ≡ replicate (length bs) false
  few : length bs ≤ k

padding_back : (u v : Value) (s : State) (k : ℕ) (bs : Bits) → padding u k bs ≡ got v s → Zeros u v k bs
padding_back u v s k [] e = record { same = cc; zeros = refl; few = omega arith }
padding_back u v s zero (b ∷ bs) e = clash (cc)
padding_back u v s (suc k) (true ∷ bs) e = clash (cc)
padding_back u v s (suc k) (false ∷ bs) e =
    let d = padding_back u v s k bs e in
    record { same = d.same; zeros = ap (λ (x : Bits). false ∷ x) d.zeros; few = omega (arith, d.few) }

-- ---- Whole keys
module _ (G : Grammar) (K : Form) where
  -- A value that fits is taken from its bytes, where there is height and room for it.
  pub whole_taken : {v : Value} → Fits G K v → (h : ℕ) → height v ≤ h → (n k m : ℕ)
      → take_whole G K h (state (nodes v + n) (length (names v) + k) (letters v + m) (bits_of_bytes (bytes_by G K v))) ≡ got v (state 0 0 0 [])
  whole_taken {v} f h l n k m =
      ap (λ (x : Bits). take_whole G K h (state (nodes v + n) (length (names v) + k) (letters v + m) x)) (packs (write G K v)).bits
      ∙ ap closed (form_taken G f h l n k m zeros) ∙ zeros_pass v (length zeros % 8) (gap (length (write G K v))) few
    where
      zeros : Bits
      zeros = replicate (gap (length (write G K v))) false

      few : gap (length (write G K v)) ≤ length zeros % 8
      few = omega (arith, length-replicate (gap (length (write G K v))) false)

  -- The same where the room is given by bounds.
  pub whole_room : {v : Value} → Fits G K v → (h n k m : ℕ) → height v ≤ h → nodes v ≤ n → length (names v) ≤ k → letters v ≤ m
      → take_whole G K h (state n k m (bits_of_bytes (bytes_by G K v))) ≡ got v (state 0 0 0 [])
  whole_room {v} f h n k m l a b c = exact ∙ whole_taken f h l (n - nodes v) (k - length (names v)) (m - letters v)
    where
      exact : take_whole G K h (state n k m (bits_of_bytes (bytes_by G K v)))
          ≡ take_whole G K h (state (nodes v + (n - nodes v)) (length (names v) + (k - length (names v))) (letters v + (m - letters v)) (bits_of_bytes (bytes_by G K v)))
      exact =
          let p : n ≡ nodes v + (n - nodes v) = omega arith in
          let q : k ≡ length (names v) + (k - length (names v)) = omega arith in
          let r : m ≡ letters v + (m - letters v) = omega arith in
          λ i. take_whole G K h (state (p i) (q i) (r i) (bits_of_bytes (bytes_by G K v)))

  -- The bytes are those of a value that fits, is at most h high and has room.
  pub record Came (h n k m : ℕ) (v : Value) (key : List ℕ) : Type 0 where
    pub fits : Fits G K v
    pub tall : height v ≤ h
    pub for_nodes : nodes v ≤ n
    pub for_names : length (names v) ≤ k
    pub for_text : letters v ≤ m
    pub is : key ≡ bytes_by G K v

  module _ (h n k m : ℕ) (key : List ℕ) (ok : Bytes key) where
    came : (v : Value) (s : State) → Back G h K v (state n k m (bits_of_bytes key)) s
        → s.bits ≡ replicate (length s.bits) false → length s.bits < 8 → Came h n k m v key
    came v s d zeros few =
        record {
          fits = d.fits;
          tall = d.tall;
          for_nodes = omega (arith, d.nodes_left);
          for_names = omega (arith, d.names_left);
          for_text = omega (arith, d.text_left);
          is = bytes_one key (bytes_by G K v) ok (packs (write G K v)).bytes (d.bits ∙ same ∙ sym (packs (write G K v)).bits);
        }
      where
        size : length key * 8 ≡ length (write G K v) + length s.bits
        size = sym (length_bytes key) ∙ ap length d.bits ∙ length-append (write G K v) s.bits

        same : write G K v ++ s.bits ≡ padded (write G K v)
        same =
            let g : length s.bits ≡ gap (length (write G K v)) = omega (arith, size) in
            ap (λ (x : Bits). write G K v ++ x) (zeros ∙ ap (λ (x : ℕ). replicate x false) g)

    -- Bytes from which a value is taken are those of the value.
    pub whole_back : (v : Value) (s : State) → take_whole G K h (state n k m (bits_of_bytes key)) ≡ got v s → Came h n k m v key
    whole_back v s e = by (take_form (take_node G h) K (state n k m (bits_of_bytes key))) refl e
      where
        by : (x : Result) → take_form (take_node G h) K (state n k m (bits_of_bytes key)) ≡ x → closed x ≡ got v s → Came h n k m v key
        by (stop a c) i j = clash (cc)
        by (got u q) i j =
            let p = padding_back u v s (length q.bits % 8) q.bits j in
            subst (λ (x : Value). Came h n k m x key) (sym p.same)
            (came u q (form_back G h K (state n k m (bits_of_bytes key)) u q i) p.zeros (omega (arith, p.few)))

  -- Values that fit have the same bytes only where they are the same.
  pub whole_one : {u v : Value} → Fits G K u → Fits G K v → bytes_by G K u ≡ bytes_by G K v → u ≡ v
  whole_one {u} {v} a b e = out (sym (whole_taken a h (omega arith) (nodes v) (length (names v)) (letters v)) ∙ same ∙ whole_taken b h (omega arith) (nodes u) (length (names u)) (letters u))
    where
      h : ℕ
      h = height u + height v

      same : take_whole G K h (state (nodes u + nodes v) (length (names u) + length (names v)) (letters u + letters v) (bits_of_bytes (bytes_by G K u)))
          ≡ take_whole G K h (state (nodes v + nodes u) (length (names v) + length (names u)) (letters v + letters u) (bits_of_bytes (bytes_by G K v)))
      same =
          let p : nodes u + nodes v ≡ nodes v + nodes u = omega arith in
          let q : length (names u) + length (names v) ≡ length (names v) + length (names u) = omega arith in
          let r : letters u + letters v ≡ letters v + letters u = omega arith in
          λ i. take_whole G K h (state (p i) (q i) (r i) (bits_of_bytes (e i)))

      out : got u (state 0 0 0 []) ≡ got v (state 0 0 0 []) → u ≡ v
      out q = cc
