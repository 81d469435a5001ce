-- The laws of bits in bytes: a byte with a part replaced is its bits with those replaced, what is put after what was put is put as one, and what is put into zeros is as much of it as fits.
use mathlib.Core.Path.{◌≡◌, refl, sym, ap, ap₂, ◌∙◌, subst}
use mathlib.Core.Bool.{Bool}
use mathlib.Core.List.{List, [], ◌∷◌, ◌++◌, append_assoc, append-nil}
use mathlib.Core.Logic.{◌⊎◌, inl, inr}
use Prim.Native.Nat.{ℕ, zero, suc, ◌+◌, ◌-◌, ◌*◌, ◌/◌, ◌%◌, ◌^◌, ◌≤◌, ◌<◌}
use native.Mathlib.Nat.{add-zero, add-suc, suc-add, zero-add, mod-lt, mod-eq_of_lt}
use native.Mathlib.Numerals.{add-one}
use native.Mathlib.Omega.{arith}
use lib.Pow.{pow_pos, pow_mono, shr-shr, split, high}
use lib.ListN.{length, get_or, set, take, replicate, length-append, length-set}
use lib.Seq.{sets, length-sets, set-append_left, set_out, take-suc}
use Rattle.keys.specs.Bits.{Bits, odd, bits_of, bits_of_bytes}
use Rattle.keys.proofs.BitsLaws.{length_bits, length_bytes, bits_low, le_or_lt}
use Rattle.keys.specs.Store.{part, filled}
use Rattle.fields.specs.Put.{far, onward, Put, fitted}

-- ---- The digits of a number

-- The bits of a number are those of its higher digits and those of its lower.
pub bits_front : (m s l n : ℕ) → m ≡ s + l → bits_of m n ≡ bits_of s (n / 2 ^ l) ++ bits_of l n
bits_front m zero l n e =
    let q : m ≡ l = omega arith in
    ap (λ (k : ℕ). bits_of k n) q
bits_front zero (suc s) l n e = absurd (omega arith)
bits_front (suc m) (suc s) l n e =
    let q : m ≡ l + s = omega arith in
    ap₂ (λ (x : Bool) (t : Bits). x ∷ t) (ap (λ (k : ℕ). odd (n / 2 ^ k)) q ∙ ap odd (sym (shr-shr n l s))) (bits_front m s l n (omega arith))

-- Only the digits within the width count.
pub bits_mod : (w n : ℕ) → bits_of w (n % 2 ^ w) ≡ bits_of w n
bits_mod w n = sym (bits_low w (n / 2 ^ w) (n % 2 ^ w)) ∙ ap (bits_of w) (split n w)

-- The bits of a number that is made of three.
pub bits_three : (m s n l h x y : ℕ) → m ≡ s + n + l → x < 2 ^ n → y < 2 ^ l → bits_of m ((h * 2 ^ n + x) * 2 ^ l + y) ≡ (bits_of s h ++ bits_of n x) ++ bits_of l y
bits_three m s n l h x y e p q =
    bits_front m (s + n) l ((h * 2 ^ n + x) * 2 ^ l + y) e
    ∙ ap₂ (λ (a : ℕ) (b : Bits). bits_of (s + n) a ++ b) (high (h * 2 ^ n + x) l q) (bits_low l (h * 2 ^ n + x) y)
    ∙ ap (λ (a : Bits). a ++ bits_of l y)
    (bits_front (s + n) s n (h * 2 ^ n + x) refl ∙ ap₂ (λ (a : ℕ) (b : Bits). bits_of s a ++ b) (high h n p) (bits_low n h x))

-- The lowest k digits of a number of b, as a difference.
module _ (b x k : ℕ) (h : x < 2 ^ b) where
  exact : x / 2 ^ k * 2 ^ k % 2 ^ b ≡ x / 2 ^ k * 2 ^ k
  exact = mod-eq_of_lt (omega (arith, split x k, h))

  pub lowest_fits : x / 2 ^ k * 2 ^ k % 2 ^ b ≤ x
  lowest_fits = omega (arith, exact, split x k)

  pub lowest_is : x - x / 2 ^ k * 2 ^ k % 2 ^ b ≡ x % 2 ^ k
  lowest_is = omega (arith, exact, split x k)

  pub lowest_small : k ≤ 31 → x - x / 2 ^ k * 2 ^ k % 2 ^ b < 2 ^ 31
  lowest_small l = omega (arith, lowest_is, mod-lt x (pow_pos k), pow_mono {j = 31} l)

-- ---- Bits stored one after the other

module _ {A : Type 0} where
  pub sets_append : (vs ws l : List A) (i : ℕ) → sets l i (vs ++ ws) ≡ sets (sets l i vs) (i + length vs) ws
  sets_append [] ws l i = ap (λ (k : ℕ). sets l k ws) (sym (add-zero i))
  sets_append (v ∷ vs) ws l i =
      sets_append vs ws (set l i v) (suc i)
      ∙ ap (λ (k : ℕ). sets (sets (set l i v) (suc i) vs) k ws) (suc-add i (length vs) ∙ sym (add-suc i (length vs)))

  -- Past the end nothing is stored.
  pub sets_past : (vs l : List A) (i : ℕ) → length l ≤ i → sets l i vs ≡ l
  sets_past [] l i h = refl
  sets_past (v ∷ vs) l i h = ap (λ (x : List A). sets x (suc i) vs) (set_out l i v h) ∙ sets_past vs l (suc i) (omega arith)

  pub sets_left : (vs xs ys : List A) (i : ℕ) → i + length vs ≤ length xs → sets (xs ++ ys) i vs ≡ sets xs i vs ++ ys
  sets_left [] xs ys i h = refl
  sets_left (v ∷ vs) xs ys i h =
      ap (λ (x : List A). sets x (suc i) vs) (set-append_left xs ys i v (omega arith)) ∙ sets_left vs (set xs i v) ys (suc i) (omega (arith, length-set xs i v))

  set_right : (xs ys : List A) (n : ℕ) (a : A) → set (xs ++ ys) (length xs + n) a ≡ xs ++ set ys n a
  set_right [] ys n a = ap (λ (k : ℕ). set ys k a) (zero-add n)
  set_right (x ∷ xs) ys n a = ap (λ (k : ℕ). set (x ∷ (xs ++ ys)) k a) (suc-add (length xs) n) ∙ ap (λ (l : List A). x ∷ l) (set_right xs ys n a)

  pub sets_right : (vs xs ys : List A) (n : ℕ) → sets (xs ++ ys) (length xs + n) vs ≡ xs ++ sets ys n vs
  sets_right [] xs ys n = refl
  sets_right (v ∷ vs) xs ys n =
      ap (λ (l : List A). sets l (suc (length xs + n)) vs) (set_right xs ys n v)
      ∙ ap (λ (k : ℕ). sets (xs ++ set ys n v) k vs) (sym (add-suc (length xs) n)) ∙ sets_right vs xs (set ys n v) (suc n)

  -- The first is passed.
  pub sets_cons : (vs : List A) (v : A) (xs : List A) → sets (v ∷ xs) 1 vs ≡ v ∷ sets xs 0 vs
  sets_cons vs v xs = sets_right vs (v ∷ []) xs 0

  pub sets_whole : (vs xs : List A) → length vs ≡ length xs → sets xs 0 vs ≡ vs
  sets_whole [] [] h = refl
  sets_whole [] (x ∷ xs) h = absurd (omega arith)
  sets_whole (v ∷ vs) [] h = absurd (omega arith)
  sets_whole (v ∷ vs) (x ∷ xs) h = sets_cons vs v xs ∙ ap (λ (l : List A). v ∷ l) (sets_whole vs xs (omega arith))

  -- A part in the middle is replaced.
  pub sets_middle : (xs bs cs vs : List A) (i : ℕ) → i ≡ length xs → length vs ≡ length bs → sets ((xs ++ bs) ++ cs) i vs ≡ (xs ++ vs) ++ cs
  sets_middle xs bs cs vs i e h =
      sets_left vs (xs ++ bs) cs i (omega (arith, length-append xs bs))
      ∙ ap (λ (l : List A). l ++ cs)
      (ap (λ (k : ℕ). sets (xs ++ bs) k vs) (e ∙ sym (add-zero (length xs))) ∙ sets_right vs xs bs 0 ∙ ap (λ (l : List A). xs ++ l) (sets_whole vs bs h))

-- ---- Bytes and their bits

pub bytes_set : (s : List ℕ) (q r y : ℕ) (bs : Bits) → q < length s → r + length bs ≤ 8 → bits_of 8 y ≡ sets (bits_of 8 (get_or s q 0)) r bs
    → bits_of_bytes (set s q y) ≡ sets (bits_of_bytes s) (q * 8 + r) bs
bytes_set [] q r y bs h l e = absurd (omega arith)
bytes_set (x ∷ s) zero r y bs h l e =
    let z : r ≡ 0 * 8 + r = omega arith in
    ap (λ (k : Bits). k ++ bits_of_bytes s) e ∙ sym (sets_left bs (bits_of 8 x) (bits_of_bytes s) r (omega (arith, length_bits 8 x)))
    ∙ ap (λ (k : ℕ). sets (bits_of_bytes (x ∷ s)) k bs) z
bytes_set (x ∷ s) (suc q) r y bs h l e =
    let z : length (bits_of 8 x) + (q * 8 + r) ≡ suc q * 8 + r = omega (arith, length_bits 8 x) in
    ap (λ (k : Bits). bits_of 8 x ++ k) (bytes_set s q r y bs (omega arith) l e) ∙ sym (sets_right bs (bits_of 8 x) (bits_of_bytes s) (q * 8 + r))
    ∙ ap (λ (k : ℕ). sets (bits_of_bytes (x ∷ s)) k bs) z

-- A byte stored with a part replaced.
pub part_put : (s : List ℕ) (bit size part y x : ℕ) → bit / 8 < length s → bit % 8 + size ≤ 8 → x ≡ get_or s (bit / 8) 0
    → bits_of 8 y ≡ sets (bits_of 8 x) (bit % 8) (bits_of size part) → bits_of_bytes (set s (bit / 8) y) ≡ sets (bits_of_bytes s) bit (bits_of size part)
part_put s bit size part y x h l q e =
    let z : bit / 8 * 8 + bit % 8 ≡ bit = omega arith in
    bytes_set s (bit / 8) (bit % 8) y (bits_of size part) h (omega (arith, length_bits size part))
    (e ∙ ap (λ (k : ℕ). sets (bits_of 8 k) (bit % 8) (bits_of size part)) q)
    ∙ ap (λ (k : ℕ). sets (bits_of_bytes s) k (bits_of size part)) z

-- No byte is there.
pub part_past : (s : List ℕ) (bit : ℕ) (bs : Bits) → length s ≤ bit / 8 → bits_of_bytes s ≡ sets (bits_of_bytes s) bit bs
part_past s bit bs h = sym (sets_past bs (bits_of_bytes s) bit (omega (arith, length_bytes s)))

-- ---- A number, part by part

-- What is still to be put of a number, and what was to be put at first, come to the same.
pub record Putting (all : Bits) (bit width number at left : ℕ) (key : List ℕ) : Type 0 where
  pub within : left ≤ width
  pub is : at + left ≡ bit + width
  pub same : sets all bit (bits_of width number) ≡ sets (bits_of_bytes key) at (bits_of left number)

pub putting_more : {all : Bits} {bit width number at left : ℕ} {key : List ℕ} (size part : ℕ) (new : List ℕ) → Putting all bit width number at left key → size ≤ left
    → part ≡ number / 2 ^ (left - size) % 2 ^ size → bits_of_bytes new ≡ sets (bits_of_bytes key) at (bits_of size part)
    → Putting all bit width number (at + size) (left - size) new
putting_more {all} {bit} {width} {number} {at} {left} {key} size part new d h p e =
    let q : left ≡ size + (left - size) = omega arith in
    record {
      within = omega (arith, d.within);
      is = omega (arith, d.is);
      same =
          d.same ∙ ap (sets (bits_of_bytes key) at) (bits_front left size (left - size) number q)
          ∙ sets_append (bits_of size (number / 2 ^ (left - size))) (bits_of (left - size) number) (bits_of_bytes key) at
          ∙ ap₂ (λ (x : Bits) (k : ℕ). sets x (at + k) (bits_of (left - size) number))
          (ap (sets (bits_of_bytes key) at) (sym (ap (bits_of size) p ∙ bits_mod size (number / 2 ^ (left - size)))) ∙ sym e)
          (length_bits size (number / 2 ^ (left - size)));
    }

-- A number that is put.
pub number_put : (bit width number next : ℕ) (old key : List ℕ) → length old * 8 ≤ far → length key ≡ length old → next ≡ onward bit width
    → bits_of_bytes key ≡ sets (bits_of_bytes old) bit (bits_of width number) → Put bit (bits_of width number) next old key
number_put bit width number next old key h s n e = record { short = h; next = n ∙ ap (onward bit) (sym (length_bits width number)); same = s; bits = e }

-- ---- What is put after what was put

pub put_none : (bit : ℕ) (key : List ℕ) → bit ≤ far → length key * 8 ≤ far → Put bit [] bit key key
put_none bit key h l = record { short = l; next = omega arith; same = refl; bits = refl }

pub put_append : {bit m r : ℕ} {a b : Bits} {k k1 k2 : List ℕ} → Put bit a m k k1 → Put m b r k1 k2 → Put bit (a ++ b) r k k2
put_append {bit} {m} {r} {a} {b} {k} {k1} {k2} p q =
    record {
      short = p.short;
      next = omega (arith, p.next, q.next, length-append a b);
      same = q.same ∙ p.same;
      bits =
          q.bits ∙ ap (λ (x : Bits). sets x m b) p.bits ∙ at (le_or_lt (bit + length a) far)
          ∙ sym (sets_append a b (bits_of_bytes k) bit);
    }
  where
    long : length (sets (bits_of_bytes k) bit a) ≤ far
    long = omega (arith, length-sets (bits_of_bytes k) bit a, length_bytes k, p.short)

    at : (bit + length a ≤ far) ⊎ (far < bit + length a) → sets (sets (bits_of_bytes k) bit a) m b ≡ sets (sets (bits_of_bytes k) bit a) (bit + length a) b
    at (inl h) =
        let e : m ≡ bit + length a = omega (arith, p.next) in
        ap (λ (x : ℕ). sets (sets (bits_of_bytes k) bit a) x b) e
    at (inr h) =
        sets_past b (sets (bits_of_bytes k) bit a) m (omega (arith, p.next, long)) ∙ sym (sets_past b (sets (bits_of_bytes k) bit a) (bit + length a) (omega (arith, long)))

-- ---- A text, byte by byte

pub bytes_append : (s t : List ℕ) → bits_of_bytes (s ++ t) ≡ bits_of_bytes s ++ bits_of_bytes t
bytes_append [] t = refl
bytes_append (x ∷ s) t = ap (λ (y : Bits). bits_of 8 x ++ y) (bytes_append s t) ∙ sym (append_assoc (bits_of 8 x) (bits_of_bytes s) (bits_of_bytes t))

-- One byte more.
pub text_suc : (text : List ℕ) (i : ℕ) → i < length text → bits_of_bytes (take (i + 1) text) ≡ bits_of_bytes (take i text) ++ bits_of 8 (get_or text i 0)
text_suc text i h =
    ap bits_of_bytes (ap (λ (n : ℕ). take n text) (add-one i) ∙ take-suc text i 0 h) ∙ bytes_append (take i text) (get_or text i 0 ∷ [])
    ∙ ap (λ (x : Bits). bits_of_bytes (take i text) ++ x) (append-nil (bits_of 8 (get_or text i 0)))

pub text_more : {bit m : ℕ} {k k1 : List ℕ} (text : List ℕ) (i : ℕ) {r : ℕ} {k2 : List ℕ} → Put bit (bits_of_bytes (take i text)) m k k1 → i < length text
    → Put m (bits_of 8 (get_or text i 0)) r k1 k2 → Put bit (bits_of_bytes (take (i + 1) text)) r k k2
text_more {bit} {m} {k} {k1} text i {r} {k2} p h q = subst (λ (b : Bits). Put bit b r k k2) (sym (text_suc text i h)) (put_append p q)

-- ---- Into zeros

module _ {A : Type 0} where
  pub take_more : (xs ys : List A) (b : ℕ) → take (length xs + b) (xs ++ ys) ≡ xs ++ take b ys
  take_more [] ys b = ap (λ (k : ℕ). take k ys) (zero-add b)
  take_more (z ∷ xs) ys b = ap (λ (k : ℕ). take k ((z ∷ xs) ++ ys)) (suc-add (length xs) b) ∙ ap (λ (l : List A). z ∷ l) (take_more xs ys b)

  take_copies : (a : A) (m j : ℕ) → m ≤ j → replicate m a ≡ take m (replicate j a)
  take_copies a zero j h = refl
  take_copies a (suc m) zero h = absurd (omega arith)
  take_copies a (suc m) (suc j) h = ap (λ (l : List A). a ∷ l) (take_copies a m j (omega arith))

-- Items stored into copies of one from the start.
pub sets_copies : {A : Type 0} (a : A) (m j : ℕ) (vs : List A) → m ≤ j → sets (replicate m a) 0 vs ≡ take m (vs ++ replicate j a)
sets_copies a m j [] h = take_copies a m j h
sets_copies a zero j (v ∷ vs) h = sets_past (v ∷ vs) [] 0 (omega arith)
sets_copies {A} a (suc m) j (v ∷ vs) h = sets_cons vs v (replicate m a) ∙ ap (λ (x : List A). v ∷ x) (sets_copies a m j vs (omega arith))

-- A key that fits is whole, and zeros follow.
pub fitted_whole : (n : ℕ) (key : List ℕ) → length key ≤ n → fitted n key ≡ filled n key
fitted_whole n key h =
    let q : n ≡ length key + (n - length key) = omega arith in
    ap (λ (x : ℕ). take x (key ++ replicate n 0)) q ∙ take_more key (replicate n 0) (n - length key)
    ∙ ap (λ (l : List ℕ). key ++ l) (sym (take_copies 0 (n - length key) n (omega arith)))
