-- The laws of fields and of rows of bytes, for any width and any number of bytes: what was written is taken, what is taken was written.
use mathlib.Core.Path.{◌≡◌, refl, sym, ap, ap₂, ◌∙◌, subst}
use mathlib.Core.Bool.{Bool, true, false}
use mathlib.Core.List.{List, [], ◌∷◌, ◌++◌, append_assoc}
use mathlib.Core.Logic.{◌⊎◌, inl, inr, ⊎_elim}
use Prim.Native.Nat.{ℕ, zero, suc, ◌+◌, ◌*◌, ◌/◌, ◌%◌, ◌^◌, ◌≤◌, ◌<◌}
use native.Mathlib.Nat.{pow-succ', mod-one, mul-add-mod_self_right, mod-lt, mod-eq_of_lt, add-mul-div_right, add_comm, zero-lt-suc, le_refl}
use native.Mathlib.Omega.{arith}
use lib.Dec.{eqb}
use lib.Arith.{digits_div, digits_lt, mod-mul}
use lib.Pow.{pow_pos}
use lib.ListN.{length, length-append}
use Rattle.keys.specs.Bits.{Bits, odd, unit, bits_of, Field, short, field, take_on, take_field, bits_of_bytes, Row, cut, row, ahead, after_byte, take_bytes}
use Rattle.keys.specs.Form.{Bytes}

-- Two constructors are never equal, and cc says so by 0 ≡ 1.
pub clash {ℓ} : {A : Type ℓ} → ◌≡◌ {A = ℕ} 0 1 → A
clash z = absurd (omega arith)

-- One number is at most the other, or above it.
pub le_or_lt : (a b : ℕ) → (a ≤ b) ⊎ (b < a)
le_or_lt zero b = inl (omega arith)
le_or_lt (suc a) zero = inr (omega arith)
le_or_lt (suc a) (suc b) = ⊎_elim (λ p. inl (omega arith)) (λ q. inr (omega arith)) (le_or_lt a b)

-- ---- One bit

digit : (r : ℕ) → r < 2 → unit (eqb r 1) ≡ r
digit zero h = refl
digit (suc zero) h = refl
digit (suc (suc r)) h = absurd (omega arith)

unit_odd : (n : ℕ) → unit (odd n) ≡ n % 2
unit_odd n = digit (n % 2) (mod-lt n (zero-lt-suc 1))

odd_unit : (b : Bool) → odd (unit b) ≡ b
odd_unit true = refl
odd_unit false = refl

odd_even : (c n : ℕ) → odd (c * 2 + n) ≡ odd n
odd_even c n = ap (λ (x : ℕ). eqb x 1) (mul-add-mod_self_right c 2 n)

unit_lt : (b : Bool) → unit b < 2
unit_lt true = le_refl 2
unit_lt false = zero-lt-suc 1

-- ---- A field of any width

-- A field is as long as its width.
pub length_bits : (w n : ℕ) → length (bits_of w n) ≡ w
length_bits zero n = refl
length_bits (suc w) n = ap suc (length_bits w n)

shift : (c w : ℕ) → c * 2 ^ suc w ≡ c * 2 * 2 ^ w
shift c w = ap (λ (x : ℕ). c * x) (pow-succ' 2 w) ∙ omega arith

spread : (a x p m : ℕ) → (a * 2 + x) * p + m ≡ a * 2 * p + (x * p + m)
spread a x p m = omega arith

-- Only the low w digits of a number are written.
pub bits_low : (w c j : ℕ) → bits_of w (c * 2 ^ w + j) ≡ bits_of w j
bits_low zero c j = refl
bits_low (suc w) c j =
    ap₂ (λ (h : Bool) (t : Bits). h ∷ t)
    (ap (λ (x : ℕ). odd ((x + j) / 2 ^ w)) (shift c w) ∙ ap (λ (x : ℕ). odd (x / 2 ^ w)) (add_comm (c * 2 * 2 ^ w) j)
    ∙ ap odd (add-mul-div_right j (c * 2) (pow_pos w)) ∙ ap odd (add_comm (j / 2 ^ w) (c * 2)) ∙ odd_even c (j / 2 ^ w))
    (ap (λ (x : ℕ). bits_of w (x + j)) (shift c w) ∙ bits_low w (c * 2) j)

pub digit_taken : (w a n : ℕ) → (a * 2 + unit (odd (n / 2 ^ w))) * 2 ^ w + n % 2 ^ w ≡ a * 2 ^ suc w + n % 2 ^ suc w
digit_taken w a n =
    ap (λ (x : ℕ). (a * 2 + x) * 2 ^ w + n % 2 ^ w) (unit_odd (n / 2 ^ w)) ∙ spread a (n / 2 ^ w % 2) (2 ^ w) (n % 2 ^ w)
    ∙ ap₂ (λ (x y : ℕ). x + y) (sym (shift a w)) (sym (ap (λ (x : ℕ). n % x) (pow-succ' 2 w) ∙ mod-mul n (zero-lt-suc 1) (pow_pos w)))

-- The bits of a number behind what was taken.
pub take_on_written : (w a n : ℕ) (r : Bits) → take_on a w (bits_of w n ++ r) ≡ field (a * 2 ^ w + n % 2 ^ w) r
take_on_written zero a n r = ap (λ (x : ℕ). field x r) omega (arith, mod-one n)
take_on_written (suc w) a n r = take_on_written w (a * 2 + unit (odd (n / 2 ^ w))) n r ∙ ap (λ (x : ℕ). field x r) (digit_taken w a n)

-- What was written is taken.
pub take_written : (w n : ℕ) (r : Bits) → n < 2 ^ w → take_field w (bits_of w n ++ r) ≡ field n r
take_written w n r h = take_on_written w 0 n r ∙ ap (λ (x : ℕ). field x r) omega (arith, mod-eq_of_lt h)

-- The bits begin with the number n in w bits, and r is left.
pub record Written (w n : ℕ) (bs r : Bits) : Type 0 where
  pub small : n < 2 ^ w
  pub bits : bs ≡ bits_of w n ++ r

record WrittenOn (w a n : ℕ) (bs r : Bits) : Type 0 where
  low : ℕ
  whole : n ≡ a * 2 ^ w + low
  is : Written w low bs r

take_on_back : (w a n : ℕ) (bs r : Bits) → take_on a w bs ≡ field n r → WrittenOn w a n bs r
take_on_back zero a n bs r e =
    let q : a ≡ n = cc in
    record { low = 0; whole = omega arith; is = record { small = omega arith; bits = cc } }
take_on_back (suc w) a n [] r e = clash (cc)
take_on_back (suc w) a n (b ∷ bs) r e = up (take_on_back w (a * 2 + unit b) n bs r e)
  where
    top : (j : ℕ) → j < 2 ^ w → odd ((unit b * 2 ^ w + j) / 2 ^ w) ≡ b
    top j h = ap odd (digits_div (unit b) h) ∙ odd_unit b

    up : WrittenOn w (a * 2 + unit b) n bs r → WrittenOn (suc w) a n (b ∷ bs) r
    up d =
        record {
          low = unit b * 2 ^ w + d.low;
          whole = d.whole ∙ spread a (unit b) (2 ^ w) d.low ∙ ap (λ (x : ℕ). x + (unit b * 2 ^ w + d.low)) (sym (shift a w));
          is =
              record {
                small = subst (λ (x : ℕ). unit b * 2 ^ w + d.low < x) (sym (pow-succ' 2 w)) (digits_lt (unit_lt b) d.is.small);
                bits =
                    ap₂ (λ (h : Bool) (t : Bits). h ∷ t) (sym (top d.low d.is.small))
                    (d.is.bits ∙ ap (λ (x : Bits). x ++ r) (sym (bits_low w (unit b) d.low)));
              };
        }

-- What is taken was written.
pub take_back_lem : (w n : ℕ) (bs r : Bits) → take_field w bs ≡ field n r → Written w n bs r
take_back_lem w n bs r e = at (take_on_back w 0 n bs r e)
  where
    at : WrittenOn w 0 n bs r → Written w n bs r
    at d = let q : d.low ≡ n = omega (arith, d.whole) in rw q at d.is

-- A field that is not cut short.
pub record Whole (w a : ℕ) (bs : Bits) : Type 0 where
  pub number : ℕ
  pub rest : Bits
  pub is : take_on a w bs ≡ field number rest
  pub long : length bs ≡ w + length rest

-- Where there are w bits, a field of w bits is taken.
pub take_whole_lem : (w a : ℕ) (bs : Bits) → w ≤ length bs → Whole w a bs
take_whole_lem zero a bs h = record { number = a; rest = bs; is = refl; long = omega arith }
take_whole_lem (suc w) a [] h = absurd (omega arith)
take_whole_lem (suc w) a (b ∷ bs) h = up (take_whole_lem w (a * 2 + unit b) bs (omega arith))
  where
    up : Whole w (a * 2 + unit b) bs → Whole (suc w) a (b ∷ bs)
    up d = record { number = d.number; rest = d.rest; is = d.is; long = omega (arith, d.long) }

-- Where there are fewer than w bits, it is cut short.
pub take_short : (w a : ℕ) (bs : Bits) → length bs < w → take_on a w bs ≡ short
take_short zero a bs h = absurd (omega arith)
take_short (suc w) a [] h = refl
take_short (suc w) a (b ∷ bs) h = take_short w (a * 2 + unit b) bs (omega arith)

-- ---- Rows of bytes

-- A byte is eight bits.
pub length_bytes : (s : List ℕ) → length (bits_of_bytes s) ≡ length s * 8
length_bytes [] = refl
length_bytes (b ∷ s) = length-append (bits_of 8 b) (bits_of_bytes s) ∙ ap₂ (λ (x y : ℕ). x + y) (length_bits 8 b) (length_bytes s) ∙ omega arith

-- Bytes that were written are taken.
pub take_bytes_lem : (s : List ℕ) (r : Bits) → Bytes s → take_bytes (length s) (bits_of_bytes s ++ r) ≡ row s r
take_bytes_lem [] r b = refl
take_bytes_lem (x ∷ s) r b =
    ap (λ (bs : Bits). after_byte (λ q. take_bytes (length s) q) (take_field 8 bs)) (append_assoc (bits_of 8 x) (bits_of_bytes s) r)
    ∙ ap (after_byte (λ q. take_bytes (length s) q)) (take_written 8 x (bits_of_bytes s ++ r) b.0) ∙ ap (ahead x) (take_bytes_lem s r b.1)

-- The bits begin with the n bytes s, and r is left.
pub record Spelled (n : ℕ) (s : List ℕ) (bs r : Bits) : Type 0 where
  pub size : length s ≡ n
  pub bytes : Bytes s
  pub bits : bs ≡ bits_of_bytes s ++ r

module _ (n : ℕ) (ih : (q : Bits) (u : List ℕ) (p : Bits) → take_bytes n q ≡ row u p → Spelled n u q p) (bs : Bits) (s : List ℕ) (r : Bits) where
  others : (b : ℕ) (q : Bits) → Written 8 b bs q → (x : Row) → take_bytes n q ≡ x → ahead b x ≡ row s r → Spelled (suc n) s bs r
  others b q w cut i j = clash (cc)
  others b q w (row u p) i j =
      let d : Spelled n u q p = ih q u p i in
      let l : b ∷ u ≡ s = cc in
      let m : p ≡ r = cc in
      record {
        size = ap length (sym l) ∙ ap suc d.size;
        bytes = subst Bytes l (w.small, d.bytes);
        bits =
            w.bits ∙ ap (λ (x : Bits). bits_of 8 b ++ x) d.bits ∙ sym (append_assoc (bits_of 8 b) (bits_of_bytes u) p)
            ∙ ap₂ (λ (x : List ℕ) (y : Bits). bits_of_bytes x ++ y) l m;
      }

  first : (x : Field) → take_field 8 bs ≡ x → after_byte (λ q. take_bytes n q) x ≡ row s r → Spelled (suc n) s bs r
  first short i j = clash (cc)
  first (field b q) i j = others b q (take_back_lem 8 b bs q i) (take_bytes n q) refl j

-- Bytes that are taken were written.
pub bytes_back : (n : ℕ) (bs : Bits) (s : List ℕ) (r : Bits) → take_bytes n bs ≡ row s r → Spelled n s bs r
bytes_back zero bs s r e =
    let q : [] ≡ s = cc in
    let p : bs ≡ r = cc in
    record { size = ap length (sym q); bytes = subst Bytes q tt; bits = p ∙ ap (λ (x : List ℕ). bits_of_bytes x ++ r) q }
bytes_back (suc n) bs s r e = first n (λ q u p i. bytes_back n q u p i) bs s r (take_field 8 bs) refl e

-- Bits that are whole bytes.
pub record Even (n : ℕ) (bs : Bits) : Type 0 where
  pub bytes : List ℕ
  pub is : take_bytes n bs ≡ row bytes []

-- n times eight bits are n bytes.
pub take_even : (n : ℕ) (bs : Bits) → length bs ≡ n * 8 → Even n bs
take_even zero [] h = record { bytes = []; is = refl }
take_even zero (b ∷ bs) h = absurd (omega arith)
take_even (suc n) bs h = first (take_whole_lem 8 0 bs (omega arith)) (λ r l. take_even n r l)
  where
    then : (b : ℕ) (r : Bits) → take_field 8 bs ≡ field b r → Even n r → Even (suc n) bs
    then b r e c = record { bytes = b ∷ c.bytes; is = ap (after_byte (λ q. take_bytes n q)) e ∙ ap (ahead b) c.is }

    first : Whole 8 0 bs → ((r : Bits) → length r ≡ n * 8 → Even n r) → Even (suc n) bs
    first d others = then d.number d.rest d.is (others d.rest (omega (arith, d.long)))

-- Bytes are told by their bits.
pub bytes_one : (a b : List ℕ) → Bytes a → Bytes b → bits_of_bytes a ≡ bits_of_bytes b → a ≡ b
bytes_one a b p q e =
    let l : length a ≡ length b = omega (arith, ap length e, length_bytes a, length_bytes b) in
    let z : row a [] ≡ row b [] = sym (take_bytes_lem a [] p) ∙ ap₂ (λ (n : ℕ) (u : Bits). take_bytes n (u ++ [])) l e ∙ take_bytes_lem b [] q in
    cc
