-- Bytes joined to one number: its bits are theirs, a field in them is some of its digits, and to replace those is to replace the field.
use mathlib.Core.Path.{◌≡◌, refl, sym, ap, ap₂, ◌∙◌, subst}
use mathlib.Core.List.{List, [], ◌∷◌, ◌++◌, append_assoc, append-nil}
use Prim.Native.Nat.{ℕ, zero, suc, ◌+◌, ◌-◌, ◌*◌, ◌/◌, ◌%◌, ◌^◌, ◌≤◌, ◌<◌}
use native.Mathlib.Nat.{mod-lt}
use native.Mathlib.Omega.{arith}
use lib.Arith.{digits_lt}
use lib.Pow.{pow_pos, pow-add, pow_mono, shl_lt, shl_exact, shr-shr, shr_lt, split, high}
use lib.ListN.{length, get_or, take, drop, set, length-append, length-drop, length-set, take-append-drop}
use lib.Seq.{sets, drop-append-le, drop-cons, drop-drop, length-take-le, take_all}
use borrow.Rule.Slice.PartMut.{mid_of, post_of, put_mid, put_same}
use Rattle.std.specs.Int.{w32, to_be_bytes}
use Rattle.std.proofs.lemmas.Nat.{and_mask}
use Rattle.std.specs.Int.Bits.{bit_and}
use Rattle.std.specs.Prelude.{Some}
use Rattle.keys.specs.Bits.{Bits, unit, bits_of, bits_of_bytes, take_on, take_field, take_bytes, row, ahead, after_byte}
use Rattle.keys.proofs.BitsLaws.{length_bits, bits_low, length_bytes, take_on_written}
use Rattle.fields.proofs.PutLaws.{bits_front, bits_mod, bits_three, bytes_append, bytes_set, sets_append, sets_left, sets_right, sets_whole, sets_middle, text_suc}
use Rattle.fields.specs.Take.{answered, Four}
use Rattle.fields.proofs.Chunks.{part_first, part_at, Told, number_told}

-- ---- Bytes joined

-- A number with a byte behind it: the bits of both.
bits_join : (m x y : ℕ) → y < 256 → bits_of (m + 8) (x * 256 + y) ≡ bits_of m x ++ bits_of 8 y
bits_join m x y h = bits_front (m + 8) m 8 (x * 256 + y) refl ∙ ap₂ (λ (a : ℕ) (b : Bits). bits_of m a ++ b) (high x 8 h) (bits_low 8 x y)

module _ (s : List ℕ) where
  -- The bits from a byte on are its own and those from the next.
  byte_first : (q : ℕ) → q < length s → drop (q * 8) (bits_of_bytes s) ≡ bits_of 8 (get_or s q 0) ++ drop ((q + 1) * 8) (bits_of_bytes s)
  byte_first q h =
      let a : q * 8 ≡ q * 8 + 0 = omega arith in
      let b : q * 8 + 0 + 8 ≡ (q + 1) * 8 = omega arith in
      let z : get_or s q 0 / 2 ^ (8 - 0 - 8) ≡ get_or s q 0 = omega arith in
      ap (λ (k : ℕ). drop k (bits_of_bytes s)) a ∙ part_at s q 0 8 h (omega arith)
      ∙ ap₂ (λ (x k : ℕ). bits_of 8 x ++ drop k (bits_of_bytes s)) z b

  -- A number and the byte behind it are one number.
  join_next : (m x q n : ℕ) (t : Bits) → n ≡ q + 1 → q < length s → get_or s q 0 < 256 → t ≡ bits_of m x ++ drop (q * 8) (bits_of_bytes s)
      → t ≡ bits_of (m + 8) (x * 256 + get_or s q 0) ++ drop (n * 8) (bits_of_bytes s)
  join_next m x q n t e h l p =
      p ∙ ap (λ (k : Bits). bits_of m x ++ k) (byte_first q h)
      ∙ sym (append_assoc (bits_of m x) (bits_of 8 (get_or s q 0)) (drop ((q + 1) * 8) (bits_of_bytes s)))
      ∙ ap₂ (λ (k : Bits) (y : ℕ). k ++ drop (y * 8) (bits_of_bytes s)) (sym (bits_join m x (get_or s q 0) l)) (sym e)

  -- Two bytes.
  pub two_bits : (q : ℕ) → q + 2 ≤ length s → get_or s (q + 1) 0 < 256
      → drop (q * 8) (bits_of_bytes s) ≡ bits_of 16 (get_or s q 0 * 256 + get_or s (q + 1) 0) ++ drop ((q + 2) * 8) (bits_of_bytes s)
  two_bits q h l = join_next 8 (get_or s q 0) (q + 1) (q + 2) (drop (q * 8) (bits_of_bytes s)) (omega arith) (omega arith) l (byte_first q (omega arith))

  -- Four bytes.
  pub four_bits : (q w : ℕ) → q + 4 ≤ length s → Four s q w → drop (q * 8) (bits_of_bytes s) ≡ bits_of 32 w ++ drop ((q + 4) * 8) (bits_of_bytes s)
  four_bits q w h f =
      let t : Bits = drop (q * 8) (bits_of_bytes s) in
      let x : ℕ = get_or s q 0 * 256 + get_or s (q + 1) 0 in
      let three = join_next 16 x (q + 2) (q + 3) t (omega arith) (omega arith) f.c (two_bits q (omega arith) f.b) in
      join_next 24 (x * 256 + get_or s (q + 2) 0) (q + 3) (q + 4) t (omega arith) (omega arith) f.d three
      ∙ ap (λ (k : ℕ). bits_of 32 k ++ drop ((q + 4) * 8) (bits_of_bytes s)) (sym f.is)

-- Four bytes make a number of 32 bits.
pub four_small : {s : List ℕ} {q w : ℕ} → Four s q w → w < 2 ^ 32
four_small f = omega (arith, f.is, f.a, f.b, f.c, f.d)

-- ---- A field in them

-- A field inside a number's bits is some of its digits.
pub field_inside : (m r w x : ℕ) (t : Bits) → r + w ≤ m → Some (x / 2 ^ (m - r - w) % 2 ^ w) ≡ answered (take_field w (drop r (bits_of m x ++ t)))
field_inside m r w x t h =
    let y : ℕ = x / 2 ^ (m - r - w) in
    let e : 0 * 2 ^ w + y % 2 ^ w ≡ y % 2 ^ w = omega arith in
    sym (ap (λ (k : Bits). answered (take_field w k)) (part_first m r w x t h) ∙ ap answered (take_on_written w 0 y (drop (r + w) (bits_of m x ++ t))) ∙ ap Some e)

-- Bits behind those of a field don't matter.
answered_pad : (w a : ℕ) (x z : Bits) → w ≤ length x → answered (take_on a w (x ++ z)) ≡ answered (take_on a w x)
answered_pad zero a x z h = refl
answered_pad (suc w) a [] z h = absurd (omega arith)
answered_pad (suc w) a (b ∷ x) z h = answered_pad w (a * 2 + unit b) x z (omega arith)

-- Four zeros.
abbrev none : List ℕ
none = 0 ∷ 0 ∷ 0 ∷ 0 ∷ []

none_at : (i : ℕ) → get_or none i 0 ≡ 0
none_at zero = refl
none_at (suc zero) = refl
none_at (suc (suc zero)) = refl
none_at (suc (suc (suc zero))) = refl
none_at (suc (suc (suc (suc i)))) = refl

-- Zeros behind the last byte change no byte.
padded_at : (s : List ℕ) (i : ℕ) → get_or (s ++ none) i 0 ≡ get_or s i 0
padded_at [] i = none_at i
padded_at (x ∷ s) zero = refl
padded_at (x ∷ s) (suc i) = padded_at s i

four_padded : (s : List ℕ) (q w : ℕ) → Four s q w → Four (s ++ none) q w
four_padded s q w f =
    let a : get_or (s ++ none) q 0 ≡ get_or s q 0 = padded_at s q in
    let b : get_or (s ++ none) (q + 1) 0 ≡ get_or s (q + 1) 0 = padded_at s (q + 1) in
    let c : get_or (s ++ none) (q + 2) 0 ≡ get_or s (q + 2) 0 = padded_at s (q + 2) in
    let d : get_or (s ++ none) (q + 3) 0 ≡ get_or s (q + 3) 0 = padded_at s (q + 3) in
    record { a = omega (arith, a, f.a); b = omega (arith, b, f.b); c = omega (arith, c, f.c); d = omega (arith, d, f.d); is = omega (arith, a, b, c, d, f.is) }

drop_eights : (q r bit : ℕ) (bs : Bits) → bit ≡ q * 8 + r → drop bit bs ≡ drop r (drop (q * 8) bs)
drop_eights q r bit bs e = ap (λ (k : ℕ). drop k bs) e ∙ sym (drop-drop r (q * 8) bs)

-- A field by the four bytes from its first.
pub field_of : (s : List ℕ) (bit width w : ℕ) → bit + width ≤ length s * 8 → width ≤ 24 → Four s (bit / 8) w
    → Some (w / 2 ^ (32 - bit % 8 - width) % 2 ^ width) ≡ answered (take_field width (drop bit (bits_of_bytes s)))
field_of s bit width w h n f =
    let q : ℕ = bit / 8 in
    let bs : Bits = bits_of_bytes s in
    let all : Bits = bits_of_bytes (s ++ none) in
    let is : drop (q * 8) all ≡ bits_of 32 w ++ drop ((q + 4) * 8) all = four_bits (s ++ none) q w (omega (arith, length-append s none)) (four_padded s q w f) in
    let there : bit ≤ length bs = omega (arith, length_bytes s) in
    field_inside 32 (bit % 8) width w (drop ((q + 4) * 8) all) (omega arith)
    ∙ ap (λ (k : Bits). answered (take_field width (drop (bit % 8) k))) (sym is)
    ∙ ap (λ (k : Bits). answered (take_field width k))
    (sym (drop_eights q (bit % 8) bit all (omega arith)) ∙ ap (drop bit) (bytes_append s none) ∙ drop-append-le bit bs (bits_of_bytes none) there)
    ∙ answered_pad width 0 (drop bit bs) (bits_of_bytes none) (omega (arith, length-drop bit bs, length_bytes s))

-- A byte by the two that it stands in.
pub byte_across : (s : List ℕ) (q skip bit b : ℕ) → bit ≡ q * 8 + skip → q + 2 ≤ length s → skip ≤ 8 → get_or s (q + 1) 0 < 256
    → b ≡ (get_or s q 0 * 256 + get_or s (q + 1) 0) / 2 ^ (8 - skip) % 256 → Told (bits_of_bytes s) bit 8 b
byte_across s q skip bit b e h l m is =
    let x : ℕ = get_or s q 0 * 256 + get_or s (q + 1) 0 in
    let d : 16 - skip - 8 ≡ 8 - skip = omega arith in
    number_told (bits_of_bytes s) bit 8 b
    (ap Some (is ∙ ap (λ (k : ℕ). x / 2 ^ k % 256) (sym d)) ∙ field_inside 16 skip 8 x (drop ((q + 2) * 8) (bits_of_bytes s)) (omega arith)
    ∙ ap (λ (k : Bits). answered (take_field 8 (drop skip k))) (sym (two_bits s q h m))
    ∙ ap (λ (k : Bits). answered (take_field 8 k)) (sym (drop_eights q skip bit (bits_of_bytes s) e)))

-- A byte of the key.
pub byte_whole : (s : List ℕ) (q bit b : ℕ) → bit ≡ q * 8 → q < length s → b < 256 → b ≡ get_or s q 0 → Told (bits_of_bytes s) bit 8 b
byte_whole s q bit b e h l is =
    let z : Some (b / 2 ^ (8 - 0 - 8) % 2 ^ 8) ≡ Some b = ap Some (omega arith) in
    number_told (bits_of_bytes s) bit 8 b
    (sym z ∙ field_inside 8 0 8 b (drop ((q + 1) * 8) (bits_of_bytes s)) (omega arith)
    ∙ ap (λ (k : ℕ). answered (take_field 8 (bits_of 8 k ++ drop ((q + 1) * 8) (bits_of_bytes s)))) is
    ∙ ap (λ (k : Bits). answered (take_field 8 k)) (sym (ap (λ (k : ℕ). drop k (bits_of_bytes s)) e ∙ byte_first s q h)))

-- So many bytes of the key.
pub bytes_whole : (s : List ℕ) (q n : ℕ) → q + n ≤ length s → ((i : ℕ) → get_or s i 0 < 256) → take_bytes n (drop (q * 8) (bits_of_bytes s)) ≡ row (take n (drop q s)) (drop (q * 8 + n * 8) (bits_of_bytes s))
bytes_whole s q zero h b =
    let z : q * 8 ≡ q * 8 + 0 * 8 = omega arith in
    ap (λ (k : ℕ). row [] (drop k (bits_of_bytes s))) z
bytes_whole s q (suc n) h b =
    let first = byte_whole s q (q * 8) (get_or s q 0) refl (omega arith) (b q) refl in
    let next : q * 8 + 8 ≡ suc q * 8 = omega arith in
    let last : suc q * 8 + n * 8 ≡ q * 8 + suc n * 8 = omega arith in
    ap (after_byte (λ r. take_bytes n r)) first.is ∙ ap (λ (k : ℕ). ahead (get_or s q 0) (take_bytes n (drop k (bits_of_bytes s)))) next
    ∙ ap (ahead (get_or s q 0)) (bytes_whole s (suc q) n (omega arith) b)
    ∙ ap₂ (λ (l : List ℕ) (k : ℕ). row l (drop k (bits_of_bytes s))) (sym (ap (take (suc n)) (drop-cons s q 0 (omega arith)))) last

-- ---- The lowest digits

pub masked : (x k : ℕ) → k ≤ 32 → bit_and x (1 * 2 ^ k % 2 ^ 64 - 1) ≡ x % 2 ^ k
masked x k h =
    let one : 1 * 2 ^ k % 2 ^ 64 ≡ 2 ^ k = shl_exact {a = 1} 1 k 64 (omega arith) (omega arith) ∙ omega arith in
    ap (λ (y : ℕ). bit_and x (y - 1)) one ∙ and_mask x k

-- ---- Digits replaced

-- The lowest digits are no more than those.
pub lowest_small : (x n w : ℕ) → x ≡ n % 2 ^ w → x < 2 ^ w
lowest_small x n w e = subst (λ (y : ℕ). y < 2 ^ w) (sym e) (mod-lt n (pow_pos w))

-- A number with some of its digits replaced has no more digits.
pub replaced_small : (n old width rest number : ℕ) → old < 2 ^ n → width + rest ≤ n → number < 2 ^ width → (old / 2 ^ rest / 2 ^ width * 2 ^ width + number) * 2 ^ rest + old % 2 ^ rest < 2 ^ n
replaced_small n old width rest number b k h =
    let e : n ≡ n - (rest + width) + (rest + width) = omega arith in
    let f : n ≡ n - (rest + width) + width + rest = omega arith in
    let top : old / 2 ^ rest / 2 ^ width < 2 ^ (n - (rest + width)) =
    subst (λ (x : ℕ). x < 2 ^ (n - (rest + width))) (sym (shr-shr old rest width)) (shr_lt (n - (rest + width)) (rest + width) (subst (λ (x : ℕ). old < 2 ^ x) e b)) in
    subst (λ (x : ℕ). (old / 2 ^ rest / 2 ^ width * 2 ^ width + number) * 2 ^ rest + old % 2 ^ rest < x)
    (sym (ap (λ (x : ℕ). 2 ^ x) f ∙ pow-add 2 (n - (rest + width) + width) rest ∙ ap (λ (x : ℕ). x * 2 ^ rest) (pow-add 2 (n - (rest + width)) width)))
    (digits_lt (digits_lt top h) (mod-lt old (pow_pos rest)))

module _ (old width rest number part : ℕ) (l : old < 2 ^ 32) (m : width + rest ≤ 32) (h : number < 2 ^ width) (p : part ≡ old / 2 ^ rest % 2 ^ width) where
  part_small : part < 2 ^ width
  part_small = subst (λ (x : ℕ). x < 2 ^ width) (sym p) (mod-lt (old / 2 ^ rest) (pow_pos width))

  -- A number of so many digits, moved up.
  up_small : {x : ℕ} → x < 2 ^ width → x * 2 ^ rest < 2 ^ 32
  up_small {x} k = omega (arith, shl_lt {a = x} width rest k, pow_mono {j = 32} m)

  up_exact : {x : ℕ} → x < 2 ^ width → x * 2 ^ rest % 2 ^ 64 ≡ x * 2 ^ rest
  up_exact {x} k = shl_exact {a = x} width rest 64 k (omega arith)

  -- The number by its digits above, in and below the part.
  digits : (old / 2 ^ rest / 2 ^ width * 2 ^ width + part) * 2 ^ rest + old % 2 ^ rest ≡ old
  digits =
      ap (λ (x : ℕ). (old / 2 ^ rest / 2 ^ width * 2 ^ width + x) * 2 ^ rest + old % 2 ^ rest) p
      ∙ ap (λ (x : ℕ). x * 2 ^ rest + old % 2 ^ rest) (split (old / 2 ^ rest) width) ∙ split old rest

  pub replaced_below : part * 2 ^ rest % 2 ^ 64 ≤ old
  replaced_below = omega (arith, digits, up_exact part_small)

  pub replaced_fits : old - part * 2 ^ rest % 2 ^ 64 + number * 2 ^ rest % 2 ^ 64 < 2 ^ 64
  replaced_fits = omega (arith, l, up_exact h, up_small h)

  pub replaced_is : old - part * 2 ^ rest % 2 ^ 64 + number * 2 ^ rest % 2 ^ 64 ≡ (old / 2 ^ rest / 2 ^ width * 2 ^ width + number) * 2 ^ rest + old % 2 ^ rest
  replaced_is = omega (arith, digits, up_exact part_small, up_exact h)

-- ---- Bytes stored

-- A byte stored.
byte_put : (s : List ℕ) (q y : ℕ) → q < length s → bits_of_bytes (set s q y) ≡ sets (bits_of_bytes s) (q * 8) (bits_of 8 y)
byte_put s q y h =
    let z : q * 8 + 0 ≡ q * 8 = omega arith in
    bytes_set s q 0 y (bits_of 8 y) h (omega (arith, length_bits 8 y))
    (sym (sets_whole (bits_of 8 y) (bits_of 8 (get_or s q 0)) (length_bits 8 y ∙ sym (length_bits 8 (get_or s q 0)))))
    ∙ ap (λ (k : ℕ). sets (bits_of_bytes s) k (bits_of 8 y)) z

-- Bytes stored in place of as many.
pub mid_put : (s new : List ℕ) (q k : ℕ) → q + length new ≤ length s → k ≡ length new → bits_of_bytes (put_mid q k s new) ≡ sets (bits_of_bytes s) (q * 8) (bits_of_bytes new)
mid_put s new q k h e =
    let a : Bits = bits_of_bytes (take q s) in
    let m : Bits = bits_of_bytes (mid_of q k s) in
    let p : Bits = bits_of_bytes (post_of q k s) in
    let y : Bits = bits_of_bytes new in
    let parts = λ (x : List ℕ). bytes_append (take q s) (x ++ post_of q k s) ∙ ap (λ (z : Bits). a ++ z) (bytes_append x (post_of q k s)) in
    let all : bits_of_bytes s ≡ a ++ (m ++ p) = ap bits_of_bytes (sym (put_same q k s)) ∙ parts (mid_of q k s) in
    let place : q * 8 ≡ length a + 0 = omega (arith, length_bytes (take q s), length-take-le q s (omega arith)) in
    let many : length y ≡ length m = omega (arith, length_bytes new, length_bytes (mid_of q k s), length-take-le k (drop q s) (omega (arith, length-drop q s))) in
    parts new
    ∙ sym (ap₂ (λ (x : Bits) (i : ℕ). sets x i y) all place ∙ sets_right y a (m ++ p) 0
    ∙ ap (λ (z : Bits). a ++ z) (sets_left y m p 0 (omega (arith, many)) ∙ ap (λ (z : Bits). z ++ p) (sets_whole y m many)))

-- The four bytes of a number.
pub four_bytes : (x : ℕ) → bits_of_bytes (to_be_bytes w32 x) ≡ bits_of 32 x
four_bytes x =
    let both = λ (a b : Bits). a ++ b in
    ap₂ both (bits_mod 8 (x / 2 ^ 24)) (ap₂ both (bits_mod 8 (x / 2 ^ 16)) (ap₂ both (bits_mod 8 (x / 2 ^ 8)) (append-nil (bits_of 8 (x % 256)) ∙ bits_mod 8 x)))
    ∙ sym (bits_front 32 8 24 x refl ∙ ap (both (bits_of 8 (x / 2 ^ 24))) (bits_front 24 8 16 x refl ∙ ap (both (bits_of 8 (x / 2 ^ 16))) (bits_front 16 8 8 x refl)))

-- ---- A field replaced in a number

module _ (m old skip width rest part new : ℕ) (e : m ≡ skip + width + rest) (h : part < 2 ^ width)
    (is : new ≡ (old / 2 ^ rest / 2 ^ width * 2 ^ width + part) * 2 ^ rest + old % 2 ^ rest) where
  -- The bits of the number with the part are its bits with those of the part.
  pub window_bits : bits_of m new ≡ sets (bits_of m old) skip (bits_of width part)
  window_bits =
      let top : ℕ = old / 2 ^ rest / 2 ^ width in
      let was : bits_of m old ≡ (bits_of skip top ++ bits_of width (old / 2 ^ rest)) ++ bits_of rest old =
      bits_front m (skip + width) rest old e ∙ ap (λ (x : Bits). x ++ bits_of rest old) (bits_front (skip + width) skip width (old / 2 ^ rest) refl) in
      ap (bits_of m) is ∙ bits_three m skip width rest top part (old % 2 ^ rest) e h (mod-lt old (pow_pos rest))
      ∙ ap (λ (x : Bits). (bits_of skip top ++ bits_of width part) ++ x) (bits_mod rest old)
      ∙ sym (sets_middle (bits_of skip top) (bits_of width (old / 2 ^ rest)) (bits_of rest old) (bits_of width part) skip
      (sym (length_bits skip top)) (length_bits width part ∙ sym (length_bits width (old / 2 ^ rest))))
      ∙ ap (λ (x : Bits). sets x skip (bits_of width part)) (sym was)

  -- To store them all is to store the part.
  window_sets : (before behind : Bits) (at bit : ℕ) → at ≡ length before → bit ≡ at + skip
      → sets (before ++ (bits_of m old ++ behind)) at (bits_of m new) ≡ sets (before ++ (bits_of m old ++ behind)) bit (bits_of width part)
  window_sets before behind at bit a b =
      let whole : List _ = bits_of m old ++ behind in
      let first : at ≡ length before + 0 = omega (arith, a) in
      let there : bit ≡ length before + skip = omega (arith, a, b) in
      ap (λ (k : ℕ). sets (before ++ whole) k (bits_of m new)) first ∙ sets_right (bits_of m new) before whole 0
      ∙ ap (λ (k : Bits). before ++ k)
      (sets_left (bits_of m new) (bits_of m old) behind 0 (omega (arith, length_bits m new, length_bits m old))
      ∙ ap (λ (k : Bits). k ++ behind) (sets_whole (bits_of m new) (bits_of m old) (length_bits m new ∙ sym (length_bits m old)) ∙ window_bits)
      ∙ sym (sets_left (bits_of width part) (bits_of m old) behind skip (omega (arith, length_bits width part, length_bits m old))))
      ∙ sym (ap (λ (k : ℕ). sets (before ++ whole) k (bits_of width part)) there ∙ sets_right (bits_of width part) before whole skip)

-- A number put by the four bytes from its first.
pub window_put : (s : List ℕ) (bit width number old part new : ℕ) → bit / 8 + 4 ≤ length s → width ≤ 24 → Four s (bit / 8) old → part ≡ number % 2 ^ width
    → new ≡ (old / 2 ^ (32 - bit % 8 - width) / 2 ^ width * 2 ^ width + part) * 2 ^ (32 - bit % 8 - width) + old % 2 ^ (32 - bit % 8 - width)
    → sets (bits_of_bytes s) (bit / 8 * 8) (bits_of 32 new) ≡ sets (bits_of_bytes s) bit (bits_of width number)
window_put s bit width number old part new h n f p is =
    let q : ℕ = bit / 8 in
    let bs : Bits = bits_of_bytes s in
    let all : bs ≡ take (q * 8) bs ++ (bits_of 32 old ++ drop ((q + 4) * 8) bs) =
    sym (take-append-drop (q * 8) bs) ∙ ap (λ (k : Bits). take (q * 8) bs ++ k) (four_bits s q old h f) in
    ap (λ (k : Bits). sets k (q * 8) (bits_of 32 new)) all
    ∙ window_sets 32 old (bit % 8) width (32 - bit % 8 - width) part new (omega arith) (subst (λ (x : ℕ). x < 2 ^ width) (sym p) (mod-lt number (pow_pos width))) is
    (take (q * 8) bs) (drop ((q + 4) * 8) bs) (q * 8) bit (sym (length-take-le (q * 8) bs (omega (arith, length_bytes s)))) (omega arith)
    ∙ ap (λ (k : Bits). sets k bit (bits_of width part)) (sym all) ∙ ap (sets bs bit) (ap (bits_of width) p ∙ bits_mod width number)

-- ---- A text put

-- So many bits of a text.
part_length : (text : List ℕ) (i : ℕ) → i ≤ length text → length (bits_of_bytes (take i text)) ≡ i * 8
part_length text i h = length_bytes (take i text) ∙ ap (λ (k : ℕ). k * 8) (length-take-le i text h)

-- What was put of a text, with the last bits of its last byte still to come.
pub record Across (text : List ℕ) (at skip : ℕ) (old : List ℕ) (i last : ℕ) (key : List ℕ) : Type 0 where
  pub small : last < 256
  pub same : length key ≡ length old
  pub is : sets (bits_of_bytes old) (at * 8 + skip) (bits_of_bytes (take i text)) ≡ sets (bits_of_bytes key) ((at + i) * 8) (bits_of skip last)

-- Bits that stand there already.
sets_same : (before v behind : Bits) (i : ℕ) → i ≡ length before → sets (before ++ (v ++ behind)) i v ≡ before ++ (v ++ behind)
sets_same before v behind i e =
    let first : i ≡ length before + 0 = omega (arith, e) in
    ap (λ (k : ℕ). sets (before ++ (v ++ behind)) k v) first ∙ sets_right v before (v ++ behind) 0
    ∙ ap (λ (k : Bits). before ++ k) (sets_left v v behind 0 (omega arith) ∙ ap (λ (k : Bits). k ++ behind) (sets_whole v v refl))

module _ (text : List ℕ) (at skip : ℕ) (old : List ℕ) (l : skip ≤ 8) where
  -- Before the first byte: the bits that stand before the text.
  pub across_none : (last : ℕ) → at < length old → last < 256 → last ≡ get_or old at 0 / 2 ^ (8 - skip) → Across text at skip old 0 last old
  across_none last h small e =
      let bs : Bits = bits_of_bytes old in
      let a : at * 8 ≡ at * 8 + 0 = omega arith in
      let z : (at + 0) * 8 ≡ at * 8 = omega arith in
      let there : drop (at * 8) bs ≡ bits_of skip last ++ drop (at * 8 + 0 + skip) bs =
      ap (λ (k : ℕ). drop k bs) a ∙ part_at old at 0 skip h (omega arith) ∙ ap (λ (k : ℕ). bits_of skip k ++ drop (at * 8 + 0 + skip) bs) (sym e) in
      let all : bs ≡ take (at * 8) bs ++ (bits_of skip last ++ drop (at * 8 + 0 + skip) bs) =
      sym (take-append-drop (at * 8) bs) ∙ ap (λ (k : Bits). take (at * 8) bs ++ k) there in
      record {
        small = small;
        same = refl;
        is =
            all ∙ sym (sets_same (take (at * 8) bs) (bits_of skip last) (drop (at * 8 + 0 + skip) bs) (at * 8) (sym (length-take-le (at * 8) bs (omega (arith, length_bytes old)))))
            ∙ ap₂ (λ (k : Bits) (i : ℕ). sets k i (bits_of skip last)) (sym all) (sym z);
      }

  -- Bits above the lowest ones don't matter.
  low_bits : (last b : ℕ) → bits_of skip (last * 256 + b) ≡ bits_of skip b
  low_bits last b =
      let e : 8 - skip + skip ≡ 8 = omega arith in
      let p : 2 ^ (8 - skip) * 2 ^ skip ≡ 256 = sym (pow-add 2 (8 - skip) skip) ∙ ap (λ (k : ℕ). 2 ^ k) e in
      let q : last * 256 ≡ last * 2 ^ (8 - skip) * 2 ^ skip = ap (λ (k : ℕ). last * k) (sym p) ∙ omega arith in
      ap (λ (k : ℕ). bits_of skip (k + b)) q ∙ bits_low skip (last * 2 ^ (8 - skip)) b

  -- One byte more.
  pub across_more : {i last : ℕ} {key : List ℕ} (b y : ℕ) → Across text at skip old i last key → i < length text → at + i < length key → b < 256
      → b ≡ get_or text i 0 → y ≡ (last * 256 + b) / 2 ^ skip % 256 → Across text at skip old (i + 1) b (set key (at + i) y)
  across_more {i} {last} {key} b y d h k m e v =
      let K : Bits = bits_of_bytes key in
      let here : ℕ = (at + i) * 8 in
      let bs : Bits = bits_of_bytes (take i text) in
      let n : ℕ = last * 256 + b in
      let place : at * 8 + skip + length bs ≡ here + length (bits_of skip last) = omega (arith, part_length text i (omega arith), length_bits skip last) in
      let next : here + length (bits_of 8 (n / 2 ^ skip)) ≡ (at + (i + 1)) * 8 = omega (arith, length_bits 8 (n / 2 ^ skip)) in
      let order : skip + 8 ≡ 8 + skip = omega arith in
      let both : bits_of skip last ++ bits_of 8 b ≡ bits_of 8 (n / 2 ^ skip) ++ bits_of skip n = sym (bits_join skip last b m) ∙ bits_front (skip + 8) 8 skip n order in
      let stored : sets K here (bits_of 8 (n / 2 ^ skip)) ≡ bits_of_bytes (set key (at + i) y) =
      sym (byte_put key (at + i) y k ∙ ap (sets K here) (ap (bits_of 8) v ∙ bits_mod 8 (n / 2 ^ skip))) in
      record {
        small = m;
        same = length-set key (at + i) y ∙ d.same;
        is =
            ap (sets (bits_of_bytes old) (at * 8 + skip)) (text_suc text i h ∙ ap (λ (x : ℕ). bs ++ bits_of 8 x) (sym e))
            ∙ sets_append bs (bits_of 8 b) (bits_of_bytes old) (at * 8 + skip)
            ∙ ap₂ (λ (x : Bits) (j : ℕ). sets x j (bits_of 8 b)) d.is place
            ∙ sym (sets_append (bits_of skip last) (bits_of 8 b) K here) ∙ ap (sets K here) both
            ∙ sets_append (bits_of 8 (n / 2 ^ skip)) (bits_of skip n) K here
            ∙ ap₂ (λ (x : Bits) (j : ℕ). sets x j (bits_of skip n)) stored next
            ∙ ap (sets (bits_of_bytes (set key (at + i) y)) ((at + (i + 1)) * 8)) (low_bits last b);
      }

  -- The last bits too.
  pub across_all : {i last : ℕ} {key : List ℕ} (low : ℕ) (new : List ℕ) → Across text at skip old i last key → i ≡ length text → low ≡ last % 2 ^ skip
      → bits_of_bytes new ≡ sets (bits_of_bytes key) ((at + length text) * 8) (bits_of skip low) → bits_of_bytes new ≡ sets (bits_of_bytes old) (at * 8 + skip) (bits_of_bytes text)
  across_all {i} {last} {key} low new d e v p =
      p ∙ ap₂ (λ (n : ℕ) (x : Bits). sets (bits_of_bytes key) ((at + n) * 8) x) (sym e) (ap (bits_of skip) v ∙ bits_mod skip last)
      ∙ sym d.is ∙ ap (λ (x : List ℕ). sets (bits_of_bytes old) (at * 8 + skip) (bits_of_bytes x)) (take_all i text (omega arith))
