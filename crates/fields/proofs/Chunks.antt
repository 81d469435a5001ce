-- The bits of a row of bytes, what the answer for a field tells, and the bytes of a spelling, one at a time.
use mathlib.Core.Path.{◌≡◌, refl, sym, ap, ap₂, ◌∙◌, subst}
use mathlib.Core.Bool.{Bool}
use mathlib.Core.List.{List, [], ◌∷◌, ◌++◌, append_assoc, append-nil}
use Prim.Native.Nat.{ℕ, zero, suc, ◌+◌, ◌-◌, ◌*◌, ◌/◌, ◌^◌, ◌≤◌, ◌<◌}
use native.Mathlib.Nat.{suc-add, div-div-eq-div-mul}
use native.Mathlib.Omega.{arith}
use lib.Pow.{pow-add}
use lib.ListN.{length, get_or, take, drop, set, length-drop, length-set}
use native.Mathlib.Numerals.{add-one}
use lib.Seq.{drop_at, drop-append-add, drop-nil, take-suc-set, length-take-le, take_all}
use borrow.Rule.Slice.PartMut.{put_mid}
use Rattle.std.proofs.lemmas.Slice.{take-put_mid}
use borrow.Author.Rules.{rules}
use Rattle.std.specs.Prelude.{Some, None, IsSome}
use Rattle.keys.specs.Bits.{Bits, odd, unit, bits_of, Field, short, field, take_on, take_field, bits_of_bytes, Row, cut, row, ahead, after_byte, take_bytes}
use Rattle.keys.proofs.BitsLaws.{clash, length_bits, take_back_lem, take_whole_lem, take_short, length_bytes}
use Rattle.fields.specs.Take.{answered, Copied}

-- ---- A part of a byte

bits_split : (a b x : ℕ) → bits_of (a + b) x ≡ bits_of a (x / 2 ^ b) ++ bits_of b x
bits_split zero b x = let e : 0 + b ≡ b = omega arith in ap (λ (k : ℕ). bits_of k x) e
bits_split (suc a) b x = ap (λ (k : ℕ). bits_of k x) (suc-add a b) ∙ ap₂ (λ (h : Bool) (t : Bits). h ∷ t) (ap odd top) (bits_split a b x)
  where
    top : x / 2 ^ (a + b) ≡ x / 2 ^ b / 2 ^ a
    top =
        let e : a + b ≡ b + a = omega arith in
        ap (λ (k : ℕ). x / 2 ^ k) e ∙ ap (λ (k : ℕ). x / k) (pow-add 2 b a) ∙ sym (div-div-eq-div-mul x (2 ^ b) (2 ^ a))

-- The next n bits of a number behind its first r.
pub part_first : (m r n x : ℕ) (t : Bits) → r + n ≤ m → drop r (bits_of m x ++ t) ≡ bits_of n (x / 2 ^ (m - r - n)) ++ drop (r + n) (bits_of m x ++ t)
part_first m r n x t h =
    let e : m ≡ r + (n + (m - r - n)) = omega arith in
    let f : m ≡ r + n + (m - r - n) = omega arith in
    let low : ℕ = m - r - n in
    let y : ℕ = x / 2 ^ (n + low) in
    let z : ℕ = x / 2 ^ low in
    let one : bits_of m x ≡ bits_of r y ++ (bits_of n z ++ bits_of low x) = ap (λ (k : ℕ). bits_of k x) e ∙ bits_split r (n + low) x ∙ ap (λ (k : Bits). bits_of r y ++ k) (bits_split n low x) in
    let two : bits_of m x ≡ bits_of (r + n) z ++ bits_of low x = ap (λ (k : ℕ). bits_of k x) f ∙ bits_split (r + n) low x in
    ap (λ (k : Bits). drop r (k ++ t)) one ∙ ap (drop r) (append_assoc (bits_of r y) (bits_of n z ++ bits_of low x) t)
    ∙ drop_at (bits_of r y) ((bits_of n z ++ bits_of low x) ++ t) r (length_bits r y)
    ∙ append_assoc (bits_of n z) (bits_of low x) t
    ∙ ap (λ (k : Bits). bits_of n z ++ k)
    (sym (ap (λ (k : Bits). drop (r + n) (k ++ t)) two ∙ ap (drop (r + n)) (append_assoc (bits_of (r + n) z) (bits_of low x) t)
    ∙ drop_at (bits_of (r + n) z) (bits_of low x ++ t) (r + n) (length_bits (r + n) z)))

-- The bits from any bit on are the next n of its byte and then the others.
pub part_at : (s : List ℕ) (q r n : ℕ) → q < length s → r + n ≤ 8
    → drop (q * 8 + r) (bits_of_bytes s) ≡ bits_of n (get_or s q 0 / 2 ^ (8 - r - n)) ++ drop (q * 8 + r + n) (bits_of_bytes s)
part_at [] q r n h l = absurd (omega arith)
part_at (x ∷ s) zero r n h l =
    let e : 0 * 8 + r ≡ r = omega arith in
    ap (λ (k : ℕ). drop k (bits_of_bytes (x ∷ s))) e ∙ part_first 8 r n x (bits_of_bytes s) l
    ∙ ap (λ (k : ℕ). bits_of n (x / 2 ^ (8 - r - n)) ++ drop (k + n) (bits_of_bytes (x ∷ s))) (sym e)
part_at (x ∷ s) (suc q) r n h l =
    past (q * 8 + r) (suc q * 8 + r) (omega arith) ∙ part_at s q r n (omega arith) l
    ∙ ap (λ (k : Bits). bits_of n (get_or s q 0 / 2 ^ (8 - r - n)) ++ k) (sym (past (q * 8 + r + n) (suc q * 8 + r + n) (omega arith)))
  where
    past : (i j : ℕ) → j ≡ length (bits_of 8 x) + i → drop j (bits_of_bytes (x ∷ s)) ≡ drop i (bits_of_bytes s)
    past i j e = ap (λ (k : ℕ). drop k (bits_of_bytes (x ∷ s))) e ∙ drop-append-add (bits_of 8 x) (bits_of_bytes s) i

-- ---- A field

pub taking_short : (s : List ℕ) (bit width : ℕ) → length s * 8 - bit < width → None ≡ answered (take_field width (drop bit (bits_of_bytes s)))
taking_short s bit width h = sym (ap answered (take_short width 0 (drop bit (bits_of_bytes s)) (omega (arith, length-drop bit (bits_of_bytes s), length_bytes s))))

-- ---- What a field's answer tells

pub take_rest : (w a p : ℕ) (all : Bits) (n : ℕ) (r : Bits) → take_on a w (drop p all) ≡ field n r → r ≡ drop (p + w) all
take_rest zero a p all n r e =
    let q : p ≡ p + 0 = omega arith in
    let z : drop p all ≡ r = cc in
    sym z ∙ ap (λ (k : ℕ). drop k all) q
take_rest (suc w) a p [] n r e =
    let d : take_on a (suc w) [] ≡ field n r = ap (take_on a (suc w)) (sym (drop-nil p)) ∙ e in
    clash (cc)
take_rest (suc w) a zero (b ∷ all) n r e =
    let q : 0 + w ≡ w = omega arith in
    let q' : 0 + suc w ≡ suc w = omega arith in
    take_rest w (a * 2 + unit b) 0 all n r e ∙ ap (λ (k : ℕ). drop k all) q ∙ ap (λ (k : ℕ). drop k (b ∷ all)) (sym q')
take_rest (suc w) a (suc p) (b ∷ all) n r e =
    take_rest (suc w) a p all n r e ∙ ap (λ (k : ℕ). drop k (b ∷ all)) (sym (suc-add p (suc w)))

take_fits : (w a : ℕ) (bs : Bits) (n : ℕ) (r : Bits) → take_on a w bs ≡ field n r → w ≤ length bs
take_fits zero a bs n r e = omega arith
take_fits (suc w) a [] n r e = clash (cc)
take_fits (suc w) a (b ∷ bs) n r e = let h : w ≤ length bs = take_fits w (a * 2 + unit b) bs n r e in omega arith

-- The field of w bits at bit p has the number n.
pub record Told (bs : Bits) (p w n : ℕ) : Type 0 where
  pub is : take_field w (drop p bs) ≡ field n (drop (p + w) bs)
  pub small : n < 2 ^ w
  pub within : p ≤ length bs → p + w ≤ length bs

told : (bs : Bits) (p w n : ℕ) (x : Field) → take_field w (drop p bs) ≡ x → Some n ≡ answered x → Told bs p w n
told bs p w n short i e = clash (cc)
told bs p w n (field m r) i e =
    let q : n ≡ m = cc in
    record {
      is = i ∙ ap₂ field (sym q) (take_rest w 0 p bs m r i);
      small = subst (λ (x : ℕ). x < 2 ^ w) (sym q) (take_back_lem w m (drop p bs) r i).small;
      within = λ h. omega (arith, take_fits w 0 (drop p bs) m r i, length-drop p bs);
    }

pub number_told : (bs : Bits) (p w n : ℕ) → Some n ≡ answered (take_field w (drop p bs)) → Told bs p w n
number_told bs p w n e = told bs p w n (take_field w (drop p bs)) refl e

pub field_short : (x : Field) → None ≡ answered x → x ≡ short
field_short short e = refl
field_short (field n r) e = clash (cc)

-- A field that ends before the bits do is there.
pub is_there : (bs : Bits) (p w : ℕ) → p + w ≤ length bs → IsSome (answered (take_field w (drop p bs)))
is_there bs p w h =
    let d = take_whole_lem w 0 (drop p bs) (omega (arith, length-drop p bs)) in
    subst (λ (x : Field). IsSome (answered x)) (sym d.is) (search rules)

-- ---- The bytes of a spelling

-- A row with bytes in front.
abbrev pub before : List ℕ → Row → Row
before l cut = cut
before l (row s r) = row (l ++ s) r

before_ahead : (l : List ℕ) (b : ℕ) (x : Row) → before l (ahead b x) ≡ before (l ++ (b ∷ [])) x
before_ahead l b cut = refl
before_ahead l b (row s r) = ap (λ (y : List ℕ). row y r) (sym (append_assoc l (b ∷ []) s))

before_none : (x : Row) → before [] x ≡ x
before_none cut = refl
before_none (row s r) = refl

-- i of n bytes are copied.
pub record Copying (bs : Bits) (bit n i : ℕ) (text : List ℕ) : Type 0 where
  pub few : i ≤ n
  pub same : length text ≡ n
  pub is : take_bytes n (drop bit bs) ≡ before (take i text) (take_bytes (n - i) (drop (bit + i * 8) bs))

pub copying_none : (bs : Bits) (bit : ℕ) (text : List ℕ) → Copying bs bit (length text) 0 text
copying_none bs bit text =
    let b : length text ≡ length text - 0 = omega arith in
    let c : bit ≡ bit + 0 * 8 = omega arith in
    record {
      few = omega arith;
      same = refl;
      is = sym (before_none (take_bytes (length text) (drop bit bs))) ∙ ap₂ (λ (x y : ℕ). before [] (take_bytes x (drop y bs))) b c;
    }

pub copying_more : {bs : Bits} {bit n i : ℕ} {text : List ℕ} (b : ℕ) → Copying bs bit n i text → i < n → Told bs (bit + i * 8) 8 b → Copying bs bit n (i + 1) (set text i b)
copying_more {bs} {bit} {n} {i} {text} b d h t =
    let q : n - i ≡ suc (n - (i + 1)) = omega arith in
    let z : bit + i * 8 + 8 ≡ bit + (i + 1) * 8 = omega arith in
    record {
      few = omega arith;
      same = length-set text i b ∙ d.same;
      is =
          d.is ∙ ap (λ (x : ℕ). before (take i text) (take_bytes x (drop (bit + i * 8) bs))) q
          ∙ ap (λ (x : Field). before (take i text) (after_byte (λ r. take_bytes (n - (i + 1)) r) x)) t.is
          ∙ before_ahead (take i text) b (take_bytes (n - (i + 1)) (drop (bit + i * 8 + 8) bs))
          ∙ ap₂ (λ (l : List ℕ) (x : ℕ). before l (take_bytes (n - (i + 1)) (drop x bs)))
          (sym (ap (λ (x : ℕ). take x (set text i b)) (add-one i) ∙ take-suc-set text i b (omega (arith, d.same)))) z;
    }

pub copying_all : {bs : Bits} {bit n i : ℕ} {old text : List ℕ} → Copying bs bit n i text → n ≤ i → Copied bs bit old 0 n text
copying_all {bs} {bit} {n} {i} {old} {text} d h =
    let e : i ≡ n = omega (arith, d.few) in
    let q : n - i ≡ 0 = omega arith in
    record {
      bytes = take i text;
      many = length-take-le i text (omega (arith, d.same)) ∙ e;
      text = ap (λ (x : ℕ). take x text) (omega arith);
      are =
          d.is ∙ ap (λ (x : ℕ). before (take i text) (take_bytes x (drop (bit + i * 8) bs))) q
          ∙ ap₂ (λ (x : List ℕ) (y : ℕ). row x (drop (bit + y * 8) bs)) (append-nil (take i text)) e;
    }

-- What was copied to a part of the text.
pub copied_within : {bs : Bits} {at m : ℕ} {old new : List ℕ} (bit : ℕ) (text : List ℕ) (to n k : ℕ) → to + n ≤ length text → k ≡ n → at ≡ bit → length old ≡ m → old ≡ take k (drop to text)
    → length new ≡ m → Copied bs at old 0 m new → Copied bs bit text to n (put_mid to k text new)
copied_within {bs} {at} {m} {old} {new} bit text to n k h e p l o q d =
    let z : 0 + m ≡ m = omega arith in
    let many : m ≡ n = sym l ∙ ap length o ∙ length-take-le k (drop to text) (omega (arith, length-drop to text)) ∙ e in
    let whole : d.bytes ≡ new = sym d.text ∙ ap (λ (x : ℕ). take x new) z ∙ take_all m new (omega arith) in
    record {
      bytes = d.bytes;
      many = d.many ∙ many;
      are = subst (λ (x : ℕ). take_bytes n (drop x bs) ≡ row d.bytes (drop (x + n * 8) bs)) p (subst (λ (x : ℕ). take_bytes x (drop at bs) ≡ row d.bytes (drop (at + x * 8) bs)) many d.are);
      text = take-put_mid to k text new (to + n) (omega arith) (omega arith) ∙ ap (λ (x : List ℕ). take to text ++ x) (sym whole);
    }
