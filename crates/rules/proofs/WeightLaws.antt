-- The key of a tree has at most one byte more than the tree's weight, since no field of the node table is wider than 16 bits.
use mathlib.Core.Path.{◌≡◌, ap, ◌∙◌}
use mathlib.Core.Bool.{Bool, true, false}
use mathlib.Core.List.{List, [], ◌∷◌, ◌++◌}
use Prim.Native.Nat.{ℕ, zero, suc, ◌+◌, ◌*◌, ◌≤◌}
use native.Mathlib.Omega.{arith}
use lib.Dec.{leb, ltb}
use lib.ListN.{length, length-append}
use Rattle.keys.specs.Bits.{Bits, bits_of, bits_of_bytes}
use Rattle.keys.proofs.BitsLaws.{length_bits, length_bytes}
use Rattle.keys.specs.Form.{Value, choice, Form, never, one, word, choose, both, child, write, Fits, fits_one, fits_word, fits_choose, fits_both, fits_child}
use Rattle.keys.specs.Limits.{count_width, length_width, edition_width, edition}
use Rattle.keys.specs.Table.{when, one_of, times, flag, below, spelling, type, named_row, list, rows, member_rows, rows_of, whole_key}
use Rattle.keys.specs.Key.{node_table, key_of}
use Rattle.keys.proofs.KeyLaws.{length_packed}
use Rattle.rules.specs.Weight.{weight}

-- ---- Narrow fields

-- The fields of a form, but for those of its nodes, have at most 16 bits each.
data Narrow : Form → Type 0 where
  is_never_lem : Narrow never
  is_one : Narrow one
  is_word : (w : ℕ) → w ≤ 16 → Narrow (word w)
  is_choice : (w : ℕ) {x : ℕ} {fs : ℕ → Form} → w ≤ 16 → ((k : ℕ) → Narrow (fs k)) → Narrow (choose w x fs)
  is_both : {f g : Form} → Narrow f → Narrow g → Narrow (both f g)
  is_child : {c : ℕ} → Narrow (child c)

-- Every form of a list is so.
infixr 5 ◌also◌
data AllNarrow : List Form → Type 0 where
  none : AllNarrow []
  ◌also◌ : {f : Form} {fs : List Form} → Narrow f → AllNarrow fs → AllNarrow (f ∷ fs)

-- So is any form taken from it, or none.
one_narrow : {fs : List Form} → AllNarrow fs → (k : ℕ) → Narrow (one_of fs k)
one_narrow none k = is_never_lem
one_narrow (a also h) zero = a
one_narrow (a also h) (suc k) = one_narrow h k

-- A form that a test lets be.
when_narrow : (b : Bool) {f : Form} → Narrow f → Narrow (when b f)
when_narrow true h = h
when_narrow false h = is_never_lem

-- A form n times.
times_narrow : (n : ℕ) {f : Form} → Narrow f → Narrow (times n f)
times_narrow zero h = is_one
times_narrow (suc n) h = is_both h (times_narrow n h)

-- A list.
list_narrow : (least : ℕ) {f : Form} → Narrow f → Narrow (list count_width least f)
list_narrow least h = is_choice count_width (omega arith) λ n. when_narrow (leb least n) (times_narrow n h)

-- A number.
below_narrow : (w n : ℕ) → w ≤ 16 → Narrow (below w n)
below_narrow w n h = is_choice w h λ k. when_narrow (ltb k n) is_one

-- A spelling.
spelling_narrow : Narrow spelling
spelling_narrow = is_word length_width (omega arith)

-- A bit that chooses among two forms, as an opt's does.
bit_narrow : {a b : Form} → Narrow a → Narrow b → Narrow (choose 1 0 (one_of (a ∷ b ∷ [])))
bit_narrow a b = is_choice 1 (omega arith) (one_narrow (a also b also none))

-- One bit.
flag_narrow : Narrow flag
flag_narrow = is_choice 1 (omega arith) λ k. is_one

-- ---- The node table

-- The rows of tags 0 to 25, in their order.
rows_narrow : {a b c : Form} → Narrow a → Narrow b → Narrow c → AllNarrow (rows count_width a b c)
rows_narrow a b c =
    let opt-type = bit_narrow is_one (is_child {c = 0}) in
    let opt-args = bit_narrow is_one (list_narrow 0 (is_child {c = 0})) in
    let opt-params = bit_narrow is_one (list_narrow 0 (is_child {c = 4})) in
    let params = list_narrow 0 (is_child {c = 5}) in
    let spelled = spelling_narrow in
    let names = list_narrow 1 spelled in
    let subject = bit_narrow spelled is_one in
    let modifier = below_narrow 2 4 (omega arith) in
    is_never_lem
    also is_both names opt-args
    also below_narrow 4 13 (omega arith)
    also is_choice 3 (omega arith) (one_narrow (spelled also spelled also spelled also is_one also is_one also spelled also spelled also none))
    also is_child
    also list_narrow 1 is_child
    also list_narrow 1 is_child
    also is_child
    also is_both is_child is_child
    also is_both is_child (is_both is_child (is_both is_child is_child))
    also is_both spelled opt-type
    also is_both (below_narrow 2 3 (omega arith)) is_child
    also is_both opt-params (is_both (bit_narrow is_one opt-type) (is_both params is_child))
    also is_both flag_narrow (is_both opt-params (is_both params is_child))
    also is_both modifier (is_both spelled (is_both is_child (is_both opt-type (is_both modifier opt-type))))
    also is_choice count_width (omega arith) (λ n. is_both spelled (times_narrow n (is_both is_child spelled)))
    also bit_narrow (is_both subject (bit_narrow is_never_lem is_child)) (is_both subject opt-type)
    also is_both names opt-args
    also is_both flag_narrow (is_both spelled (is_both (list_narrow 0 spelled) opt-args))
    also list_narrow 0 is_child
    also a
    also b
    also c
    also is_child
    also is_child
    also list_narrow 0 is_child
    also none

-- The row of a named element.
named_narrow : Narrow named_row
named_narrow = is_both spelling_narrow (is_both flag_narrow is_child)

-- The rows of a member.
members_narrow : AllNarrow (member_rows count_width)
members_narrow =
    let opt-type = bit_narrow is_one (is_child {c = 0}) in
    let key = is_choice 2 (omega arith) (one_narrow (spelling_narrow also spelling_narrow also spelling_narrow also none)) in
    let opt-params = bit_narrow is_one (list_narrow 0 (is_child {c = 4})) in
    let params = list_narrow 0 (is_child {c = 5}) in
    let signature = is_both opt-params (is_both (bit_narrow is_one opt-type) (is_both params opt-type)) in
    is_both flag_narrow (is_both key (is_both flag_narrow opt-type))
    also is_both key (is_both flag_narrow signature)
    also signature
    also is_both opt-params (is_both params opt-type)
    also is_both flag_narrow (is_both (bit_narrow is_one (is_both spelling_narrow is_child)) is_child)
    also none

-- The rows of each class.
class_narrow : (c : ℕ) → AllNarrow (rows_of count_width c)
class_narrow zero = rows_narrow is_never_lem is_never_lem is_never_lem
class_narrow (suc zero) = rows_narrow is_child is_child named_narrow
class_narrow (suc (suc zero)) = rows_narrow is_never_lem is_never_lem named_narrow
class_narrow (suc (suc (suc zero))) = rows_narrow is_child is_child is_never_lem
class_narrow (suc (suc (suc (suc zero)))) = is_both spelling_narrow (is_both (bit_narrow is_one is_child) (bit_narrow is_one is_child)) also none
class_narrow (suc (suc (suc (suc (suc zero))))) = is_both flag_narrow (is_both spelling_narrow (is_both flag_narrow (bit_narrow is_one is_child))) also none
class_narrow (suc (suc (suc (suc (suc (suc zero)))))) = members_narrow
class_narrow (suc (suc (suc (suc (suc (suc (suc c))))))) = none

-- No tag is wide.
tag_narrow : (c : ℕ) → node_table.tag_width c ≤ 16
tag_narrow zero = omega arith
tag_narrow (suc zero) = omega arith
tag_narrow (suc (suc zero)) = omega arith
tag_narrow (suc (suc (suc zero))) = omega arith
tag_narrow (suc (suc (suc (suc zero)))) = omega arith
tag_narrow (suc (suc (suc (suc (suc zero))))) = omega arith
tag_narrow (suc (suc (suc (suc (suc (suc zero)))))) = omega arith
tag_narrow (suc (suc (suc (suc (suc (suc (suc c))))))) = omega arith

-- ---- Bits and bytes

-- A field and the bits after it.
field_length : (w k : ℕ) (bs : Bits) → length (bits_of w k ++ bs) ≡ w + length bs
field_length w k bs = length-append (bits_of w k) bs ∙ ap (λ (n : ℕ). n + length bs) (length_bits w k)

-- A value's bits are those of its weight at most.
bits_most : {f : Form} {v : Value} → Fits node_table f v → Narrow f → length (write node_table f v) ≤ 8 * weight v
bits_most fits_one n = omega arith
bits_most (fits_word {s = s} a b c) (is_word w l) = omega (arith, field_length w (length s) (bits_of_bytes s), length_bytes s)
bits_most (fits_choose {fs = fs} {k = k} {v = v} a h) (is_choice w l n) = omega (arith, field_length w k (write node_table (fs k) v), bits_most h (n k))
bits_most (fits_both {f} {g} {a} {b} h i) (is_both m n) = omega (arith, length-append (write node_table f a) (write node_table g b), bits_most h m, bits_most i n)
bits_most (fits_child {c} {t} {v} a h) is_child =
    omega (arith, field_length (node_table.tag_width c) t (write node_table (node_table.row c t) v), tag_narrow c, bits_most h (one_narrow (class_narrow c) t))

-- The edition and the zeros at the end take one byte at most.
pub key_most : {t : Value} → Fits node_table type t → length (key_of t) ≤ suc (weight t)
key_most {t} h =
    omega (arith, length_packed (write node_table whole_key (choice edition t)), field_length edition_width edition (write node_table type t), bits_most h is_child)
