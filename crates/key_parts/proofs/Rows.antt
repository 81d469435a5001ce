-- Our node table: no part of a row that something follows is never, and a node's choices fit its word.
use mathlib.Core.Path.{◌≡◌, refl, sym, ap, subst}
use mathlib.Core.Bool.{Bool, true, false}
use mathlib.Core.List.{List, [], ◌∷◌}
use Prim.Native.Nat.{ℕ, zero, suc, ◌+◌, ◌-◌, ◌≤◌}
use native.Mathlib.Omega.{arith}
use borrow.Author.Tests.{ne_eqb}
use lib.Dec.{leb, ltb}
use Rattle.keys.specs.Form.{Form, one, choose, both, child, Grammar, is_never}
use Rattle.keys.specs.Limits.{newest, count_width, choices_wide}
use Rattle.keys.specs.Table.{when, one_of, times, flag, below, opt, needed, spelling, subject, list, args, rows, rows_of, named_row, type_param_row, param_row, property_key, signature_row, literals, type, type_under}
use Rattle.keys.specs.Key.{node_table}
use Rattle.keys.specs.Lines.{in_line, lined}
use Rattle.node_table.specs.Forms.{table_words}
use Rattle.node_table.proofs.FormsLaws.{words_are, words_narrow}
use Rattle.key_parts.specs.Widths.{Spans, Slim}
use Rattle.key_parts.proofs.Lines.{Fine, never_fine, one_fine, word_fine, child_fine, choose_fine, both_fine, line_spans, spans_more}

fine_more : {f : Form} {a : ℕ} → Fine f a → (b : ℕ) → a ≤ b → Fine f b
fine_more never_fine b l = never_fine
fine_more one_fine b l = one_fine
fine_more word_fine b l = word_fine
fine_more child_fine b l = child_fine
fine_more (choose_fine {w = w} {x = x} m i k) b l = choose_fine {w = w} {x = x} {n = b} m (omega arith) k
fine_more (both_fine x y i p q u v) b l = both_fine {n = b} x y (omega arith) p q u v

choose_at : {w : ℕ} {fs : ℕ → Form} (m : ℕ) → ((k : ℕ) → Fine (fs k) m) → Fine (choose w 0 fs) (w + m)
choose_at {w} m k = choose_fine {w = w} {x = 0} {n = w + m} m (omega arith) k

both_at : {f g : Form} (a b : ℕ) → is_never f ≡ false → is_never g ≡ false → Fine f a → Fine g b → Fine (both f g) (a + b)
both_at a b p q u v = both_fine {n = a + b} a b (omega arith) p q u v

data AllFine : List Form → ℕ → Type 0 where
  none_fine : {n : ℕ} → AllFine [] n
  more_fine : {f : Form} {fs : List Form} {n : ℕ} → Fine f n → AllFine fs n → AllFine (f ∷ fs) n

one_of_fine : {fs : List Form} {n : ℕ} → AllFine fs n → (k : ℕ) → Fine (one_of fs k) n
one_of_fine none_fine k = never_fine
one_of_fine (more_fine d e) zero = d
one_of_fine (more_fine d e) (suc k) = one_of_fine e k

when_fine : {f : Form} {n : ℕ} → Fine f n → (b : Bool) → Fine (when b f) n
when_fine d true = d
when_fine d false = never_fine

times_some : (n : ℕ) (f : Form) → is_never (times n f) ≡ false
times_some zero f = refl
times_some (suc n) f = refl

times_fine : {f : Form} → is_never f ≡ false → Fine f 0 → (n : ℕ) → Fine (times n f) 0
times_fine z d zero = one_fine
times_fine {f} z d (suc n) = both_at 0 0 z (times_some n f) d (times_fine z d n)

below_fine : (w n : ℕ) → Fine (below w n) w
below_fine w n = fine_more (choose_at 0 (λ k. when_fine one_fine (ltb k n))) w (omega arith)

flag_fine : Fine flag 1
flag_fine = choose_at 0 (λ k. one_fine)

opt_fine : {f : Form} {n : ℕ} → Fine f n → Fine (opt f) (1 + n)
opt_fine {f} {n} d = choose_at n (λ k. one_of_fine (more_fine one_fine (more_fine d none_fine)) k)

needed_fine : {f : Form} {n : ℕ} → Fine f n → Fine (needed f) (1 + n)
needed_fine {f} {n} d = choose_at n (λ k. one_of_fine (more_fine never_fine (more_fine d none_fine)) k)

list_fine : (c least : ℕ) {f : Form} → is_never f ≡ false → Fine f 0 → Fine (list c least f) c
list_fine c least z d = fine_more (choose_at 0 (λ n. when_fine (times_fine z d n) (leb least n))) c (omega arith)

opt_args_fine : Fine (opt (args 12)) 13
opt_args_fine = opt_fine (list_fine 12 0 refl child_fine)

dotted_fine : Fine (both (list 12 1 spelling) (opt (args 12))) 25
dotted_fine = both_at 12 13 refl refl (list_fine 12 1 refl word_fine) opt_args_fine

subject_fine : Fine subject 1
subject_fine = choose_at 0 (λ k. one_of_fine (more_fine word_fine (more_fine one_fine none_fine)) k)

opt_type_fine : Fine (opt type) 1
opt_type_fine = opt_fine {n = 0} child_fine

function_fine : Fine (both (opt (list 12 0 (child 4))) (both (opt (opt type)) (both (list 12 0 (child 5)) type))) 27
function_fine =
    both_at 13 14 refl refl (opt_fine (list_fine 12 0 refl child_fine))
    (both_at 2 12 refl refl (opt_fine opt_type_fine) (both_at 12 0 refl refl (list_fine 12 0 refl child_fine) child_fine))

opt_params_fine : Fine (opt (list 12 0 (child 4))) 13
opt_params_fine = opt_fine (list_fine 12 0 refl child_fine)

params_fine : Fine (list 12 0 (child 5)) 12
params_fine = list_fine 12 0 refl child_fine

signature_fine : Fine (signature_row 12) 28
signature_fine =
    both_at 13 15 refl refl opt_params_fine (both_at 2 13 refl refl (opt_fine opt_type_fine) (both_at 12 1 refl refl params_fine opt_type_fine))

construct_fine : Fine (both (opt (list 12 0 (child 4))) (both (list 12 0 (child 5)) (opt type))) 26
construct_fine = both_at 13 13 refl refl opt_params_fine (both_at 12 1 refl refl params_fine opt_type_fine)

key_fine : Fine property_key 2
key_fine = choose_at 0 (λ k. one_of_fine (more_fine word_fine (more_fine word_fine (more_fine word_fine none_fine))) k)

property_fine : Fine (both flag (both property_key (both flag (opt type)))) 5
property_fine = both_at 1 4 refl refl flag_fine (both_at 2 2 refl refl key_fine (both_at 1 1 refl refl flag_fine opt_type_fine))

method_fine : Fine (both property_key (both flag (signature_row 12))) 31
method_fine = both_at 2 29 refl refl key_fine (both_at 1 28 refl refl flag_fine signature_fine)

index_fine : Fine (both flag (both (opt (both spelling type)) type)) 2
index_fine =
    both_at 1 1 refl refl flag_fine (both_at 1 0 refl refl (opt_fine {n = 0} (both_at 0 0 refl refl word_fine child_fine)) child_fine)

constructor_fine : Fine (both flag (both (opt (list 12 0 (child 4))) (both (list 12 0 (child 5)) type))) 26
constructor_fine =
    both_at 1 25 refl refl flag_fine
    (both_at 13 12 refl refl (opt_fine (list_fine 12 0 refl child_fine)) (both_at 12 0 refl refl (list_fine 12 0 refl child_fine) child_fine))

mapped_fine : Fine (both (below 2 4) (both spelling (both type (both (opt type) (both (below 2 4) (opt type)))))) 6
mapped_fine =
    both_at 2 4 refl refl (below_fine 2 4)
    (both_at 0 4 refl refl word_fine
    (both_at 0 4 refl refl child_fine (both_at 1 3 refl refl opt_type_fine (both_at 2 1 refl refl (below_fine 2 4) opt_type_fine))))

template_fine : Fine (choose 12 0 (λ n. both spelling (times n (both type spelling)))) 12
template_fine =
    choose_at 0
    (λ n. both_at 0 0 refl (times_some n (both type spelling)) word_fine (times_fine refl (both_at 0 0 refl refl child_fine word_fine) n))

predicate_fine : Fine (choose 1 0 (one_of (both subject (needed type) ∷ both subject (opt type) ∷ []))) 3
predicate_fine =
    choose_at 2
    (λ k. one_of_fine (more_fine (both_at 1 1 refl refl subject_fine (needed_fine {n = 0} child_fine))
    (more_fine (both_at 1 1 refl refl subject_fine opt_type_fine) none_fine)) k)

import_fine : Fine (both flag (both spelling (both (list 12 0 spelling) (opt (args 12))))) 26
import_fine =
    both_at 1 25 refl refl flag_fine
    (both_at 0 25 refl refl word_fine (both_at 12 13 refl refl (list_fine 12 0 refl word_fine) opt_args_fine))

literal_fine : Fine (choose 3 0 (one_of literals)) 3
literal_fine =
    choose_at 0
    (λ k. one_of_fine
    (more_fine word_fine (more_fine word_fine (more_fine word_fine (more_fine one_fine (more_fine one_fine (more_fine word_fine (more_fine word_fine none_fine))))))) k)

infixr 5 ◌also◌
◌also◌ : {f : Form} {fs : List Form} {a : ℕ} → Fine f a × (a ≤ 54) → AllFine fs 54 → AllFine (f ∷ fs) 54
x also y = more_fine (fine_more x.0 54 x.1) y

rows_fine : {x y z : Form} → Fine x 54 → Fine y 54 → Fine z 54 → AllFine (rows 12 x y z) 54
rows_fine p q r =
    (never_fine {n = 0}, omega arith) also (dotted_fine, omega arith) also (below_fine 4 13, omega arith) also (literal_fine, omega arith)
    also (child_fine {n = 0}, omega arith) also (list_fine 12 1 refl child_fine, omega arith) also (list_fine 12 1 refl child_fine, omega arith)
    also (child_fine {n = 0}, omega arith) also (both_at 0 0 refl refl child_fine child_fine, omega arith)
    also (both_at 0 0 refl refl child_fine (both_at 0 0 refl refl child_fine (both_at 0 0 refl refl child_fine child_fine)), omega arith)
    also (both_at 0 1 refl refl word_fine opt_type_fine, omega arith) also (both_at 2 0 refl refl (below_fine 2 3) child_fine, omega arith)
    also (function_fine, omega arith) also (constructor_fine, omega arith) also (mapped_fine, omega arith) also (template_fine, omega arith)
    also (predicate_fine, omega arith) also (dotted_fine, omega arith) also (import_fine, omega arith) also (list_fine 12 0 refl child_fine, omega arith)
    also (p, omega arith) also (q, omega arith) also (r, omega arith) also (child_fine {n = 0}, omega arith) also (child_fine {n = 0}, omega arith)
    also (list_fine 12 0 refl child_fine, omega arith) also none_fine

named_fine : Fine named_row 54
named_fine = fine_more (both_at 0 1 refl refl word_fine (both_at 1 0 refl refl flag_fine child_fine)) 54 (omega arith)

type_param_fine : Fine type_param_row 54
type_param_fine = fine_more (both_at 0 2 refl refl word_fine (both_at 1 1 refl refl opt_type_fine opt_type_fine)) 54 (omega arith)

param_fine : Fine param_row 54
param_fine =
    fine_more (both_at 1 2 refl refl flag_fine (both_at 0 2 refl refl word_fine (both_at 1 1 refl refl flag_fine opt_type_fine))) 54 (omega arith)

class_fine : (c : ℕ) → AllFine (rows_of 12 c) 54
class_fine zero = rows_fine never_fine never_fine never_fine
class_fine (suc zero) = rows_fine child_fine child_fine named_fine
class_fine (suc (suc zero)) = rows_fine never_fine never_fine named_fine
class_fine (suc (suc (suc zero))) = rows_fine child_fine child_fine never_fine
class_fine (suc (suc (suc (suc zero)))) = more_fine type_param_fine none_fine
class_fine (suc (suc (suc (suc (suc zero))))) = more_fine param_fine none_fine
class_fine (suc (suc (suc (suc (suc (suc zero)))))) =
    (property_fine, omega arith) also (method_fine, omega arith) also (signature_fine, omega arith) also (construct_fine, omega arith)
    also (index_fine, omega arith) also none_fine
class_fine (suc (suc (suc (suc (suc (suc (suc k))))))) = none_fine

-- Every row of our node table is fine.
pub table_fine : (c t : ℕ) → Fine (node_table.row c t) 54
table_fine c t = one_of_fine (class_fine c) t

tag_small : (c : ℕ) → node_table.tag_width c ≤ 6
tag_small zero = omega arith
tag_small (suc zero) = omega arith
tag_small (suc (suc zero)) = omega arith
tag_small (suc (suc (suc zero))) = omega arith
tag_small (suc (suc (suc (suc zero)))) = omega arith
tag_small (suc (suc (suc (suc (suc zero))))) = omega arith
tag_small (suc (suc (suc (suc (suc (suc zero)))))) = omega arith
tag_small (suc (suc (suc (suc (suc (suc (suc c))))))) = omega arith

row_spans : (c t : ℕ) → Spans ((lined node_table).row c t) (choices_wide - (lined node_table).tag_width c)
row_spans c t =
    spans_more (in_line (node_table.row c t) one) (54 + 0) (choices_wide - node_table.tag_width c) (omega (arith, tag_small c)) (line_spans (table_fine c t) one 0 tt)

-- The table of words keeps all that the code asks of it.
pub words_slim : Slim (table_words count_width)
words_slim =
    record {
      narrow = words_narrow;
      rows = λ c t. subst (λ (G : Grammar). Spans (G.row c t) (choices_wide - G.tag_width c)) (sym (words_are newest)) (row_spans c t);
    }

-- Another edition's number leads to nothing.
pub other_edition : (e : ℕ) → (e ≡ 1 → ⊥) → is_never (type_under newest e) ≡ true
other_edition e h = ap (λ (b : Bool). is_never (when b type)) (ne_eqb e 1 h)
