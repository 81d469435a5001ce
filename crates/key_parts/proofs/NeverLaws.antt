-- Whether the table has no form at a number, as the code tests it.
use mathlib.Core.Path.{◌≡◌, refl, sym, ap, ◌∙◌}
use mathlib.Core.Bool.{Bool, false}
use mathlib.Core.List.{List}
use Prim.Native.Nat.{ℕ, zero, suc, ◌-◌, ◌≤◌, ◌<◌}
use native.Mathlib.Omega.{arith}
use borrow.Author.Tests.{eq-eqb, ne_eqb}
use lib.Dec.{eqb}
use Rattle.keys.specs.Form.{Form, is_never}
use Rattle.node_table.specs.Forms.{Entry, form_by, form_of, entry_at, entry_of, IsRow}
use Rattle.node_table.proofs.FormsLaws.{form_at_lem}
use Rattle.node_table.specs.declared.forms.Row.{Row}

pub before_one : (x : ℕ) → (x ≡ 0 → ⊥) → x ≡ suc (x - 1)
before_one zero h = absurd (h refl)
before_one (suc x) h = omega arith

some_op : (k : ℕ) → eqb (suc k) 0 ≡ false
some_op k = ne_eqb (suc k) 0 (λ z. omega arith)

never_by : (T : List ℕ) (go : ℕ → ℕ → Form) (n : ℕ) (e : Entry) (k : ℕ) → 1 ≤ n → eqb k 0 ≡ is_never (form_by T go n e k)
never_by T go n e zero h = eq-eqb 0 0 refl
never_by T go n e (suc zero) h = some_op 0
never_by T go zero e (suc (suc zero)) h = absurd (omega arith)
never_by T go (suc n) e (suc (suc zero)) h = some_op 1
never_by T go zero e (suc (suc (suc zero))) h = absurd (omega arith)
never_by T go (suc n) e (suc (suc (suc zero))) h = some_op 2
never_by T go n e (suc (suc (suc (suc zero)))) h = some_op 3
never_by T go n e (suc (suc (suc (suc (suc k))))) h = some_op (suc (suc (suc (suc k))))

module _ (T : List ℕ) (steps f : ℕ) where
  module _ (r : Row) (i : IsRow (entry_at T f) r) (h : steps ≡ 0 → ⊥) where
    at : (n k : ℕ) → r.op ≡ k → form_of T steps n f ≡ form_by T (λ m g. form_of T (steps - 1) m g) n (entry_of r) k
    at n k e = form_at_lem T steps (steps - 1) n f (before_one steps h) r i k e

    pub some_steps : (n : ℕ) → 1 ≤ n → eqb r.op 0 ≡ is_never (form_of T steps n f)
    some_steps n l = never_by T (λ m g. form_of T (steps - 1) m g) n (entry_of r) r.op l ∙ sym (ap is_never (at n r.op refl))

    module _ (n : ℕ) (z : n ≡ 0) where
      at_none : (k : ℕ) → r.op ≡ k → form_of T steps n f ≡ form_by T (λ m g. form_of T (steps - 1) m g) 0 (entry_of r) k
      at_none k e = ap (λ (x : ℕ). form_of T steps x f) z ∙ at 0 k e

      pub past_words : {b : Bool} → r.op ≡ 2 → ((m : ℕ) → 1 ≤ m → b ≡ is_never (form_of T (steps - 1) m r.b)) → b ≡ is_never (form_of T steps n f)
      past_words e k = k 1 (omega arith) ∙ sym (ap is_never (at_none 2 e))

      pub past_nodes : {b : Bool} → r.op ≡ 3 → ((m : ℕ) → 1 ≤ m → b ≡ is_never (form_of T (steps - 1) m r.b)) → b ≡ is_never (form_of T steps n f)
      past_nodes e k = k 1 (omega arith) ∙ sym (ap is_never (at_none 3 e))

pub some_times : (n : ℕ) → (n ≡ 0 → ⊥) → 1 ≤ n
some_times zero h = absurd (h refl)
some_times (suc n) h = omega arith

pub later : (n : ℕ) → 0 < n → n ≡ 0 → ⊥
later n h e = omega arith
