-- What taking a choice answers, and what a node keeps of it (01, The key; Refusal numbers).
use Rattle.std.specs.Prelude.{◌≡◌, List, ℕ, ◌+◌, ◌*◌, ◌^◌, ◌≤◌, ◌<◌, length, drop, Result, IfOk, IfErr}
use Rattle.keys.specs.Bits.{Bits}
use Rattle.keys.specs.Form.{Form, state}
use Rattle.keys.specs.Limits.{bad_key}
use Rattle.words.specs.Refusal.{number_of}
use Rattle.node_table.specs.Forms.{form_of, leads, entry_of, table_most}
use Rattle.node_table.specs.declared.forms.Row.{Row}
use Rattle.node_table.specs.declared.forms.Jump.{Jump}
use Rattle.key_parts.specs.Runs.{Ran, choice_run}
use Rattle.key_parts.specs.Place.{Halts, at_bit, Lent, bits_in}
use Rattle.key_parts.specs.declared.refusal.Stop.{Stop}
use Rattle.key_parts.specs.declared.place.Fill.{Fill}
use Rattle.key_parts.specs.declared.choice.Pick.{Pick}

-- The walk after a choice of w bits: its number stands above those before it.
abbrev pub chosen : Fill → Pick → ℕ → Fill
chosen s c w =
    record {
      at = at_bit s.at c.bit;
      base = s.base;
      word = s.word + 2 ^ s.shift * c.number;
      shift = s.shift + w;
      child = s.child;
      form = c.form;
      n = c.n;
    }

-- A choice among forms: its number, the bit after it and the form that it leads to.
pub record Picked (bs : Bits) (T : List ℕ) (steps w : ℕ) (fs : ℕ → Form) (bit : ℕ) (c : Pick) : Type 0 where
  pub went : (n k m : ℕ) (K : ℕ → Bits → Ran) → choice_run w fs (state n k m (drop bit bs)) K ≡ K c.number (drop c.bit bs)
  pub small : c.number < 2 ^ w
  pub next : c.bit ≡ bit + w
  pub inside : c.bit ≤ length bs
  pub to : fs c.number ≡ form_of T steps c.n c.form
  pub in_table : c.form < table_most
  pub few : c.n < table_most

-- A field that chooses among forms: refused with 10 at its bit, or a choice.
pub record PickedIn (bs : Bits) (T : List ℕ) (steps w : ℕ) (fs : ℕ → Form) (bit : ℕ) (r : Result Pick Stop) : Type 0 where
  pub stopped : IfErr r λ e. (number_of e.why ≡ bad_key) × (e.bit ≡ bit) × ((n k m : ℕ) (K : ℕ → Bits → Ran) → Halts bs (choice_run w fs (state n k m (drop bit bs)) K) e)
  pub picked : IfOk r λ c. Picked bs T steps w fs bit c

-- A form is the one that a jump leads to.
pub record Leads (T : List ℕ) (steps : ℕ) (f : Form) (j : Jump) : Type 0 where
  pub to : f ≡ form_of T steps j.n j.form
  pub in_table : j.form < table_most
  pub few : j.n < table_most

-- A choice among the forms that a row leads to, which it lists as `way` says.
abbrev pub TakesChoice : (forms key : Lent) (steps : ℕ) (r : Row) (way bit : ℕ) (c : Result Pick Stop) → Type 0
TakesChoice forms key steps r way bit c =
    PickedIn (bits_in key) forms.entry.now steps r.w (leads forms.entry.now (form_of forms.entry.now steps) (entry_of r) way) bit c
