-- Taking a key back as it goes into the store: what a form puts into its node, and then what is left (01, The two calls; Refusal numbers).
use Rattle.std.specs.Prelude.{Bool, true, false, ℕ, zero, suc, ◌-◌, length}
use Rattle.keys.specs.Bits.{Bits, Field, short, field, take_field}
use Rattle.keys.specs.Form.{Value, nothing, spelt, choice, pair, node, Form, never, one, word, choose, both, child, Grammar, is_never, State, state, Result, got, stop, take_spelling, wider}
use Rattle.keys.specs.Limits.{too_tall, no_room, bad_key}
use Rattle.keys.specs.Store.{Run, done, chose, name, kid, ◌⊕◌}

-- What taking comes to in the store: a run and what is left; or a refusal, its number and how many bits were left at its place.
pub data Ran : Type 0 where
  ran : Run → State → Ran
  halt : ℕ → ℕ → Ran

-- Refused here, under a number.
abbrev pub halt_at : ℕ → State → Ran
halt_at number s = halt number (length s.bits)

-- What was got, with a run before it.
abbrev pub after : Run → Ran → Ran
after u (ran r s) = ran (u ⊕ r) s
after u (halt n l) = halt n l

-- A run and then what comes after it; a refusal stands.
abbrev pub then_run : Ran → (State → Ran) → Ran
then_run (ran u s) k = after u (k s)
then_run (halt n l) k = halt n l

-- What was got, as the child of a node: its tag and what it holds, at position 0.
abbrev pub as_child : (wide tag : ℕ) → Ran → Ran
as_child w t (ran r s) = ran (kid 0 0 (chose w t r) done) s
as_child w t (halt n l) = halt n l

-- A spelling in a run, which starts at byte x of the text.
abbrev pub spelled_at : ℕ → Value → Run
spelled_at x nothing = done
spelled_at x (spelt s) = name x s done
spelled_at x (choice k v) = done
spelled_at x (pair a b) = done
spelled_at x (node t v) = done

-- A spelling that was taken, in a run.
abbrev pub as_name : ℕ → Result → Ran
as_name x (got v s) = ran (spelled_at x v) s
as_name x (stop n l) = halt n l

-- A number under which there is no form is 10 at its field.
abbrev pub allowed_run : State → (ℕ → Bits → Ran) → ℕ → Bits → Bool → Ran
allowed_run s k t r true = halt_at bad_key s
allowed_run s k t r false = k t r

-- A field cut short is 10 at its first bit.
abbrev pub whole_run : State → (ℕ → Form) → (ℕ → Bits → Ran) → Field → Ran
whole_run s fs k short = halt_at bad_key s
whole_run s fs k (field t r) = allowed_run s k t r (is_never (fs t))

-- A field of w bits that chooses among forms, and what is done with its number and the bits after it.
abbrev pub choice_run : ℕ → (ℕ → Form) → State → (ℕ → Bits → Ran) → Ran
choice_run w fs s k = whole_run s fs k (take_field w s.bits)

-- A node takes one of the nodes left, and 8 is met where there is none.
abbrev pub room_run : State → (ℕ → Ran) → ℕ → Ran
room_run s k zero = halt_at no_room s
room_run s k (suc n) = k n

-- Taking where the text has room for lx bytes in all: a spelling starts where the text is used up to.
module _ (lx : ℕ) where
  -- A form's fields in order, by a way to take nodes.
  abbrev pub form_run : (ℕ → State → Ran) → Form → State → Ran
  form_run X never s = halt_at bad_key s
  form_run X one s = ran done s
  form_run X (word w) s = as_name (lx - s.text_left) (take_spelling w s)
  form_run X (choose w x fs) s =
      choice_run w fs s λ k r. after (chose (wider w x) k done) (form_run X (fs k) (state s.nodes_left s.names_left s.text_left r))
  form_run X (both f g) s = then_run (form_run X f s) λ q. form_run X g q
  form_run X (child c) s = X c s

  -- A node of a class, with room for h nodes one above the other.
  abbrev pub node_run : Grammar → ℕ → ℕ → State → Ran
  node_run G zero c s = choice_run (G.tag_width c) (G.row c) s λ t r. halt_at too_tall s
  node_run G (suc h) c s =
      choice_run (G.tag_width c) (G.row c) s
      λ t r. room_run s (λ n. as_child (G.tag_width c) t (form_run (node_run G h) (G.row c t) (state n s.names_left s.text_left r))) s.nodes_left
