-- Taking back meets no refusal but 6, 8, 10 and 11, over any node table.
use mathlib.Core.Path.{◌≡◌, subst₂}
use mathlib.Core.Bool.{Bool, true, false}
use mathlib.Core.List.{List, [], ◌∷◌}
use Prim.Native.Nat.{ℕ, zero, suc, ◌-◌, ◌%◌, ◌≤◌}
use native.Mathlib.Omega.{arith}
use lib.Dec.{leb, eqb}
use lib.ListN.{length}
use Rattle.keys.specs.Limits.{too_tall, no_room, bad_key, no_space}
use Rattle.keys.specs.Bits.{Bits, Field, short, field, take_field, Row, cut, row, take_bytes}
use Rattle.keys.specs.Form.{Value, choice, pair, node, Form, never, one, word, choose, both, child, Grammar, is_never, State, state, Result, got, stop, into, and_then, allowed, if_whole, take_choice, keep, take_letters, take_length, take_room, take_form, take_node}
use Rattle.keys.specs.Key.{padding, closed, take_whole, refused, refusal_place, outcome, IsRefusal, is_too_tall, is_no_room, is_bad_key, is_no_space}
use Rattle.keys.proofs.BitsLaws.{clash}

-- The numbers that are met.
pub data Met : ℕ → Type 0 where
  met_too_tall : Met too_tall
  met_no_room : Met no_room
  met_bad_key : Met bad_key
  met_no_space : Met no_space

-- A result that is no refusal, or one of those.
pub data Fine : Result → Type 0 where
  fine_got : {v : Value} {s : State} → Fine (got v s)
  fine_stop : {n l : ℕ} → Met n → Fine (stop n l)

into_fine : (F : Value → Value) {x : Result} → Fine x → Fine (into F x)
into_fine F fine_got = fine_got
into_fine F (fine_stop h) = fine_stop h

then_fine : {x : Result} (K : Value → State → Result) → Fine x → ((v : Value) (s : State) → Fine (K v s)) → Fine (and_then x K)
then_fine K (fine_got {v = v} {s = s}) k = k v s
then_fine K (fine_stop h) k = fine_stop h

allowed_fine : (s : State) (K : ℕ → Bits → Result) (t : ℕ) (r : Bits) (b : Bool) → Fine (K t r) → Fine (allowed s K t r b)
allowed_fine s K t r true h = fine_stop met_bad_key
allowed_fine s K t r false h = h

choice_fine : (w : ℕ) (fs : ℕ → Form) (s : State) (K : ℕ → Bits → Result) → ((t : ℕ) (r : Bits) → Fine (K t r)) → Fine (take_choice w fs s K)
choice_fine w fs s K h = by (take_field w s.bits)
  where
    by : (x : Field) → Fine (if_whole s fs K x)
    by short = fine_stop met_bad_key
    by (field t r) = allowed_fine s K t r (is_never (fs t)) (h t r)

keep_fine : (s : State) (t : List ℕ) (r : Bits) (b : Bool) (k : ℕ) → Fine (keep s t r b k)
keep_fine s t r false k = fine_stop met_no_space
keep_fine s t r true zero = fine_stop met_no_space
keep_fine s t r true (suc k) = fine_got

letters_fine : (s : State) (x : Row) → Fine (take_letters s x)
letters_fine s cut = fine_stop met_bad_key
letters_fine s (row t r) = keep_fine s t r (leb (length t) s.text_left) s.names_left

length_fine : (s : State) (x : Field) → Fine (take_length s x)
length_fine s short = fine_stop met_bad_key
length_fine s (field zero r) = fine_stop met_bad_key
length_fine s (field (suc n) r) = letters_fine s (take_bytes (suc n) r)

room_fine : (s : State) (t : ℕ) (K : ℕ → Result) (n : ℕ) → ((k : ℕ) → Fine (K k)) → Fine (take_room s t K n)
room_fine s t K zero h = fine_stop met_no_room
room_fine s t K (suc n) h = into_fine (node t) (h n)

form_fine : (X : ℕ → State → Result) → ((c : ℕ) (s : State) → Fine (X c s)) → (f : Form) (s : State) → Fine (take_form X f s)
form_fine X h never s = fine_stop met_bad_key
form_fine X h one s = fine_got
form_fine X h (word w) s = length_fine s (take_field w s.bits)
form_fine X h (choose w x fs) s =
    choice_fine w fs s _ λ k r. into_fine (choice k) (form_fine X h (fs k) (state s.nodes_left s.names_left s.text_left r))
form_fine X h (both f g) s = then_fine _ (form_fine X h f s) λ a q. into_fine (pair a) (form_fine X h g q)
form_fine X h (child c) s = h c s

node_fine : (G : Grammar) (h c : ℕ) (s : State) → Fine (take_node G h c s)
node_fine G zero c s = choice_fine (G.tag_width c) (G.row c) s _ λ t r. fine_stop met_too_tall
node_fine G (suc h) c s =
    choice_fine (G.tag_width c) (G.row c) s _
    λ t r. room_fine s t _ s.nodes_left λ n. form_fine (take_node G h) (λ c' s'. node_fine G h c' s') (G.row c t) (state n s.names_left s.text_left r)

padding_fine : (v : Value) (k : ℕ) (bs : Bits) → Fine (padding v k bs)
padding_fine v k [] = fine_got
padding_fine v zero (b ∷ bs) = fine_stop met_bad_key
padding_fine v (suc k) (true ∷ bs) = fine_stop met_bad_key
padding_fine v (suc k) (false ∷ bs) = padding_fine v k bs

-- Whatever is refused in a whole key is one of the four.
pub whole_fine : (G : Grammar) (K : Form) (h : ℕ) (s : State) → Fine (take_whole G K h s)
whole_fine G K h s = by (form_fine (take_node G h) (node_fine G h) K s)
  where
    by : {x : Result} → Fine x → Fine (closed x)
    by (fine_got {v = v} {s = q}) = padding_fine v (length q.bits % 8) q.bits
    by (fine_stop i) = fine_stop i

in_key : (all l : ℕ) → all - l ≤ all
in_key all l = omega arith

placed : (all l : ℕ) {n : ℕ} → Met n → IsRefusal all n (refusal_place (eqb n no_space) (all - l))
placed all l met_too_tall = is_too_tall (in_key all l)
placed all l met_no_room = is_no_room (in_key all l)
placed all l met_bad_key = is_bad_key (in_key all l)
placed all l met_no_space = is_no_space

-- Its place is a bit of the key or its end, and 0 for 11.
pub outcome_fine : (all : ℕ) {x : Result} (n p : ℕ) → Fine x → outcome all x ≡ refused n p → IsRefusal all n p
outcome_fine all n p fine_got e = clash (cc)
outcome_fine all n p (fine_stop {n = m} {l = l} h) e =
    let a : m ≡ n = cc in
    let b : refusal_place (eqb m no_space) (all - l) ≡ p = cc in
    subst₂ (IsRefusal all) a b (placed all l h)

-- A key that is too long is one too.
pub too_long_lem : (all n p : ℕ) → refused bad_key 0 ≡ refused n p → IsRefusal all n p
too_long_lem all n p e =
    let a : bad_key ≡ n = cc in
    let b : 0 ≡ p = cc in
    subst₂ (IsRefusal all) a b (is_bad_key {p = 0} (omega arith))
