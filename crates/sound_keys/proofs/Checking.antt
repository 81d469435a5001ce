-- Steps of the check: spellings, choices, nodes, and how they join.
use mathlib.Core.Path.{◌≡◌, refl, sym, ap, ap₂, ◌∙◌, subst}
use mathlib.Core.Bool.{Bool, true, false}
use mathlib.Core.List.{List, []}
use Rattle.std.proofs.Common.{Result, Ok, Err}
use Prim.Native.Nat.{ℕ, suc, ◌+◌, ◌-◌, ◌*◌, ◌/◌, ◌^◌, ◌≤◌, ◌<◌}
use native.Mathlib.Omega.{arith}
use lib.ListN.{length, drop, length-drop}
use Rattle.words.specs.Refusal.{number_of}
use Rattle.key_parts.specs.Place.{Halts}
use Rattle.key_parts.specs.Runs.{Ran, ran, halt, allowed_run, whole_run, choice_run}
use Rattle.key_parts.specs.Choice.{Picked}
use Rattle.key_parts.specs.declared.choice.Pick.{Pick}
use Rattle.keys.specs.Store.{done, chose}
use Rattle.keys.specs.Bits.{Bits, Field, short, field, take_field, take_bytes, bits_of_bytes}
use Rattle.keys.proofs.BitsLaws.{clash, length_bytes}
use Rattle.keys.specs.Form.{Form, word, both, is_never, state}
use Rattle.keys.specs.Limits.{bad_key}
use Rattle.fields.specs.Take.{answered}
use Rattle.std.proofs.Common.{Some, None}
use Rattle.fields.proofs.Chunks.{Told, number_told, field_short}
use Rattle.node_table.specs.Forms.{form_of, form_by, leads, entry_of, spellings_then, spelling_if}
use Rattle.node_table.specs.declared.forms.Row.{Row}
use Rattle.key_parts.proofs.NeverLaws.{before_one}
use Rattle.key_parts.proofs.Steps.{bytes_cut, bytes_whole}
use Rattle.differs.specs.Content.{Content, ends, chooses, spells, enters}
use Rattle.sound_keys.specs.Sound.{Scan, reads, fails, ◌⊕◌, after, then_read, read_allowed, read_whole, read_letters, read_length, read_choice, read_spelling, read_form, Stops, Goes, Passes, bad_at, SpellingsOn, AfterOn, Chosen, ChoiceOn, form_by_row, Stepped, PlainOn}
use Rattle.key_parts.specs.declared.refusal.Stop.{Stop}
use Rattle.sound_keys.specs.declared.sound.Spot.{Spot}

-- ---- Contents and outcomes

pub join_ends : (c : Content) → c ⊕ ends ≡ c
join_ends ends = refl
join_ends (chooses k c) = ap (chooses k) (join_ends c)
join_ends (spells a s c) = ap (spells a s) (join_ends c)
join_ends (enters a u c) = ap (enters a u) (join_ends c)

pub join_join : (b c d : Content) → (b ⊕ c) ⊕ d ≡ b ⊕ (c ⊕ d)
join_join ends c d = refl
join_join (chooses k b) c d = ap (chooses k) (join_join b c d)
join_join (spells a s b) c d = ap (spells a s) (join_join b c d)
join_join (enters a u b) c d = ap (enters a u) (join_join b c d)

pub after_ends : (x : Scan) → after ends x ≡ x
after_ends (reads c e) = refl
after_ends (fails n b) = refl

pub after_after : (b c : Content) (x : Scan) → after b (after c x) ≡ after (b ⊕ c) x
after_after b c (reads d e) = ap (λ (y : Content). reads y e) (sym (join_join b c d))
after_after b c (fails n e) = refl

pub then_after : (c : Content) (x : Scan) (k : ℕ → Scan) → then_read (after c x) k ≡ after c (then_read x k)
then_after c (reads d e) k = sym (after_after c d (k e))
then_after c (fails n b) k = refl

-- ---- Going on

module _ (bs : Bits) (X : ℕ → ℕ → Scan) where
  pub on_none : (g : Form) (bit : ℕ) → bit ≤ length bs → Passes bs X g g bit bit
  on_none g bit h = record { in_key = h; passed = ends; is = sym (after_ends (read_form bs X g bit)) }

  pub on_then : {f g h : Form} {a b c : ℕ} → Passes bs X f g a b → Passes bs X g h b c → Passes bs X f h a c
  on_then {h = h} {c = c} d e =
      record { in_key = e.in_key; passed = d.passed ⊕ e.passed; is = d.is ∙ ap (after d.passed) e.is ∙ after_after d.passed e.passed (read_form bs X h c) }

  pub on_stop : {f g : Form} {a b : ℕ} {s : Stop} → Passes bs X f g a b → Stops (length bs) (read_form bs X g b) s → Stops (length bs) (read_form bs X f a) s
  on_stop d e = record { in_key = e.in_key; is = d.is ∙ ap (after d.passed) e.is }

  -- A first form, and then any other.
  pub on_first : (f : Form) (a : ℕ) (g : Form) {b : ℕ} → Goes (length bs) (read_form bs X f a) b → Passes bs X (both f g) g a b
  on_first f a g d = record { in_key = d.in_key; passed = d.content; is = ap (λ (x : Scan). then_read x λ e. read_form bs X g e) d.is }

  pub first_stop : (f : Form) (a : ℕ) (g : Form) {s : Stop} → Stops (length bs) (read_form bs X f a) s → Stops (length bs) (read_form bs X (both f g) a) s
  first_stop f a g d = record { in_key = d.in_key; is = ap (λ (x : Scan). then_read x λ e. read_form bs X g e) d.is }

-- ---- A spelling

-- 10 at a bit.
pub stops_bad : {all bit : ℕ} {x : Scan} {s : Stop} → bit ≤ all → x ≡ fails bad_key bit → s ≡ bad_at bit → Stops all x s
stops_bad {all} {x = x} h e i = subst (Stops all x) (sym i) (record { in_key = h; is = e })

module _ (key : List ℕ) (w bit : ℕ) (h : bit ≤ length key * 8) where
  inside : bit ≤ length (bits_of_bytes key)
  inside = omega (arith, length_bytes key)

  pub spell_short : None ≡ answered (take_field w (drop bit (bits_of_bytes key))) → {s : Stop} → s ≡ bad_at bit → Stops (length (bits_of_bytes key)) (read_spelling (bits_of_bytes key) w bit) s
  spell_short e i = stops_bad inside (ap (read_length w bit) (field_short (take_field w (drop bit (bits_of_bytes key))) e)) i

  module _ {n : ℕ} (e : Some n ≡ answered (take_field w (drop bit (bits_of_bytes key)))) where
    t : Told (bits_of_bytes key) bit w n
    t = number_told (bits_of_bytes key) bit w n e

    pub spell_within : bit + w ≤ length key * 8
    spell_within = omega (arith, t.within inside, length_bytes key)

    pub spell_zero : n ≡ 0 → {s : Stop} → s ≡ bad_at bit → Stops (length (bits_of_bytes key)) (read_spelling (bits_of_bytes key) w bit) s
    spell_zero z i = stops_bad inside (ap (read_length w bit) t.is ∙ ap (λ (x : ℕ). read_length w bit (field x (drop (bit + w) (bits_of_bytes key)))) z) i

    module _ (some : n ≡ 0 → ⊥) where
      in_letters : read_spelling (bits_of_bytes key) w bit ≡ read_letters bit (bit + w + suc (n - 1) * 8) (take_bytes (suc (n - 1)) (drop (bit + w) (bits_of_bytes key)))
      in_letters = ap (read_length w bit) t.is ∙ ap (λ (x : ℕ). read_length w bit (field x (drop (bit + w) (bits_of_bytes key)))) (before_one n some)

      pub spell_cut : (length key * 8 - (bit + w)) / 8 < n → {s : Stop} → s ≡ bad_at bit → Stops (length (bits_of_bytes key)) (read_spelling (bits_of_bytes key) w bit) s
      spell_cut l i =
          stops_bad inside
          (in_letters
          ∙ ap (read_letters bit (bit + w + suc (n - 1) * 8))
          (bytes_cut (suc (n - 1)) (drop (bit + w) (bits_of_bytes key)) (omega (arith, length-drop (bit + w) (bits_of_bytes key), length_bytes key, before_one n some)))) i

      pub spell_ends : n ≤ (length key * 8 - (bit + w)) / 8 → bit + w + n * 8 ≤ length key * 8
      spell_ends l = omega (arith, spell_within)

      pub spell_done : n ≤ (length key * 8 - (bit + w)) / 8 → Goes (length (bits_of_bytes key)) (read_spelling (bits_of_bytes key) w bit) (bit + w + n * 8)
      spell_done l =
          let d = bytes_whole (suc (n - 1)) (drop (bit + w) (bits_of_bytes key)) (omega (arith, length-drop (bit + w) (bits_of_bytes key), length_bytes key, before_one n some, spell_within)) in
          record {
            in_key = omega (arith, spell_ends l, length_bytes key);
            content = spells bit d.bytes ends;
            is = in_letters ∙ ap (read_letters bit (bit + w + suc (n - 1) * 8)) d.is ∙ ap (λ (x : ℕ). reads (spells bit d.bytes ends) (bit + w + x * 8)) (sym (before_one n some));
          }

-- i of n spellings are passed.
pub record Spelling (bs : Bits) (w n bit i at : ℕ) : Type 0 where
  pub few : i ≤ n
  pub on : (X : ℕ → ℕ → Scan) (g : Form) → Passes bs X (spellings_then n w g) (spellings_then (n - i) w g) bit at
  pub in_key : at ≤ length bs

pub spelling_none : (bs : Bits) (w n bit : ℕ) → bit ≤ length bs → Spelling bs w n bit 0 bit
spelling_none bs w n bit h =
    let e : n ≡ n - 0 = omega arith in
    record {
      few = omega arith;
      on = λ X g. subst (λ (k : ℕ). Passes bs X (spellings_then n w g) (spellings_then k w g) bit bit) e (on_none bs X (spellings_then n w g) bit h);
      in_key = h;
    }

module _ {bs : Bits} {w n bit i at : ℕ} (d : Spelling bs w n bit i at) (h : i < n) where
  here : (X : ℕ → ℕ → Scan) (g : Form) → Passes bs X (spellings_then n w g) (both (word w) (spellings_then (n - (i + 1)) w g)) bit at
  here X g =
      let z : n - i ≡ suc (n - (i + 1)) = omega arith in
      subst (λ (k : ℕ). Passes bs X (spellings_then n w g) (spellings_then k w g) bit at) z (d.on X g)

  pub spelling_more : {b : ℕ} → Goes (length bs) (read_spelling bs w at) b → Spelling bs w n bit (i + 1) b
  spelling_more e =
      record {
        few = omega arith;
        on = λ X g. on_then bs X (here X g) (on_first bs X (word w) at (spellings_then (n - (i + 1)) w g) e);
        in_key = e.in_key;
      }

  pub spelling_stop : {s : Stop} → Stops (length bs) (read_spelling bs w at) s → SpellingsOn bs w n bit (Err s)
  spelling_stop e X g = on_stop bs X (here X g) (first_stop bs X (word w) at (spellings_then (n - (i + 1)) w g) e)

pub spelling_all : {bs : Bits} {w n bit i at : ℕ} → Spelling bs w n bit i at → n ≤ i → SpellingsOn bs w n bit (Ok at)
spelling_all {bs} {w} {n} {bit} {i} {at} d h X g =
    let z : n - i ≡ 0 = omega arith in
    subst (λ (k : ℕ). Passes bs X (spellings_then n w g) (spellings_then k w g) bit at) z (d.on X g)

-- ---- The spelling after a child

pub after_none : (bs : Bits) (w bit : ℕ) → bit ≤ length bs → w ≡ 0 → AfterOn bs w bit (Ok bit)
after_none bs w bit h z X g = subst (λ (x : ℕ). Passes bs X (spelling_if x g) g bit bit) (sym z) (on_none bs X g bit h)

-- ---- A choice

-- What a choice goes on with, told apart by its number.
abbrev marked : ℕ → Bits → Ran
marked t r = ran (chose 0 t done) (state 0 0 0 [])

module _ (bs : Bits) (T : List ℕ) (steps w : ℕ) (fs : ℕ → Form) (bit : ℕ) where
  -- A choice that is taken is read.
  pub chosen_as : {c : Pick} → Picked bs T steps w fs bit c → Chosen bs T steps w fs bit (record { bit = c.bit; form = c.form; n = c.n })
  chosen_as {c} p =
      record { number = c.number; is = λ K. by (take_field w (drop bit bs)) (p.went 0 0 0 marked) K; next = p.next; in_key = p.inside; to = p.to; in_table = p.in_table; few = p.few }
    where
      known : (t : ℕ) (r : Bits) (b : Bool) → allowed_run (state 0 0 0 (drop bit bs)) marked t r b ≡ marked c.number (drop c.bit bs) → (K : ℕ → Scan) → read_allowed bit K t b ≡ K c.number
      known t r true e K = clash (cc e)
      known t r false e K =
          let i : t ≡ c.number = cc e in
          ap K i

      by : (x : Field) → whole_run (state 0 0 0 (drop bit bs)) fs marked x ≡ marked c.number (drop c.bit bs) → (K : ℕ → Scan) → read_whole bit fs K x ≡ K c.number
      by short e K = clash (cc e)
      by (field t r) e K = known t r (is_never (fs t)) e K

  -- One that is refused is refused.
  pub unchosen_as : bit ≤ length bs → {s : Stop} → ((n k m : ℕ) (K : ℕ → Bits → Ran) → Halts bs (choice_run w fs (state n k m (drop bit bs)) K) s) → (K : ℕ → Scan) → Stops (length bs) (read_choice bs w fs bit K) s
  unchosen_as h {s} p K = record { in_key = (p 0 0 0 marked).in_key; is = by (take_field w (drop bit bs)) (p 0 0 0 marked).is }
    where
      place : halt bad_key (length (drop bit bs)) ≡ halt (number_of s.why) (length bs - s.bit) → fails bad_key bit ≡ fails (number_of s.why) s.bit
      place e =
          let i : bad_key ≡ number_of s.why = cc e in
          let j : length (drop bit bs) ≡ length bs - s.bit = cc e in
          let k : bit ≡ s.bit = omega (arith, length-drop bit bs, (p 0 0 0 marked).in_key) in
          ap₂ fails i k

      known : (t : ℕ) (r : Bits) (b : Bool) → allowed_run (state 0 0 0 (drop bit bs)) marked t r b ≡ halt (number_of s.why) (length bs - s.bit) → read_allowed bit K t b ≡ fails (number_of s.why) s.bit
      known t r true e = place e
      known t r false e = clash (cc e)

      by : (x : Field) → whole_run (state 0 0 0 (drop bit bs)) fs marked x ≡ halt (number_of s.why) (length bs - s.bit) → read_whole bit fs K x ≡ fails (number_of s.why) s.bit
      by short e = place e
      by (field t r) e = known t r (is_never (fs t)) e

-- ---- Steps inside a node

module _ (bs : Bits) (T : List ℕ) (steps : ℕ) (r : Row) (s : Spot) where
  -- The form of an operation.
  at_op : (k : ℕ) → r.op ≡ k → form_by T (form_of T steps) s.n (entry_of r) k ≡ form_by_row T steps r s.n
  at_op k e = ap (form_by T (form_of T steps) s.n (entry_of r)) (sym e)

  pub plain_choice : 5 ≤ r.op → (q : Result Spot Stop) → ChoiceOn bs T steps r.w (leads T (form_of T steps) (entry_of r) (r.op - 5)) s.bit q → PlainOn bs T steps r s q
  plain_choice h q d = by q d
    where
      fs : ℕ → Form
      fs = leads T (form_of T steps) (entry_of r) (r.op - 5)

      above : r.op ≡ suc (suc (suc (suc (suc (r.op - 5)))))
      above = omega arith

      by : (q : Result Spot Stop) → ChoiceOn bs T steps r.w (leads T (form_of T steps) (entry_of r) (r.op - 5)) s.bit q → PlainOn bs T steps r s q
      by (Ok q) d =
          record {
            on =
                λ X. subst (λ (f : Form). Passes bs X f (form_of T steps q.n q.form) s.bit q.bit) (at_op (suc (suc (suc (suc (suc (r.op - 5)))))) above)
                (record {
                  in_key = d.in_key;
                  passed = chooses d.number ends;
                  is = d.is (λ k. after (chooses k ends) (read_form bs X (fs k) (s.bit + r.w))) ∙ ap₂ (λ (f : Form) (b : ℕ). after (chooses d.number ends) (read_form bs X f b)) d.to (sym d.next);
                });
            in_table = d.in_table;
            few = d.few;
          }
      by (Err t) d =
          λ X. subst (λ (f : Form). Stops (length bs) (read_form bs X f s.bit) t) (at_op (suc (suc (suc (suc (suc (r.op - 5)))))) above)
          (d (λ k. after (chooses k ends) (read_form bs X (fs k) (s.bit + r.w))))

  pub plain_words : r.op ≡ 2 → r.b < 2 ^ 32 → {b : ℕ} → SpellingsOn bs r.w s.n s.bit (Ok b) → Stepped bs T steps r s (record { bit = b; form = r.b; n = 1 })
  plain_words e y {b} d =
      record {
        on = λ X. subst (λ (f : Form). Passes bs X f (form_of T steps 1 r.b) s.bit b) (at_op 2 e) (d X (form_of T steps 1 r.b));
        in_table = y;
        few = omega arith;
      }

  pub words_stop : r.op ≡ 2 → {t : Stop} → SpellingsOn bs r.w s.n s.bit (Err t) → PlainOn bs T steps r s (Err t)
  words_stop e {t} d X = subst (λ (f : Form). Stops (length bs) (read_form bs X f s.bit) t) (at_op 2 e) (d X (form_of T steps 1 r.b))

  pub plain_never : r.op ≡ 0 → s.bit ≤ length bs → {t : Stop} → t ≡ bad_at s.bit → PlainOn bs T steps r s (Err t)
  plain_never e h {t} i X = subst (λ (f : Form). Stops (length bs) (read_form bs X f s.bit) t) (at_op 0 e) (stops_bad h refl i)
