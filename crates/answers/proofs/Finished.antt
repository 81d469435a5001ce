-- What is left of a tree that was read: with its key and diagnostics, or zeros for want of space.
use mathlib.Core.Path.{◌≡◌, refl, sym, ap, ◌∙◌}
use mathlib.Core.Bool.{Bool, true, false}
use mathlib.Core.List.{List, []}
use Prim.Native.Nat.{ℕ, ◌+◌, ◌-◌, ◌*◌, ◌^◌, ◌≤◌, ◌<◌, min}
use native.Mathlib.Omega.{arith}
use borrow.Author.Tests.{le-leb, lt-leb}
use lib.Dec.{leb}
use lib.ListN.{length, take, replicate}
use Rattle.words.specs.Test.{◌and◌}
use Rattle.keys.specs.Form.{nodes}
use Rattle.keys.specs.Limits.{record_words}
use Rattle.keys.specs.Placed.{Placed, bare}
use Rattle.keys.specs.Table.{type}
use Rattle.keys.specs.Key.{node_table, key_of}
use Rattle.keys.specs.Store.{done, run_of, nodes_of, names_of, filled}
use Rattle.keys.proofs.StoreLaws.{length_records, under_plant}
use Rattle.keys.specs.Holds.{Stands}
use Rattle.rules.specs.Notes.{note_words}
use Rattle.rules.specs.State.{State}
use Rattle.rules.specs.Read.{Lent, lend, Answer, Called, denied, fits, with_key, written}
use Rattle.marks.specs.State.{notes_of, tally_of, view}
use Rattle.marks.proofs.LaidLaws.{length_notes}
use Rattle.marks.specs.declared.state.Mark.{Mark}
use Rattle.answers.specs.Reading.{seen, HeldIn, WroteIn, NoSpace}
use Rattle.std.specs.Prelude.{Ok}
use Rattle.words.specs.Refusal.{number_of}
use Rattle.answers.specs.declared.reading.Refused as declared

-- Calls that leave the same.
pub called_is : {a b : Answer} {n m o k n' m' o' k' : List ℕ} → a ≡ b → n ≡ n' → m ≡ m' → o ≡ o' → k ≡ k'
    → ◌≡◌ {A = Called} (record { answer = a; node_words = n; name_words = m; note_words = o; key = k }) (record { answer = b; node_words = n'; name_words = m'; note_words = o'; key = k' })
called_is e f g h i = rw (e, f, g, h, i)

-- A slice that is zeros alone has no part used.
pub cleared : {l : List ℕ} (n : ℕ) → l ≡ replicate n 0 → l ≡ filled n []
cleared n e =
    let all : n ≡ n - 0 = omega arith in e ∙ ap (λ (k : ℕ). replicate {A = ℕ} k 0) all

-- ---- No space

and_false : (b : Bool) → (b and false) ≡ false
and_false true = refl
and_false false = refl

-- The same is lent.
pub same_key_lent : {a b c d d' : ℕ} → d' ≡ d → lend a b c d' ≡ lend a b c d
same_key_lent e = rw e refl

-- A tree whose key or names do not fit what is lent is refused for want of space, whichever of it was found first.
pub comes_none : {l l' : Lent} (t : Placed) (s : State) {q : declared.Refused} {z : Called} → NoSpace q → z ≡ written l' (denied (number_of q.why) q.token q.half q.byte)
    → l' ≡ l → fits l t (key_of (bare t)) ≡ false → z ≡ written l (with_key l t s)
comes_none t s n w e f = rw f (rw (← e) (rw n at w))

-- ---- The tree and its key

length_nodes : (t : Placed) → length (nodes_of t) ≡ nodes (bare t) * record_words
length_nodes t = omega (arith, length_records (run_of t) 0 0 0, under_plant node_table type t done)

module _ {X N M : List ℕ} {q : Mark} {t : Placed} (h : HeldIn X N M q t) where
  abbrev key : List ℕ
  key = key_of (bare t)

  stands : q.named ≤ length M → Stands N M X t
  stands l =
      record {
        fits = h.fits;
        few = h.few;
        nodes_there = ap (λ (n : ℕ). take n N) (let e : length (nodes_of t) ≡ q.used * record_words = omega (arith, length_nodes t, h.used_is) in e) ∙ h.nodes_are;
        names_there = ap (λ (n : ℕ). take n M) (sym h.named_is) ∙ h.names_are l;
        spelled = h.spelled;
      }

  -- The names find no space.
  pub no_names_lem : (c d : ℕ) → length M < q.named → fits (lend (length N) (length M) c d) t key ≡ false
  no_names_lem c d l =
      ap (λ (b : Bool). leb (length key) d and b) (lt-leb (length (names_of t)) (length M) (omega (arith, h.named_is))) ∙ and_false (leb (length key) d)

  module _ {root d n : ℕ} {K : List ℕ} (w : WroteIn N M X root d n K) (e : root + 1 ≡ q.used) (spaced : q.named ≤ length M) where
    size : n ≡ min (2 ^ 57) (length key)
    size = w.long t (stands spaced) (e ∙ h.used_is) h.low

    -- The key finds no space.
    pub no_bytes : (c : ℕ) → d < n → fits (lend (length N) (length M) c d) t key ≡ false
    no_bytes c l = ap (λ (b : Bool). b and leb (length (names_of t)) (length M)) (lt-leb (length key) d (omega (arith, size)))

    -- All fits.
    pub finished : (c : ℕ) (O : List ℕ) {N' M' O' : List ℕ} {entered : ℕ} → n ≤ d → N' ≡ filled (length N) (take (q.used * record_words) N) → M' ≡ filled (length M) (take q.named M)
        → O' ≡ filled c (note_words (notes_of O q.noted)) → entered ≡ (tally_of O).entered
        → seen (Ok (record { nodes = q.used; names = q.named; notes = q.noted; key = n; at = q.at; half = q.half; entered = entered })) N' M' O' K
        ≡ written (lend (length N) (length M) c d) (with_key (lend (length N) (length M) c d) t (view q O))
    finished c O fit as-nodes as-names as-notes counted =
        let long : n ≡ length key = omega (arith, size, h.short) in
        rw (
          le-leb (length key) d (omega arith),
          le-leb (length (names_of t)) (length M) (omega (arith, h.named_is)),
        )
        (called_is (rw (h.used_is, h.named_is, length_notes O q.noted, long, counted) refl) (as-nodes ∙ ap (filled (length N)) h.nodes_are) (as-names ∙ ap (filled (length M)) (h.names_are spaced))
        as-notes (w.is t (stands spaced) (e ∙ h.used_is) h.low h.short (omega arith)))
