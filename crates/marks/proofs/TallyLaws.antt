-- What a step of the tally leaves: the count or the trials, and all else as it was.
use mathlib.Core.Path.{◌≡◌, ◌∙◌, subst}
use mathlib.Core.List.{List}
use Prim.Native.Nat.{ℕ, ◌+◌, ◌<◌}
use native.Mathlib.Omega.{arith}
use lib.ListN.{length, set}
use lib.Seq.{get_or-set_same, get_or-set_other}
use borrow.Author.Tests.{lt-ltb}
use Rattle.words.specs.Limits.{most_entered}
use Rattle.keys.specs.Placed.{Placed}
use Rattle.keys.specs.Store.{Run}
use Rattle.rules.specs.State.{Result, tallied, one_more}
use Rattle.marks.specs.State.{tallies, notes_of, tally_of, view}
use Rattle.marks.specs.Tally.{Tallied}
use Rattle.marks.specs.Laid.{Was, was, Laid}
use Rattle.marks.specs.Says.{Says}
use Rattle.marks.proofs.LaidLaws.{notes_apart, laid_noted}
use Rattle.marks.specs.declared.state.Mark.{Mark}
use Rattle.marks.specs.Told.{Answer}

-- ---- Words of the tally

-- They are none of a diagnostic's.
notes_tally : (O : List ℕ) (n i v : ℕ) → i < tallies → notes_of (set O i v) n ≡ notes_of O n
notes_tally O n i v h = notes_apart O n i v (λ k l b e. omega arith)

module _ (O : List ℕ) {O' : List ℕ} where
  -- One type rule more is counted.
  pub tallied_more : {n : ℕ} → n ≡ (tally_of O).entered → n < most_entered → 0 < length O → O' ≡ set O 0 (n + 1) → Tallied O (one_more (tally_of O).entered) (tally_of O).trials O'
  tallied_more {n} e h l s =
      let less : (tally_of O).entered < most_entered = omega arith in
      rw (s, e)
      (record {
        entered_is = get_or-set_same O 0 ((tally_of O).entered + 1) 0 l ∙ (rw (lt-ltb (tally_of O).entered most_entered less));
        trials_is = get_or-set_other O 0 1 ((tally_of O).entered + 1) 0 (λ e. omega arith);
        notes_are = λ n. notes_tally O n 0 ((tally_of O).entered + 1) (omega arith);
      })

  -- So many trials are open.
  pub tallied_open : {k : ℕ} → 1 < length O → O' ≡ set O 1 k → Tallied O (tally_of O).entered k O'
  tallied_open {k} l s =
      rw s
      (record {
        entered_is = get_or-set_other O 1 0 k 0 (λ e. omega arith);
        trials_is = get_or-set_same O 1 k 0 l;
        notes_are = λ n. notes_tally O n 1 k (omega arith);
      })

-- ---- What stands then

module _ {O : List ℕ} {n k : ℕ} {O' : List ℕ} (w : Tallied O n k O') where
  -- Reading stands where it did.
  pub view_tallied : (m : Mark) → view m O' ≡ tallied (view m O) n k
  view_tallied m = rw (w.notes_are m.noted, w.entered_is, w.trials_is)

  -- What was laid stands.
  pub laid_tallied : {B : Was} {t : Run} {used named noted : ℕ} {N M : List ℕ} → Laid B t used named noted N M O → Laid B t used named noted N M O'
  laid_tallied {noted = noted} d = laid_noted noted O' (omega arith) (w.notes_are noted) d

  -- What stood there is the same.
  was_tallied : (m : Mark) (N M : List ℕ) → was m N M O' ≡ was m N M O
  was_tallied m N M = rw (w.notes_are m.noted)

  -- What was read since stands since before.
  pub says_tallied : {c : ℕ} (m : Mark) (N M : List ℕ) {x : Result Placed} {a : Answer} {N' M' O'' : List ℕ} → Says c (was m N M O') x a N' M' O'' → Says c (was m N M O) x a N' M' O''
  says_tallied {c} m N M {x} {a} {N'} {M'} {O''} s = subst (λ (B : Was). Says c B x a N' M' O'') (was_tallied m N M) s
