use Rattle.std.proofs.Common.{arith, ◌≡◌, ◌∙◌, ap, ℕ, suc, ◌+◌, ◌-◌, ◌<◌, List}
use Rattle.noted.specs.declared.Note.{Note}
use Rattle.noted.specs.Structs.{struct_at, store_at, place_after, store_from}
use Rattle.noted.proofs.store_notes.Goals as goal

-- One record more.
turned : (words : List ℕ) (i at n r : ℕ) (m : Note) (l l' : List Note) → i < n → m ≡ struct_at words i → r ≡ place_after l at → l' ≡ store_at l at m
    → store_from words (i + 1) r (n - (i + 1)) l' ≡ store_from words i at (n - i) l
turned words i at n r m l l' h is place stored =
    (λ k. store_from words (i + 1) (place k) (n - (i + 1)) (stored k)) ∙ ap (λ (z : Note). store_from words (i + 1) (place_after l at) (n - (i + 1)) (store_at l at z)) is
    ∙ ap (λ (x : ℕ). store_from words i at x l) left
  where
    left : suc (n - (i + 1)) ≡ n - i
    left = omega arith

pub loop-i-preserved : goal.loop-i-preserved
loop-i-preserved c =
    turned _ _ _ _ _ _ _ _ c.loop-i-test.true c.note_at.ensures c.store_note-at.ensures.0 c.store_note-at.ensures.1 ∙ c.loop-i.invariant
