-- Words are an output of a walk.
use mathlib.Core.Path.{◌≡◌, refl, sym, ap, ◌∙◌}
use mathlib.Core.List.{List, ◌++◌}
use mathlib.Core.Logic.{◌⊎◌, inl, inr}
use Prim.Native.Nat.{ℕ, ◌+◌, ◌≤◌, ◌<◌}
use native.Mathlib.Omega.{arith}
use lib.ListN.{length, length-append}
use lib.Seq.{sets, length-sets}
use Rattle.keys.proofs.BitsLaws.{le_or_lt}
use Rattle.fields.specs.Put.{far}
use Rattle.fields.proofs.PutLaws.{sets_append, sets_past}
use Rattle.node_table.specs.Moves.{Sound}
use Rattle.visits.specs.Visits.{Listed, visit_words}

listed_append : {to m r : ℕ} {a b k k1 k2 : List ℕ} → Listed to a m k k1 → Listed m b r k1 k2 → Listed to (a ++ b) r k k2
listed_append {to} {m} {r} {a} {b} {k} {k1} {k2} p q =
    record {
      short = p.short;
      next = omega (arith, p.next, q.next, length-append a b);
      same = q.same ∙ p.same;
      is = q.is ∙ ap (λ (x : List ℕ). sets x m b) p.is ∙ at (le_or_lt (to + length a) far) ∙ sym (sets_append a b k to);
    }
  where
    long : length (sets k to a) ≤ far
    long = omega (arith, length-sets k to a, p.short)

    at : (to + length a ≤ far) ⊎ (far < to + length a) → sets (sets k to a) m b ≡ sets (sets k to a) (to + length a) b
    at (inl h) =
        let e : m ≡ to + length a = omega (arith, p.next) in
        ap (λ (i : ℕ). sets (sets k to a) i b) e
    at (inr h) = sets_past b (sets k to a) m (omega (arith, p.next, long)) ∙ sym (sets_past b (sets k to a) (to + length a) (omega (arith, long)))

pub visits_sound : Sound visit_words
visits_sound =
    record {
      none = λ to k h l. record { short = l; next = omega arith; same = refl; is = refl };
      append = λ p q. listed_append p q;
      short = λ p. p.short;
      stays = λ p. omega (arith, p.next);
      same = λ p. p.same;
    }
