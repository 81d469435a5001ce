-- From what a caller of the open calls sees to what the exported calls tell.
use mathlib.Core.Path.{◌≡◌, ap, ◌∙◌}
use mathlib.Core.List.{List}
use Prim.Native.Nat.{ℕ}
use Rattle.std.specs.Prelude.{Result, Ok, Err, MatchResult, IsErrAnd}
use Rattle.std.proofs.lemmas.Result.{err_from_is_err_and}
use Rattle.keys.specs.Store as store
use Rattle.keys.specs.Store.{TakenBack}
use Rattle.rules.specs.Read as rules
use Rattle.rules.specs.Read.{Called}
use Rattle.differs.specs.Differ as differs
use Rattle.differs.specs.Differ.{Differed}
use Rattle.told.specs.Answer.{told, told_back, told_difference}
use Rattle.typekey_c.specs.Words.{TellsIn, TellsBackIn, TellsDifferenceIn}

-- What a refusal is told by comes to the same answer, if it does for each.
pub told_by : {T E D A : Type 0} (of : Result T E → A) (by : Result T D → A) (number : E → D) → ((x : T) → by (Ok x) ≡ of (Ok x)) → ((e : E) → by (Err (number e)) ≡ of (Err e))
    → (r : Result T E) (d : Result T D) → MatchResult r (λ x. d ≡ Ok x) (λ e. IsErrAnd d (λ y. y ≡ number e)) → by d ≡ of r
told_by of by number read refused (Ok x) d is = ap by is ∙ read x
told_by of by number read refused (Err e) d is = let found = err_from_is_err_and d is in ap by found.1 ∙ ap (λ y. by (Err y)) found.2 ∙ refused e

pub tells : {c : Called} {a : rules.Answer} {A N M O K : List ℕ} → record { answer = a; node_words = N; name_words = M; note_words = O; key = K } ≡ c → A ≡ told a
    → TellsIn c A N M O K
tells seen is =
    record {
      answer_is = is ∙ ap (λ y. told y.answer) seen;
      nodes_are = ap (λ y. y.node_words) seen;
      names_are = ap (λ y. y.name_words) seen;
      notes_are = ap (λ y. y.note_words) seen;
      key_is = ap (λ y. y.key) seen;
    }

pub tells_back : {d : TakenBack} {a : store.Answer} {A N M X : List ℕ} → record { answer = a; node_words = N; name_words = M; text = X } ≡ d → A ≡ told_back a
    → TellsBackIn d A N M X
tells_back seen is =
    record {
      answer_is = is ∙ ap (λ y. told_back y.answer) seen;
      nodes_are = ap (λ y. y.node_words) seen;
      names_are = ap (λ y. y.name_words) seen;
      text_is = ap (λ y. y.text) seen;
    }

pub tells_difference : {d : Differed} {a : differs.Answer} {A L : List ℕ} → record { answer = a; list = L } ≡ d → A ≡ told_difference a → TellsDifferenceIn d A L
tells_difference seen is = record { answer_is = is ∙ ap (λ y. told_difference y.answer) seen; list_is = ap (λ y. y.list) seen }
