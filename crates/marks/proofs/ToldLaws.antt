-- What a `?` hands on, and that no refusal's number is 0.
use mathlib.Core.Path.{◌≡◌, ap, ◌∙◌}
use native.Mathlib.Omega.{arith}
use Rattle.std.specs.Prelude.{Result, Err}
use Rattle.std.specs.Result.{IsErrAnd}
use Rattle.std.proofs.lemmas.Result.{err_from_is_err_and}
use Rattle.words.specs.declared.refusal.Refusal.{Refusal}
use Rattle.words.specs.declared.refusal.Refusal.TheVariants.{BadList, BadToken, Unexpected, TooDeep, TooTall, TooLong, NoRoom, ManyNotes, BadKey, NoSpace, PrefixMark, ParameterModifier, DefaultValue, MisplacedThis, RestNotLast, TypeParameterModifier, ImportSource, ImportOptions, ManyTrials, ManyDifferences, MemberForm}
use Rattle.words.specs.Refusal.{number_of}
use Rattle.marks.specs.declared.state.Stop.{Stop}

-- The refusal that is handed on is the one that was met.
pub handed_on : {T : Type 0} {r : Result T Stop} {e : Stop} → IsErrAnd r (λ y. y ≡ e) → r ≡ Err e
handed_on {r = r} {e = e} h =
    let p = err_from_is_err_and {Q = λ y. y ≡ e} r h in
    p.1 ∙ ap (λ (y : Stop). Err y) p.2

-- A refusal's number says that there is one.
pub refusal_some : (r : Refusal) → number_of r ≡ 0 → ⊥
refusal_some BadList h = omega arith
refusal_some BadToken h = omega arith
refusal_some Unexpected h = omega arith
refusal_some TooDeep h = omega arith
refusal_some TooTall h = omega arith
refusal_some TooLong h = omega arith
refusal_some NoRoom h = omega arith
refusal_some ManyNotes h = omega arith
refusal_some BadKey h = omega arith
refusal_some NoSpace h = omega arith
refusal_some PrefixMark h = omega arith
refusal_some ParameterModifier h = omega arith
refusal_some DefaultValue h = omega arith
refusal_some MisplacedThis h = omega arith
refusal_some RestNotLast h = omega arith
refusal_some TypeParameterModifier h = omega arith
refusal_some ImportSource h = omega arith
refusal_some ImportOptions h = omega arith
refusal_some ManyTrials h = omega arith
refusal_some ManyDifferences h = omega arith
refusal_some MemberForm h = omega arith
