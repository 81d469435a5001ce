-- A reference, or one of two refusals.
use mathlib.Core.Path.{sym, ap, ◌∙◌}
use mathlib.Core.List.{[], ◌∷◌}
use mathlib.Core.Logic.{inl, inr}
use Rattle.words.specs.Test.{among}
use Rattle.primaries.proofs.PrimaryLaws.{some_mark, no_mark, reference_name, reference_marked, reference_none}
use Rattle.words.specs.Class as class
use Rattle.primaries.proofs.primary.other_start.Goals as goal

pub returns-then-in_class-clause-reference_is : goal.returns-then-in_class-clause-reference_is
returns-then-in_class-clause-reference_is c =
    λ g T s e. reference_name g T s (ap class.binding_word e ∙ sym c.in_class.ensures ∙ c.if-in_class.true)

pub returns-in-29-clause-reference_is : goal.returns-in-29-clause-reference_is
returns-in-29-clause-reference_is c =
    λ g T s e. reference_marked g T s (ap class.binding_word e ∙ sym c.in_class.ensures ∙ c.if-in_class.false) (ap (among (29 ∷ 37 ∷ 40 ∷ [])) e ∙ some_mark c.args.kind c.in-29.is)

pub returns-in_default-clause-reference_is : goal.returns-in_default-clause-reference_is
returns-in_default-clause-reference_is c =
    λ g T s e. reference_none g T s (ap class.binding_word e ∙ sym c.in_class.ensures ∙ c.if-in_class.false) (ap (among (29 ∷ 37 ∷ 40 ∷ [])) e ∙ no_mark c.args.kind (λ e. c.in_default.in_default-own.rest.1 (inl e)) (λ e. c.in_default.in_default-own.rest.1 (inr (inl e))) (λ e. c.in_default.in_default-own.rest.1 (inr (inr e))))
