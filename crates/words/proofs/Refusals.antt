-- No two refusals have one number.
use mathlib.Core.Path.{◌≡◌, refl, sym, ap, ◌∙◌}
use mathlib.Core.List.{List, [], ◌∷◌}
use Prim.Native.Nat.{ℕ}
use lib.ListN.{get_or}
use Rattle.words.specs.Refusal.{number_of}
use Rattle.words.specs.declared.refusal.Refusal.{Refusal}
use Rattle.words.specs.declared.refusal.Refusal.TheVariants.{BadList, BadToken, Unexpected, TooDeep, TooTall, TooLong, NoRoom, ManyNotes, BadKey, NoSpace, PrefixMark, ParameterModifier, DefaultValue, MisplacedThis, RestNotLast, TypeParameterModifier, ImportSource, ImportOptions, ManyTrials, ManyDifferences, MemberForm}

-- Each at its number; BadList where there is none.
abbrev numbered : List Refusal
numbered =
    BadList ∷ BadList ∷ BadToken ∷ Unexpected ∷ BadList ∷ TooDeep ∷ TooTall ∷ TooLong ∷ NoRoom ∷ ManyNotes ∷ BadKey ∷ NoSpace
    ∷ BadList ∷ BadList ∷ BadList ∷ BadList ∷ BadList ∷ BadList ∷ BadList ∷ BadList
    ∷ PrefixMark ∷ ParameterModifier ∷ DefaultValue ∷ MisplacedThis ∷ RestNotLast ∷ TypeParameterModifier ∷ ImportSource ∷ ImportOptions ∷ ManyTrials ∷ ManyDifferences
    ∷ BadList ∷ MemberForm ∷ []

abbrev found : ℕ → Refusal
found n = get_or numbered n BadList

found_is : (r : Refusal) → found (number_of r) ≡ r
found_is BadList = refl
found_is BadToken = refl
found_is Unexpected = refl
found_is TooDeep = refl
found_is TooTall = refl
found_is TooLong = refl
found_is NoRoom = refl
found_is ManyNotes = refl
found_is BadKey = refl
found_is NoSpace = refl
found_is PrefixMark = refl
found_is ParameterModifier = refl
found_is DefaultValue = refl
found_is MisplacedThis = refl
found_is RestNotLast = refl
found_is TypeParameterModifier = refl
found_is ImportSource = refl
found_is ImportOptions = refl
found_is ManyTrials = refl
found_is ManyDifferences = refl
found_is MemberForm = refl

pub one_refusal : (a b : Refusal) → number_of a ≡ number_of b → a ≡ b
one_refusal a b e = sym (found_is a) ∙ ap found e ∙ found_is b
