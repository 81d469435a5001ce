-- The numbers of refusals.
use Prim.Native.Nat.{ℕ}
use Rattle.words.specs.declared.refusal.Refusal.{Refusal}
use Rattle.words.specs.declared.refusal.Refusal.TheVariants.{BadList, BadToken, Unexpected, TooDeep, TooTall, TooLong, NoRoom, ManyNotes, BadKey, NoSpace, PrefixMark, ParameterModifier, DefaultValue, MisplacedThis, RestNotLast, TypeParameterModifier, ImportSource, ImportOptions, ManyTrials, ManyDifferences, MemberForm}

-- The number that document 01 gives a refusal.
abbrev pub number_of : Refusal → ℕ
number_of BadList = 1
number_of BadToken = 2
number_of Unexpected = 3
number_of TooDeep = 5
number_of TooTall = 6
number_of TooLong = 7
number_of NoRoom = 8
number_of ManyNotes = 9
number_of BadKey = 10
number_of NoSpace = 11
number_of PrefixMark = 20
number_of ParameterModifier = 21
number_of DefaultValue = 22
number_of MisplacedThis = 23
number_of RestNotLast = 24
number_of TypeParameterModifier = 25
number_of ImportSource = 26
number_of ImportOptions = 27
number_of ManyTrials = 28
number_of ManyDifferences = 29
number_of MemberForm = 31
