-- The classes of kinds, by ranges of kind numbers, and the table of 256 class words that they make (01, "Token words").
use Rattle.std.specs.Prelude.{ℕ, zero, suc, ◌+◌, ◌*◌, Bool, true, false, List, [], ◌∷◌, ◌++◌, eqb, leb, get_or}
use Rattle.words.specs.Test.{◌or◌, between, among}
use Rattle.words.specs.Kind.{Word, NumberLiteral, TemplateHead, TemplateTail, LCurly, LBrack, LAngle, Pipe, Amp, Question, Bang, Star, Dot3, OtherMark, Any, Abstract, Out, Readonly, Unique, OtherModifier, Extends, New, Import, This, Typeof, Void, Null, True, False, Const, OtherReserved}
use Rattle.words.specs.declared.kind.Class.{Class}
use Rattle.words.specs.declared.kind.Class.TheVariants as classes

-- the kinds that there are
abbrev pub good_kind : ℕ → Bool
good_kind k = leb k TemplateTail or between LCurly OtherMark k or between Any OtherModifier k or between Extends OtherReserved k

-- a word that can name a parameter
abbrev pub binding_word : ℕ → Bool
binding_word k = eqb k Word or between Any OtherModifier k

-- a word that can stand after a dot
abbrev pub name : ℕ → Bool
name k = binding_word k or between Extends OtherReserved k

-- what can begin a type whatever follows it
abbrev pub starter : ℕ → Bool
starter k =
    binding_word k
    or between NumberLiteral TemplateHead k
    or among (LCurly ∷ LBrack ∷ LAngle ∷ Pipe ∷ Amp ∷ Star ∷ Question ∷ Bang ∷ Dot3 ∷ []) k
    or among (New ∷ Import ∷ This ∷ Typeof ∷ Void ∷ Null ∷ True ∷ False ∷ []) k

-- a modifier word
abbrev pub modifier : ℕ → Bool
modifier k = among (Abstract ∷ Out ∷ Readonly ∷ OtherModifier ∷ []) k

-- a kind whose spelling is fixed
abbrev pub fixed : ℕ → Bool
fixed k = between LCurly Star k or between Any Unique k or between Extends Const k

-- a kind that takes any spelling but the fixed ones
abbrev pub other : ℕ → Bool
other k = among (Word ∷ OtherMark ∷ OtherModifier ∷ OtherReserved ∷ []) k

-- the classes of a kind, in the order of their bits
abbrev pub classes_of : ℕ → List Bool
classes_of k = binding_word k ∷ name k ∷ starter k ∷ modifier k ∷ good_kind k ∷ fixed k ∷ other k ∷ []

-- the bit of a class
abbrev pub bit_of : Class → ℕ
bit_of classes.BindingWord = 0
bit_of classes.Name = 1
bit_of classes.Starter = 2
bit_of classes.Modifier = 3
bit_of classes.Good = 4
bit_of classes.Fixed = 5
bit_of classes.Other = 6

-- whether a kind has the class of bit j
abbrev pub in_class : ℕ → ℕ → Bool
in_class j k = get_or (classes_of k) j false

-- a class word: the first class lowest
abbrev pub bit : Bool → ℕ
bit true = 1
bit false = 0

abbrev pub packed : List Bool → ℕ
packed [] = 0
packed (b ∷ bs) = bit b + 2 * packed bs

abbrev pub class_word : ℕ → ℕ
class_word k = packed (classes_of k)

-- f at 0, 1, .. below n
abbrev pub table : ℕ → (ℕ → ℕ) → List ℕ
table zero f = []
table (suc n) f = table n f ++ (f n ∷ [])

-- the table over the 256 kind numbers
abbrev pub class_words : List ℕ
class_words = table 256 class_word
