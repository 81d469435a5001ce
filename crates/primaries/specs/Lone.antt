-- A type of one token.
use Rattle.std.specs.Prelude.{◌≡◌, Bool, true, not, List, [], ◌∷◌, ℕ, ◌+◌}
use Rattle.words.specs.Kind.{Word, NumberLiteral, BigIntLiteral, Str, LBrack, LAngle, ShiftLeft, LtEq, ShiftLeftEq, Amp, Question, Dot, Bang, Any, BigInt, Boolean, Never, Number, Object, String, Symbol, Undefined, Unknown, False, Null, True, Void}
use Rattle.words.specs.Cursor.{kind_at, whole_kind}
use Rattle.words.specs.Test.{◌and◌, among}
use Rattle.rules.specs.State.{Reader}
use Rattle.rules.specs.Union.{intersection}
use Rattle.marks.specs.State.{view, given_of, Spelt}
use Rattle.marks.specs.Laid.{was}
use Rattle.marks.specs.Says.{Says}
use Rattle.primaries.specs.Primary.{MayPutToken}
use Rattle.marks.specs.declared.state.Given.{Given}
use Rattle.marks.specs.declared.state.Mark.{Mark}
use Rattle.marks.specs.Told.{Answer}

-- Keywords but for `this`, which may begin a predicate.
abbrev pub word_types : List ℕ
word_types = Any ∷ BigInt ∷ Boolean ∷ Never ∷ Number ∷ Object ∷ String ∷ Symbol ∷ Undefined ∷ Unknown ∷ Null ∷ Void ∷ []

-- Kinds of which a token can be a whole type.
abbrev pub whole_types : List ℕ
whole_types = Word ∷ NumberLiteral ∷ BigIntLiteral ∷ Str ∷ True ∷ False ∷ word_types

-- Kinds that go on with such a type before them: a dot, arguments, a postfix mark, an `&`.
abbrev pub onward_kinds : List ℕ
onward_kinds = LBrack ∷ LAngle ∷ ShiftLeft ∷ LtEq ∷ ShiftLeftEq ∷ Amp ∷ Question ∷ Dot ∷ Bang ∷ []

-- A token is a whole type, by its kind and the next one's.
abbrev pub is_lone : (kind next : ℕ) → Bool
is_lone k n = among whole_types k and not (among onward_kinds n)

-- The node of such a token may be put.
abbrev pub MayPutLone : (W N : List ℕ) (given : Given) (m : Mark) → Type 0
MayPutLone W N given m = MayPutToken W N given m × (is_lone (kind_at W m.at m.half) (whole_kind W (m.at + 1)) ≡ true)

-- It is all that an intersection reads there, from any text that is spelled so.
abbrev pub SaysLone : (W : List ℕ) (given : Given) (m : Mark) (N M : List ℕ) (a : Answer) (N' M' : List ℕ) → Type 0
SaysLone W given m N M a N' M' =
    (text O : List ℕ) (T : Reader) (on : Bool) → Spelt text W → Says 0 (was m N M O) (intersection (given_of text W given) T on (view m O)) a N' M' O
