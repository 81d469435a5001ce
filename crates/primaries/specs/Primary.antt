-- Primary types that hold no type, and brackets.
use Rattle.std.specs.Prelude.{◌≡◌, Bool, true, List, [], ◌∷◌, ℕ, ◌+◌, ◌*◌, ◌^◌, ◌≤◌, ◌<◌, length}
use Rattle.words.specs.Limits.{most_tokens}
use Rattle.words.specs.Kind.{RParen, Minus, Str, NumberLiteral, BigIntLiteral, NoSubstitutionTemplate}
use Rattle.words.specs.Test.{◌or◌, test, among}
use Rattle.keys.specs.Bits.{unit}
use Rattle.keys.specs.Limits.{record_words, tags}
use Rattle.keys.specs.Placed as node
use Rattle.keys.specs.Placed.{Placed, tree, present}
use Rattle.rules.specs.State as rule
use Rattle.rules.specs.State.{State, Result, read, kind, stands, next, end, spelling, expect, make}
use Rattle.rules.specs.List.{position}
use Rattle.rules.specs.Function.{subject}
use Rattle.rules.specs.Primary as primary
use Rattle.marks.specs.State.{view, given_of, Sound, Spelt, Fine}
use Rattle.marks.specs.Laid.{name_run, Was, was, Stands, Spoken, Shape}
use Rattle.marks.specs.Says.{Says, opt_names}
use Rattle.marks.specs.List.{here}
use Rattle.marks.specs.declared.state.Given.{Given}
use Rattle.marks.specs.declared.state.Mark.{Mark}
use Rattle.marks.specs.declared.state.Begin.{Begin}
use Rattle.marks.specs.Told.{Answer}

-- A literal stands here, a negative one, or a template with no type in it.
abbrev pub is_literal : rule.Given → State → Bool
is_literal g s = among primary.literals (kind g s) or primary.is_negative g s or stands g NoSubstitutionTemplate s

-- From the `)` due here on: a node only if asked for.
abbrev pub close_parens : rule.Given → ℕ → Placed → State → Result Placed
close_parens g b t s =
    expect g RParen s λ q.
    test g.parens (λ _. make g [] (node.parens b (end g q) t) q) λ _.
    read t q

-- Over a tree that stands since B, what the rules make of it once its `)` is passed.
abbrev pub MakesParens : (W : List ℕ) (given : Given) (b : Begin) (high : ℕ) (m : Mark) (N : List ℕ) (a : Answer) (N' : List ℕ) → Type 0
MakesParens W given b high m N a N' =
    (text : List ℕ) (B : Was) (t : Placed) (M O : List ℕ) → Stands 0 B t high m N M O → b.name ≡ B.named
    → Says 0 B (close_parens (given_of text W given) b.first t (view m O)) a N' M O

-- The subject of a predicate that begins at m, from that state of it on: its name, if it is one, was read from m to q.
abbrev pub SpeaksSubject : (from : State → State) (W : List ℕ) (m : Mark) (M : List ℕ) (q : Mark) (M' : List ℕ) → Type 0
SpeaksSubject from W m M q M' = (text O : List ℕ) (given : Given) → Spelt text W → Spoken (opt_names (subject (given_of text W given) (from (view m O)))) m q M M'

-- The choices of a predicate up to its type.
abbrev pub predicate_choices : (asserts is_this : Bool) → ℕ
predicate_choices asserts is_this = 16 + tags * (unit asserts + 2 * unit is_this)

-- The choices of a literal that is spelled, or of a template with no type.
abbrev pub literal_choices : ℕ → ℕ
literal_choices k = test (among (Str ∷ NumberLiteral ∷ BigIntLiteral ∷ []) k) (λ _. 3 + tags * position k primary.literals) (λ _. 15)

-- A node of the token at m may be put.
abbrev pub MayPutToken : (W N : List ℕ) (given : Given) (m : Mark) → Type 0
MayPutToken W N given m = Sound W × (given.room * record_words ≤ length N) × Fine (length W) given m × (m.at < length W)

-- The same of a literal, which stands behind a sign if there is one.
abbrev pub MayPutLiteral : (W N : List ℕ) (given : Given) (m : Mark) → Type 0
MayPutLiteral W N given m =
    Sound W × (given.room * record_words ≤ length N) × Fine (length W) given m × (m.at < length W) × (here W Minus m ≡ true → m.at + 1 < length W)

-- The same of a node that begins before the token.
abbrev pub MayPutSpelled : (W N : List ℕ) (given : Given) (b : Begin) (m : Mark) → Type 0
MayPutSpelled W N given b m =
    Sound W × (given.room * record_words ≤ length N) × Fine (length W) given m × (m.at < length W) × (b.first < 2 ^ 32) × (b.name ≤ most_tokens)

-- A node of one name, the token at m, is what the rules make of it.
abbrev pub SaysSpelled : (W : List ℕ) (given : Given) (b : Begin) (choices : ℕ) (m : Mark) (N M : List ℕ) (a : Answer) (N' M' : List ℕ) → Type 0
SaysSpelled W given b choices m N M a N' M' =
    (text O : List ℕ) (tag : ℕ) (p : Placed) → Spelt text W → b.name ≡ m.named → Shape 0 tag p (name_run (spelling (given_of text W given) (view m O))) choices
    → Says 0 (was m N M O) (make (given_of text W given) [] (tree tag b.first (end (given_of text W given) (next (view m O))) p) (next (view m O))) a N' M' O

-- The same of a negative literal behind its sign.
abbrev pub SaysNegative : (W : List ℕ) (given : Given) (b : Begin) (m : Mark) (N M : List ℕ) (a : Answer) (N' M' : List ℕ) → Type 0
SaysNegative W given b m N M a N' M' =
    (text O : List ℕ) → Spelt text W → b.name ≡ m.named → among (NumberLiteral ∷ BigIntLiteral ∷ []) (kind (given_of text W given) (view m O)) ≡ true
    → Says 0 (was m N M O) (make (given_of text W given) [] (node.literal b.first (end (given_of text W given) (next (view m O)))
    (primary.negated (kind (given_of text W given) (view m O))) (present (spelling (given_of text W given) (view m O)))) (next (view m O))) a N' M' O
