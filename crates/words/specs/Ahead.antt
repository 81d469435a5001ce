-- Looking ahead: tests that use nothing up (01, "Type starter", "Function start", "Primary").
use Rattle.std.specs.Prelude.{ℕ, suc, ◌+◌, Bool, true, false, not, List, [], ◌∷◌, eqb, drop}
use Rattle.words.specs.Test.{◌and◌, ◌or◌, test, among, same}
use Rattle.words.specs.Word.{kind, newline}
use Rattle.words.specs.Kind.{Eof, Word, NumberLiteral, BigIntLiteral, Str, LCurly, LBrack, RBrack, LParen, RParen, LAngle, Question, Colon, Comma, Dot3, Arrow, Eq, Minus, Plus, Abstract, Readonly, In, This, Const}
use Rattle.words.specs.Class.{binding_word, name, modifier}
use Rattle.words.specs.Class as class
use Rattle.words.specs.Kind as kinds
use Rattle.words.specs.declared.ahead.FunctionStart.{FunctionStart}
use Rattle.words.specs.declared.ahead.FunctionStart.TheVariants.{TypeParameters, New, AbstractNew, Empty, Rest, Parameter, LoneParameter, Nothing}
use Rattle.words.specs.Cursor.{word_at, whole_kind, kind_at, same_line}
use Rattle.words.specs.Spelling.{bytes}
use Rattle.words.specs.Check.{spelled}

-- the kind of the first word of a list
abbrev pub next_kind : List ℕ → ℕ
next_kind [] = Eof
next_kind (w ∷ ws) = kind w

-- what starts a type before `next` and is no `(`: a `-` before a number or bigint, and what starts one by itself
abbrev pub lone_starter : ℕ → ℕ → Bool
lone_starter k next = test (eqb k Minus) (λ _. among (NumberLiteral ∷ BigIntLiteral ∷ []) next) (λ _. class.starter k)

-- a type starter: that, or a `(` before `)` or a starter
abbrev pub starts_by : ℕ → ℕ → (Unit {0} → Bool) → Bool
starts_by k next on = test (eqb k LParen) (λ _. test (eqb next RParen) (λ _. true) on) (λ _. lone_starter k next)

abbrev pub starts : List ℕ → Bool
starts [] = false
starts (w ∷ ws) = starts_by (kind w) (next_kind ws) (λ _. starts ws)

abbrev pub starter : List ℕ → ℕ → Bool
starter words i = starts (drop i words)

-- a binding word or this
abbrev pub parameter_name : ℕ → Bool
parameter_name k = binding_word k or eqb k This

-- a modifier word before a parameter's name on its line
abbrev pub modifies : ℕ → ℕ → Bool
modifies w next = modifier (kind w) and parameter_name (kind next) and eqb (newline next) 0

-- the index after any modifier words of a list that begins at index j
abbrev pub passed : Bool → ℕ → (Unit {0} → ℕ) → ℕ
passed true j on = on tt
passed false j on = j

abbrev pub first_word : List ℕ → ℕ
first_word [] = 0
first_word (w ∷ ws) = w

abbrev pub past_modifiers : ℕ → List ℕ → ℕ
past_modifiers j [] = j
past_modifiers j (w ∷ ws) = passed (modifies w (first_word ws)) j (λ _. past_modifiers (suc j) ws)

-- what may follow a parameter's name
abbrev pub after_parameter : ℕ → Bool
after_parameter k = among (Colon ∷ Comma ∷ Question ∷ Eq ∷ []) k

-- a parameter start that ends at index j, and what follows it: one of those, or `) =>`
abbrev pub before_arrow : List ℕ → ℕ → FunctionStart
before_arrow words j = test (eqb (whole_kind words (j + 2)) Arrow) (λ _. LoneParameter j) (λ _. Nothing)

abbrev pub followed : List ℕ → ℕ → ℕ → FunctionStart
followed words j next =
    test (after_parameter next) (λ _. Parameter j) (λ _.
    test (eqb next RParen) (λ _. before_arrow words j) (λ _. Nothing))

abbrev pub parameter_start : List ℕ → ℕ → FunctionStart
parameter_start words j = test (parameter_name (whole_kind words j)) (λ _. followed words j (whole_kind words (j + 1))) (λ _. Nothing)

-- after a `(`, at index j, whose token is of kind k
abbrev pub brackets_by : List ℕ → ℕ → ℕ → FunctionStart
brackets_by words j k =
    test (eqb k RParen) (λ _. Empty) (λ _.
    test (eqb k Dot3) (λ _. Rest) (λ _.
    parameter_start words (past_modifiers j (drop j words))))

abbrev pub in_brackets : List ℕ → ℕ → FunctionStart
in_brackets words j = brackets_by words j (whole_kind words j)

-- `abstract` before `new`
abbrev pub abstract_start : List ℕ → ℕ → FunctionStart
abstract_start words at = test (eqb (whole_kind words (at + 1)) kinds.New) (λ _. AbstractNew) (λ _. Nothing)

-- 01's cases of a function start, at a token of kind k
abbrev pub start_by : List ℕ → ℕ → ℕ → FunctionStart
start_by words at k =
    test (eqb k LAngle) (λ _. TypeParameters) (λ _.
    test (eqb k kinds.New) (λ _. New) (λ _.
    test (eqb k Abstract) (λ _. abstract_start words at) (λ _.
    test (eqb k LParen) (λ _. in_brackets words (at + 1)) (λ _. Nothing))))

abbrev pub function_start : List ℕ → ℕ → ℕ → FunctionStart
function_start words at half = start_by words at (kind_at words at half)

-- ---- types.rs's look-ahead for a mapped type. One token further, but not past the end
abbrev pub skip : List ℕ → ℕ → ℕ
skip words j = test (eqb (whole_kind words j) Eof) (λ _. j) (λ _. j + 1)

-- after the token at j stands one of kind k
abbrev pub then_is : List ℕ → ℕ → ℕ → Bool
then_is words j k = eqb (whole_kind words (skip words j)) k

-- a key and `in`, from a token of kind k at j on: `[` and any token, or any token that is no name
abbrev pub key_by : List ℕ → ℕ → ℕ → Bool
key_by words j k =
    test (eqb k LBrack) (λ _. then_is words (skip words j) In) (λ _.
    test (name k) (λ _. false) (λ _. then_is words j In))

abbrev pub key_in : List ℕ → ℕ → Bool
key_in words j = key_by words j (whole_kind words j)

-- what stands after the `{`, of kind k at j: a sign and readonly, or readonly or nothing and then a key
abbrev pub mapped_by : List ℕ → ℕ → ℕ → Bool
mapped_by words j k =
    test (eqb k Plus) (λ _. then_is words j Readonly) (λ _.
    test (eqb k Minus) (λ _. then_is words j Readonly) (λ _.
    test (eqb k Readonly) (λ _. key_in words (skip words j)) (λ _. key_in words j)))

-- the `{` at index i opens a mapped type
abbrev pub mapped_start : List ℕ → ℕ → Bool
mapped_start words i = mapped_by words (skip words i) (whole_kind words (skip words i))

-- ---- Members of an object type (02, W1). What can be the key of one: a name, a string, a number
abbrev pub property_key : ℕ → Bool
property_key k = name k or among (Str ∷ NumberLiteral ∷ []) k

-- a key or a `[` stands behind the token at an index
abbrev pub key_follows : List ℕ → ℕ → Bool
key_follows words at = property_key (whole_kind words (at + 1)) or eqb (whole_kind words (at + 1)) LBrack

-- readonly stands at a cursor, with a key or a `[` behind it on its line
abbrev pub readonly_start : List ℕ → ℕ → ℕ → Bool
readonly_start words at half = eqb (kind_at words at half) Readonly and key_follows words at and same_line words (at + 1) 0

-- another modifier word stands at a cursor, with a key or a `[` behind it
abbrev pub modifier_start : List ℕ → ℕ → ℕ → Bool
modifier_start words at half = modifier (kind_at words at half) and not (eqb (kind_at words at half) Readonly) and key_follows words at

-- the bytes of get or set
abbrev pub accessor_word : List ℕ → Bool
accessor_word s = same s (bytes "get") or same s (bytes "set")

-- get or set stands at a cursor, a word by its kind, with a key or a `[` behind it
abbrev pub accessor_start : (text words : List ℕ) → ℕ → ℕ → Bool
accessor_start text words at half = eqb (kind_at words at half) Word and key_follows words at and accessor_word (spelled text (word_at words at))

-- what may follow the name of an index parameter, from index j on: `:` or `,`, or a `?` before `:`, `,` or `]`
abbrev pub after_index_name : List ℕ → ℕ → Bool
after_index_name words j =
    among (Colon ∷ Comma ∷ []) (whole_kind words j)
    or (eqb (whole_kind words j) Question and among (Colon ∷ Comma ∷ RBrack ∷ []) (whole_kind words (j + 1)))

-- what may stand before the name of an index parameter: a modifier word, in or const
abbrev pub index_modifier : ℕ → Bool
index_modifier k = modifier k or among (In ∷ Const ∷ []) k

-- what stands behind the `[` of an index signature, of kind k at j: dots, a `]`, a modifier before a name, or a name by what follows it
abbrev pub index_by : List ℕ → ℕ → ℕ → Bool
index_by words j k =
    test (among (Dot3 ∷ RBrack ∷ []) k) (λ _. true) (λ _.
    test (index_modifier k) (λ _. binding_word (whole_kind words (j + 1)) or after_index_name words (j + 1)) (λ _.
    binding_word k and after_index_name words (j + 1)))

-- the `[` at index i opens an index signature
abbrev pub index_start : List ℕ → ℕ → Bool
index_start words i = index_by words (i + 1) (whole_kind words (i + 1))
