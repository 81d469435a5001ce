-- The spellings that 01's table of kinds fixes, and what a token's bytes must be.
use Rattle.std.specs.Prelude.{ℕ, zero, suc, ◌+◌, ◌-◌, ◌*◌, ◌%◌, Bool, true, not, List, [], ◌∷◌, ◌++◌, eqb, leb, get_or, length, set, replicate}
use Prim.Native.Char.{code}
use Prim.Native.String as S
use Prim.Native.String.{String}
use Rattle.words.specs.Test.{◌and◌, same, test, some_below, among}
use Rattle.words.specs.Kind.{Word, LCurly, Any, Extends, OtherReserved}
use Rattle.words.specs.Class.{fixed, other}

-- the bytes of a text of ASCII
abbrev pub bytes : String → List ℕ
bytes S.[] = []
bytes (S.◌∷◌ c s) = code c ∷ bytes s

-- 16 to 40
abbrev pub marks : List String
marks =
    "{" ∷ "}" ∷ "[" ∷ "]" ∷ "(" ∷ ")" ∷ "<" ∷ ">" ∷ "<<" ∷ "<=" ∷ "<<=" ∷ "|" ∷ "&" ∷ "?" ∷ ":" ∷ "," ∷ ";" ∷ "." ∷ "..." ∷ "=>" ∷ "=" ∷ "!" ∷ "-" ∷ "+" ∷ "*" ∷ []

-- 64 to 82
abbrev pub words : List String
words =
    "any" ∷ "bigint" ∷ "boolean" ∷ "never" ∷ "number" ∷ "object" ∷ "string" ∷ "symbol" ∷ "undefined" ∷ "unknown"
    ∷ "abstract" ∷ "as" ∷ "asserts" ∷ "infer" ∷ "is" ∷ "keyof" ∷ "out" ∷ "readonly" ∷ "unique" ∷ []

-- 96 to 106
abbrev pub reserved : List String
reserved = "extends" ∷ "false" ∷ "import" ∷ "in" ∷ "new" ∷ "null" ∷ "this" ∷ "true" ∷ "typeof" ∷ "void" ∷ "const" ∷ []

-- the spelling of a kind: nothing where none is fixed
abbrev pub shown : ℕ → String
shown k =
    test (leb Extends k) (λ _. get_or reserved (k - Extends) "") (λ _.
    test (leb Any k) (λ _. get_or words (k - Any) "") (λ _.
    test (leb LCurly k) (λ _. get_or marks (k - LCurly) "") (λ _. "")))

abbrev pub spelling : ℕ → List ℕ
spelling k = bytes (shown k)

-- s is the fixed spelling of kind k
abbrev pub spelled_as : List ℕ → ℕ → Bool
spelled_as s k = fixed k and same (spelling k) s

-- s is the fixed spelling of some kind
abbrev pub spelled_as_any : List ℕ → Bool
spelled_as_any s = some_below OtherReserved (spelled_as s)

abbrev pub backslash : ℕ
backslash = 92

-- 01: a fixed kind is spelled as shown, the other words and marks as none of those, and a Word holds no backslash
abbrev pub spelled_right : ℕ → List ℕ → Bool
spelled_right k s =
    test (fixed k) (λ _. same (spelling k) s) (λ _.
    test (other k) (λ _. not (spelled_as_any s) and not (eqb k Word and among s backslash)) (λ _.
    true))

-- ---- the spellings one after the other, as the code keeps them

-- the spellings of n kinds, from kind k on
abbrev pub letters_from : ℕ → ℕ → List ℕ
letters_from zero k = []
letters_from (suc n) k = spelling k ++ letters_from n (suc k)

abbrev pub fixed_letters : List ℕ
fixed_letters = letters_from OtherReserved 0

-- where the spellings of n kinds, from kind k on, stand among them if the first stands at `at`, each with its length
abbrev pub places_from : ℕ → ℕ → ℕ → List ℕ
places_from zero k at = []
places_from (suc n) k at = (at * 16 + length (spelling k)) ∷ places_from n (suc k) (at + length (spelling k))

abbrev pub fixed_places : List ℕ
fixed_places = places_from 128 0 0

-- ---- the one kind whose fixed spelling a byte string can be, as the code guesses it

-- where the guess for a string of n bytes stands, by its first and its last byte
abbrev pub guess_place : ℕ → ℕ → ℕ → ℕ
guess_place n first last = (8 * (n % 16) + 13 * first + 46 * last) % 128

abbrev pub guess_place_of : List ℕ → ℕ
guess_place_of s = guess_place (length s) (get_or s 0 0) (get_or s (length s - 1) 0)

-- each fixed kind below k at the place of its spelling, 0 elsewhere
abbrev pub guesses_below : ℕ → List ℕ
guesses_below zero = replicate 128 0
guesses_below (suc k) = test (fixed k) (λ _. set (guesses_below k) (guess_place_of (spelling k)) k) (λ _. guesses_below k)

abbrev pub fixed_guesses : List ℕ
fixed_guesses = guesses_below OtherReserved
