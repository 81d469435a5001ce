-- The kinds of tokens, under the names that types.rs gives them (01, the table of kinds).
use Rattle.std.specs.Prelude.{ℕ}

-- the end
abbrev pub Eof : ℕ
Eof = 0

-- a word
abbrev pub Word : ℕ
Word = 1

-- a number
abbrev pub NumberLiteral : ℕ
NumberLiteral = 2

-- a bigint literal
abbrev pub BigIntLiteral : ℕ
BigIntLiteral = 3

-- a string
abbrev pub Str : ℕ
Str = 4

-- a whole template
abbrev pub NoSubstitutionTemplate : ℕ
NoSubstitutionTemplate = 5

-- a template up to its first type
abbrev pub TemplateHead : ℕ
TemplateHead = 6

-- between two types
abbrev pub TemplateMiddle : ℕ
TemplateMiddle = 7

-- after the last
abbrev pub TemplateTail : ℕ
TemplateTail = 8

-- `{`
abbrev pub LCurly : ℕ
LCurly = 16

-- `}`
abbrev pub RCurly : ℕ
RCurly = 17

-- `[`
abbrev pub LBrack : ℕ
LBrack = 18

-- `]`
abbrev pub RBrack : ℕ
RBrack = 19

-- `(`
abbrev pub LParen : ℕ
LParen = 20

-- `)`
abbrev pub RParen : ℕ
RParen = 21

-- `<`
abbrev pub LAngle : ℕ
LAngle = 22

-- `>`
abbrev pub RAngle : ℕ
RAngle = 23

-- `<<`
abbrev pub ShiftLeft : ℕ
ShiftLeft = 24

-- `<=`
abbrev pub LtEq : ℕ
LtEq = 25

-- `<<=`
abbrev pub ShiftLeftEq : ℕ
ShiftLeftEq = 26

-- `|`
abbrev pub Pipe : ℕ
Pipe = 27

-- `&`
abbrev pub Amp : ℕ
Amp = 28

-- `?`
abbrev pub Question : ℕ
Question = 29

-- `:`
abbrev pub Colon : ℕ
Colon = 30

-- `,`
abbrev pub Comma : ℕ
Comma = 31

-- `;`
abbrev pub Semicolon : ℕ
Semicolon = 32

-- `.`
abbrev pub Dot : ℕ
Dot = 33

-- `...`
abbrev pub Dot3 : ℕ
Dot3 = 34

-- `=>`
abbrev pub Arrow : ℕ
Arrow = 35

-- `=`
abbrev pub Eq : ℕ
Eq = 36

-- `!`
abbrev pub Bang : ℕ
Bang = 37

-- `-`
abbrev pub Minus : ℕ
Minus = 38

-- `+`
abbrev pub Plus : ℕ
Plus = 39

-- `*`
abbrev pub Star : ℕ
Star = 40

-- any other mark
abbrev pub OtherMark : ℕ
OtherMark = 41

-- any
abbrev pub Any : ℕ
Any = 64

-- bigint
abbrev pub BigInt : ℕ
BigInt = 65

-- boolean
abbrev pub Boolean : ℕ
Boolean = 66

-- never
abbrev pub Never : ℕ
Never = 67

-- number
abbrev pub Number : ℕ
Number = 68

-- object
abbrev pub Object : ℕ
Object = 69

-- string
abbrev pub String : ℕ
String = 70

-- symbol
abbrev pub Symbol : ℕ
Symbol = 71

-- undefined
abbrev pub Undefined : ℕ
Undefined = 72

-- unknown
abbrev pub Unknown : ℕ
Unknown = 73

-- abstract
abbrev pub Abstract : ℕ
Abstract = 74

-- as
abbrev pub As : ℕ
As = 75

-- asserts
abbrev pub Asserts : ℕ
Asserts = 76

-- infer
abbrev pub Infer : ℕ
Infer = 77

-- is
abbrev pub Is : ℕ
Is = 78

-- keyof
abbrev pub KeyOf : ℕ
KeyOf = 79

-- out
abbrev pub Out : ℕ
Out = 80

-- readonly
abbrev pub Readonly : ℕ
Readonly = 81

-- unique
abbrev pub Unique : ℕ
Unique = 82

-- any other modifier word
abbrev pub OtherModifier : ℕ
OtherModifier = 83

-- extends
abbrev pub Extends : ℕ
Extends = 96

-- false
abbrev pub False : ℕ
False = 97

-- import
abbrev pub Import : ℕ
Import = 98

-- in
abbrev pub In : ℕ
In = 99

-- new
abbrev pub New : ℕ
New = 100

-- null
abbrev pub Null : ℕ
Null = 101

-- this
abbrev pub This : ℕ
This = 102

-- true
abbrev pub True : ℕ
True = 103

-- typeof
abbrev pub Typeof : ℕ
Typeof = 104

-- void
abbrev pub Void : ℕ
Void = 105

-- const
abbrev pub Const : ℕ
Const = 106

-- any other reserved word
abbrev pub OtherReserved : ℕ
OtherReserved = 107
