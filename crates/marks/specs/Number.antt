-- The numbers of diagnostics, and of the tags of the node table.
use Prim.Native.Nat.{ℕ}
use Rattle.marks.specs.declared.notes.Note.{Note}
use Rattle.marks.specs.declared.notes.Note.TheVariants.{EmptyTypeParameters, EmptyArguments, ThisOnConstructor, RequiredAfterOptional, RestAfterLabel, AskedAfterLabel, OptionalAndRest, AskedIndex, CommaAfterIndex, LiteralIndex, KeywordIndex, NotOneIndex, ReservedName}
use Rattle.marks.specs.declared.node.Tag.{Tag}
use Rattle.marks.specs.declared.node.Tag.TheVariants.{Reference, Keyword, Literal, Parens, Union, Intersection, Array, Indexed, Conditional, Infer, Operator, Function, Constructor, Mapped, Template, Predicate, Typeof, Import, Tuple, Optional, Rest, Named, NonNull, Asked, Object}

-- The number that a diagnostic's record holds.
abbrev pub number_of : Note → ℕ
number_of EmptyTypeParameters = 1
number_of EmptyArguments = 2
number_of ThisOnConstructor = 3
number_of RequiredAfterOptional = 4
number_of RestAfterLabel = 5
number_of AskedAfterLabel = 6
number_of OptionalAndRest = 7
number_of AskedIndex = 8
number_of CommaAfterIndex = 9
number_of LiteralIndex = 10
number_of KeywordIndex = 11
number_of NotOneIndex = 12
number_of ReservedName = 13

-- The number that stands in a node.
abbrev pub tag_number : Tag → ℕ
tag_number Reference = 1
tag_number Keyword = 2
tag_number Literal = 3
tag_number Parens = 4
tag_number Union = 5
tag_number Intersection = 6
tag_number Array = 7
tag_number Indexed = 8
tag_number Conditional = 9
tag_number Infer = 10
tag_number Operator = 11
tag_number Function = 12
tag_number Constructor = 13
tag_number Mapped = 14
tag_number Template = 15
tag_number Predicate = 16
tag_number Typeof = 17
tag_number Import = 18
tag_number Tuple = 19
tag_number Optional = 20
tag_number Rest = 21
tag_number Named = 22
tag_number NonNull = 23
tag_number Asked = 24
tag_number Object = 25
