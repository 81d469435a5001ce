-- A class is a bit of the kind's entry in the table.
use mathlib.Core.Path.{◌≡◌, refl}
use denote.Enum.Declared.{tag_of}
use Rattle.words.specs.Class.{bit_of}
use Rattle.words.specs.contracts.kind.Class.{the_type}
use Rattle.words.specs.declared.kind.Class.{Class}
use Rattle.words.specs.declared.kind.Class.TheVariants.{BindingWord, Name, Starter, Modifier, Good, Fixed, Other}
use Rattle.words.proofs.Tests.{class_read}
use Rattle.words.proofs.kind.in_class.Goals as goal

tag_is : (k : Class) → tag_of the_type k ≡ bit_of k
tag_is BindingWord = refl
tag_is Name = refl
tag_is Starter = refl
tag_is Modifier = refl
tag_is Good = refl
tag_is Fixed = refl
tag_is Other = refl

pub returns : goal.returns
returns c =
    rw (tag_is c.args.class) (class_read _ c.args.kind (bit_of c.args.class) c.class_words.ensures c.requires)
