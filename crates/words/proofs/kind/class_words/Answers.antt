-- The rule from kind ranges, computed once over the whole table: entry k is the class word of kind k.
use mathlib.Core.Path.{refl}
use Rattle.words.proofs.kind.class_words.Goals as goal

pub returns : goal.returns
returns c = refl
