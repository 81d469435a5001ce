-- The token's word behind the names.
use mathlib.Core.Path.{refl, ap, ◌∙◌}
use Rattle.words.specs.Word as five
use Rattle.marks.proofs.NameLaws.{speaks_word}
use Rattle.marks.proofs.names.spell.Goals as goal

pub returns : goal.returns
returns c =
    (refl, speaks_word c.append_name.auto.names (c.start.ensures ∙ ap five.start c.word_at-word.ensures) (c.length.ensures ∙ ap five.size c.word_at-word.ensures) c.append_name.ensures)
