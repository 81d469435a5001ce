-- src/forms.rt:111:1
use mathlib.Core.Path.{refl}
use Rattle.node_table.specs.Forms.{table_words}
use Rattle.node_table.proofs.forms.words.Goals as goal

pub returns : goal.returns
unfolding table_words
returns c = refl
