-- What is stored in an array of zeros are the structs that are asked for.
use Rattle.std.proofs.Common.{rules, ◌≡◌, ◌∙◌}
use Rattle.noted.specs.Structs.{no_struct}
use Rattle.noted.proofs.StructLaws.{store_asked}
use Rattle.noted.proofs.notes_of.Goals as goal

pub returns : goal.returns
returns c =
    let none : c.default-list.result ≡ no_struct = search rules in
    c.store_notes.ensures ∙ store_asked c.args.words.now c.default-list.result c.min.result c.args.count none c.min.ensures
