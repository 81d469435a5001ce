-- A name behind those before it, where there is room.
use native.Mathlib.Omega.{arith}
use Rattle.keys.proofs.Cells.{name_stored, name_dropped, name_word}
use Rattle.keys.proofs.store.append_name.Goals as goal

pub returns-then-at-names : goal.returns-then-at-names
returns-then-at-names c =
    name_word c.args.names.now _ c.args.at c.args.start c.args.count c.halves.ensures (name_stored c.args.names.now c.args.at _ c.if-at-names.true)

pub returns-else-at-names : goal.returns-else-at-names
returns-else-at-names c =
    name_dropped c.args.names.now c.args.at _ (omega arith)
