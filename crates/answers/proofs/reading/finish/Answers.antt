-- 11 where the names or the key find no space; else the tree, its names and diagnostics, and the key.
use mathlib.Core.Path.{refl}
use native.Mathlib.Omega.{arith}
use lib.ListN.{length}
use Rattle.marks.specs.State.{view}
use Rattle.answers.proofs.Finished.{same_key_lent, comes_none, no_names_lem, no_bytes, finished}
use Rattle.answers.proofs.reading.finish.Goals as goal

pub returns-then-names-q : goal.returns-then-names-q
returns-then-names-q c =
    λ t h. comes_none t (view c.args.q c.args.noting.now) c.no_space.ensures c.refuse.ensures refl (no_names_lem h (length c.args.notes.now) (length c.args.key.now) c.if-names-q.true)

pub returns-then-key-n : goal.returns-then-key-n
returns-then-key-n c =
    λ t h. comes_none t (view c.args.q c.args.noting.now) c.no_space-then-key-n.ensures c.refuse-then-key-n.ensures (same_key_lent c.put-n.auto.key) (no_bytes h c.put-n.ensures (omega (arith, c.requires)) (omega (arith, c.if-names-q.false)) (length c.args.notes.now) (omega (arith, c.if-key-n.true, c.put-n.auto)))

pub returns : goal.returns
returns c =
    λ t h. finished h c.put-n.ensures (omega (arith, c.requires)) (omega (arith, c.if-names-q.false)) _ c.args.noting.now (omega (arith, c.if-key-n.false, c.put-n.auto)) c.clear.ensures c.clear-2.ensures c.copy_notes.ensures c.entered.ensures
