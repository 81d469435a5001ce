use Rattle.node_table.proofs.MovesLaws.{own_spelling, own_spellings, own_next, own_stop, own_as, no_other}
use Rattle.node_table.proofs.walk.said.Goals as goal

pub returns-then-r-eq-SPELLING : goal.returns-then-r-eq-SPELLING
returns-then-r-eq-SPELLING g c =
    let o = g.S.Sink in
    own_as c.moved.ensures (own_spelling o.out g.met.S.Sink.sound c.args.forms.now (o.asks c.args.sink) (o.most c.args.sink) c.args.depth c.args.s (o.seen c.args.items.now) c.requires.0 c.args.r c.requires.1 c.requires.3 c.if-r-eq-SPELLING.true c.name-q.result.name c.name-q.result.to (o.seen c.name-q.new.items) c.name-q.ensures)

pub returns-then-s-eq0 : goal.returns-then-s-eq0
returns-then-s-eq0 g c =
    let o = g.S.Sink in
    own_as c.moved-then-s-eq0.ensures (own_next o.out g.met.S.Sink.sound c.args.forms.now (o.asks c.args.sink) (o.most c.args.sink) c.args.depth c.args.s (o.seen c.args.items.now) c.requires.0 c.args.r c.requires.1 c.requires.3 c.if-s-eq0.true c.requires.4 c.requires.5 c.if-r-eq-SPELLING.false)

pub returns-then-r-eq-SPELLINGS : goal.returns-then-r-eq-SPELLINGS
returns-then-r-eq-SPELLINGS g c =
    let o = g.S.Sink in
    own_as c.moved-then-r-eq-SPELLINGS.ensures (own_spellings o.out g.met.S.Sink.sound c.args.forms.now (o.asks c.args.sink) (o.most c.args.sink) c.args.depth c.args.s (o.seen c.args.items.now) c.requires.0 c.args.r c.requires.1 c.requires.3 c.if-r-eq-SPELLINGS.true c.if-s-eq0.false c.name-q-then-r-eq-SPELLINGS.result.name c.name-q-then-r-eq-SPELLINGS.result.to (o.seen c.name-q-then-r-eq-SPELLINGS.new.items) c.name-q-then-r-eq-SPELLINGS.ensures)

pub returns-else-r-eq-SPELLINGS : goal.returns-else-r-eq-SPELLINGS
returns-else-r-eq-SPELLINGS g c =
    let o = g.S.Sink in
    own_as c.moved-else-r-eq-SPELLINGS.ensures (own_stop o.out g.met.S.Sink.sound c.args.forms.now (o.asks c.args.sink) (o.most c.args.sink) c.args.depth c.args.s (o.seen c.args.items.now) c.requires.0 c.args.r c.requires.1 c.requires.3 (no_other c.args.r.op c.args.s.n c.requires.4 c.requires.5 c.if-r-eq-SPELLING.false c.requires.6 c.if-s-eq0.false c.if-r-eq-SPELLINGS.false))
