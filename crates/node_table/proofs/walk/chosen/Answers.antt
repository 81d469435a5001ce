use Rattle.node_table.proofs.MovesLaws.{own_choice}
use Rattle.node_table.proofs.walk.chosen.Goals as goal

pub returns : goal.returns
returns g c =
    let o = g.S.Sink in
    own_choice o.out g.met.S.Sink.sound c.args.forms.now (o.asks c.args.sink) (o.most c.args.sink) c.args.depth c.args.s (o.seen c.args.items.now) c.requires.0 c.args.r c.requires.1 c.requires.3 c.requires.4 c.choice_of-c.result.number c.choice_of-c.result.word c.choice-to.result (o.seen c.choice-to.new.items) c.jump_at-j.result c.choice_of-c.ensures.0 c.choice_of-c.ensures.1 c.choice-to.ensures c.jump_at-j.ensures
