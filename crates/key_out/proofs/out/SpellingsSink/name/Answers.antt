use native.Mathlib.Omega.{arith}
use Rattle.key_out.proofs.OutLaws.{spelled_put}
use Rattle.key_out.proofs.out.SpellingsSink.name.Goals as goal

pub returns : goal.returns
returns c =
    spelled_put c.args.self.names.now c.args.self.text.now c.args.width c.args._depth c.args.o.name c.args.o.to c.args.key.now c.requires.0.0 c.requires.0.1 c.requires.2 c.name_at-start.result.start c.name_at-start.result.size c.put_number-next.result c.put_text.result c.put_number-next.new.key c.put_text.new.key c.name_at-start.ensures.0 c.name_at-start.ensures.1 c.if-self-start.false (omega (arith, c.if-self-o.false)) c.put_number-next.ensures c.put_text.ensures
