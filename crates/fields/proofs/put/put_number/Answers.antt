use Rattle.fields.proofs.PutLaws.{number_put}
use Rattle.fields.proofs.put.put_number.Goals as goal

pub returns-then-bit-key : goal.returns-then-bit-key
returns-then-bit-key c =
    number_put c.args.bit c.args.width c.args.number c.on_by.result c.args.key.now c.put_window.new.key c.requires.0 c.put_window.auto.key c.on_by.ensures c.put_window.ensures

pub returns : goal.returns
returns c =
    number_put c.args.bit c.args.width c.args.number c.on_by-2.result c.args.key.now c.put_parts.new.key c.requires.0 c.put_parts.auto.key c.on_by-2.ensures c.put_parts.ensures
