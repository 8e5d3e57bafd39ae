use Rattle.vx_flat.specs.Pieces.{text_piece}
use Rattle.vx_flat.proofs.Walking.{next_written, next_cut}
use Rattle.vx_flat.proofs.writing.walking.write_text.Goals as goal

pub returns-clause-written : goal.returns-clause-written
returns-clause-written c =
    next_written c.put_text.result c.args.builder.now c.go_on.new.self c.put_text.new.self (text_piece c.args.text.now) c.go_on.ensures c.put_text.ensures.written

pub returns-clause-cut : goal.returns-clause-cut
returns-clause-cut c =
    next_cut c.put_text.result c.args.builder.now c.go_on.new.self c.put_text.new.self (text_piece c.args.text.now) c.go_on.ensures c.requires c.put_text.ensures.refused
