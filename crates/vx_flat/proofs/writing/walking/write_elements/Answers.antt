use Rattle.vx_flat.specs.Pieces.{elements_piece}
use Rattle.vx_flat.proofs.Walking.{next_written, next_cut}
use Rattle.vx_flat.proofs.writing.walking.write_elements.Goals as goal

pub returns-clause-written : goal.returns-clause-written
returns-clause-written c =
    next_written c.elements.result c.args.builder.now c.go_on.new.self c.elements.new.self (elements_piece c.args.size c.args.bytes.now) c.go_on.ensures c.elements.ensures.written

pub returns-clause-cut : goal.returns-clause-cut
returns-clause-cut c =
    next_cut c.elements.result c.args.builder.now c.go_on.new.self c.elements.new.self (elements_piece c.args.size c.args.bytes.now) c.go_on.ensures c.requires c.elements.ensures.refused
