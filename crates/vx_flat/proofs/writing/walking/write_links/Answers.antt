use Rattle.vx_flat.specs.Pieces.{links_piece}
use Rattle.vx_flat.proofs.Walking.{next_written, next_cut}
use Rattle.vx_flat.proofs.writing.walking.write_links.Goals as goal

pub returns-clause-written : goal.returns-clause-written
returns-clause-written c =
    next_written c.links.result c.args.builder.now c.go_on.new.self c.links.new.self (links_piece c.args.kind c.args.count) c.go_on.ensures c.links.ensures.written

pub returns-clause-cut : goal.returns-clause-cut
returns-clause-cut c =
    next_cut c.links.result c.args.builder.now c.go_on.new.self c.links.new.self (links_piece c.args.kind c.args.count) c.go_on.ensures c.requires.works c.links.ensures.refused
