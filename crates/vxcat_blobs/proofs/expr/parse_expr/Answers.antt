use Rattle.std.proofs.Common.{rules, ◌≡◌, codes, arith}
use Rattle.vxcat_blobs.proofs.Expressions.{two}
use Rattle.vxcat_blobs.proofs.expr.parse_expr.Goals as goal

pub returns-clause-invoked : goal.returns-clause-invoked
returns-clause-invoked c =
    let command : codes "expr" ≡ c.command-item.result = search rules in
    rw command (two c.args.words.now _ _ (omega arith) c.command-item.is c.file-item.is)
