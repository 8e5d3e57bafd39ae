-- Two arrays are judged as codes and values.
use Rattle.vx_trees.specs.Rose.{roses_of}
use Rattle.vx_types.specs.Seen.{typ}
use Rattle.vx_arrays.proofs.Dictionaries.{pair_answers}
use Rattle.vx_arrays.proofs.encodings.dict.is_shaped.Goals as goal

pub returns-in-Some-clause-ok : goal.returns-in-Some-clause-ok
returns-in-Some-clause-ok c =
    pair_answers (typ c.args.dtype.now) c.args.len c.args.flag (roses_of c.args.children.now) c.in-Some.codes.now c.in-Some.values.now c.are_paired.result c.in-Some.ensures.some c.are_paired.ensures.ok
