-- What is refused is never sound.
use Rattle.std.proofs.Common.{List, subst}
use Rattle.vx_trees.specs.Rose.{node, roses_of}
use Rattle.vx_types.specs.Seen.{typ}
use Rattle.vx_array_tree.specs.Tree.{Tree, untold}
use Rattle.vx_arrays.specs.Plain.{plain_body}
use Rattle.vx_arrays.specs.Refused.{RefusesMaking}
use Rattle.vx_arrays.proofs.Judged.{unmade_unsound}
use Rattle.vx_arrays.proofs.construction.over_children.Goals as goal

pub returns-in-Err-clause-complete : goal.returns-in-Err-clause-complete
returns-in-Err-clause-complete c = λ s.
    unmade_unsound c.in-Err.error (untold (typ c.args.dtype) c.args.len (plain_body c.args.body)) (roses_of c.args.children.items)
    (subst (λ (us : List Tree). RefusesMaking c.in-Err.error (node (untold (typ c.args.dtype) c.args.len (plain_body c.args.body)) (roses_of us))) c.as_slice.ensures.value c.in-Err.ensures.err) s
