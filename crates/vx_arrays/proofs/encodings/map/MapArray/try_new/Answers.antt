-- The entries are the only child.
use Rattle.std.proofs.Common.{◌≡◌, ◌∙◌, IfOk, IfErr, ap, subst}
use Rattle.vx_types.specs.Typ.{Typ}
use Rattle.vx_types.specs.Words.{nullability}
use Rattle.vx_array_tree.specs.Sound.{IsSound}
use Rattle.vx_array_tree.specs.Tree.{Tree}
use Rattle.vx_arrays.specs.Refused.{RefusesMaking, IsOkOrMemory}
use Rattle.vx_arrays.proofs.Mapped.{tree_is}
use Rattle.vx_arrays.proofs.encodings.map.MapArray.try_new.Goals as goal
use Rattle.vx_trees.proofs.LawsOfRoses.{only_pushed}

pub returns-clause-ok : goal.returns-clause-ok
returns-clause-ok c =
    subst (λ (t : Tree). IfOk c.of_children.result (λ a. a ≡ t))
    (tree_is c.args.map c.args.entries c.nullability-nullability.result c.len-len.result c.push.new.self (c.nullability-nullability.ensures ∙ ap (λ (d : Typ). nullability d) c.dtype.ensures.dtype) c.len-len.ensures.len (only_pushed c.new-children.result c.push.new.self c.args.entries c.new-children.ensures c.in_ok-push.ensures.ok))
    c.of_children.ensures.ok

pub returns-clause-err : goal.returns-clause-err
returns-clause-err c =
    subst (λ (t : Tree). IfErr c.of_children.result (λ e. RefusesMaking e t))
    (tree_is c.args.map c.args.entries c.nullability-nullability.result c.len-len.result c.push.new.self (c.nullability-nullability.ensures ∙ ap (λ (d : Typ). nullability d) c.dtype.ensures.dtype) c.len-len.ensures.len (only_pushed c.new-children.result c.push.new.self c.args.entries c.new-children.ensures c.in_ok-push.ensures.ok))
    c.of_children.ensures.err

pub returns-clause-complete : goal.returns-clause-complete
returns-clause-complete c =
    subst (λ (t : Tree). IsSound t → IsOkOrMemory c.of_children.result)
    (tree_is c.args.map c.args.entries c.nullability-nullability.result c.len-len.result c.push.new.self (c.nullability-nullability.ensures ∙ ap (λ (d : Typ). nullability d) c.dtype.ensures.dtype) c.len-len.ensures.len (only_pushed c.new-children.result c.push.new.self c.args.entries c.new-children.ensures c.in_ok-push.ensures.ok))
    c.of_children.ensures.complete
