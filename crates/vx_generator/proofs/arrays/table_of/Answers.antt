use Rattle.std.proofs.Common.{◌≡◌, IfOk, sym, subst}
use Rattle.vx_trees.specs.Rose.{node}
use Rattle.vx_array_tree.specs.Body as B
use Rattle.vx_array_tree.specs.Sound.{IsSound}
use Rattle.vx_array_tree.specs.Tree.{untold}
use Rattle.vx_generator.specs.Made.{made_type}
use Rattle.vx_generator.proofs.Tabled.{fields_pushed, fields_tree}
use Rattle.vx_generator.proofs.arrays.table_of.Goals as goal

pub over_fields-requires : goal.over_fields-requires
over_fields-requires c =
    let e : c.push-3.new.self ≡ fields_tree c.args.columns c.args.rows =
    fields_pushed _ _ c.args.rows _ _ _ _ _ _ _ c.columns.view_is c.in_ok-numbers_of.ensures.ok c.in_ok-names_of.ensures.ok c.in_ok-lists_of.ensures.ok
    c.new-fields.ensures c.in_ok-push.ensures.ok c.in_ok-push-2.ensures.ok c.in_ok-push-3.ensures.ok
    in
    subst (λ ts. IsSound (node (untold made_type c.args.rows B.struct) ts)) (sym e) c.requires.sound

pub returns-clause-ok : goal.returns-clause-ok
returns-clause-ok c =
    let e : c.push-3.new.self ≡ fields_tree c.args.columns c.args.rows =
    fields_pushed _ _ c.args.rows _ _ _ _ _ _ _ c.columns.view_is c.in_ok-numbers_of.ensures.ok c.in_ok-names_of.ensures.ok c.in_ok-lists_of.ensures.ok
    c.new-fields.ensures c.in_ok-push.ensures.ok c.in_ok-push-2.ensures.ok c.in_ok-push-3.ensures.ok
    in
    subst (λ ts. IfOk c.over_fields.result (λ a. a ≡ node (untold made_type c.args.rows B.struct) ts)) e c.over_fields.ensures.ok
