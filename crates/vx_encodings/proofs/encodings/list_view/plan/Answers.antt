use Rattle.std.proofs.Common.{rules, ℕ, List, subst, None, ◌≡◌}
use Rattle.vx_types.specs.Seen.{typ}
use Rattle.vx_proto.specs.Reads.{Reads}
use Rattle.vx_array_tree.specs.Encodings.ListViews as ListViews
use Rattle.vx_encodings.proofs.ListViewSteps.{views_of_floats, views_of_others, views_planned, views_unplanned}
use Rattle.vx_encodings.specs.ListViewMessage.{kept_views, view_schema, view_value}
use Rattle.vx_encodings.proofs.encodings.list_view.plan.Goals as goal

pub returns-then-not-is_fair-clause-err : goal.returns-then-not-is_fair-clause-err
returns-then-not-is_fair-clause-err c =
    let m = c.in_ok-metadata.metadata in
    let v = kept_views m.elements_len m.offset_ptype m.size_ptype in
    let shown = subst (λ (bytes : List ℕ). Reads view_schema 0 bytes (view_value v)) c.as_slice.ensures c.in_ok-metadata.ensures.read in
    λ x. views_of_floats x c.args.head.now v c.is_fair.result shown c.is_fair.ensures c.if-not-is_fair.true

pub returns-in-List-clause-plan : goal.returns-in-List-clause-plan
returns-in-List-clause-plan c =
    let m = c.in_ok-metadata.metadata in
    let v = kept_views m.elements_len m.offset_ptype m.size_ptype in
    let shown = subst (λ (bytes : List ℕ). Reads view_schema 0 bytes (view_value v)) c.as_slice.ensures c.in_ok-metadata.ensures.read in
    λ x. views_planned x c.args.head.now c.plan_parts.result v c.is_fair.result _ _ _ shown c.is_fair.ensures c.if-not-is_fair.false c.in-List.is c.get.ensures.same c.plan_parts.ensures.plan

pub returns-in-List-clause-err : goal.returns-in-List-clause-err
returns-in-List-clause-err c =
    let m = c.in_ok-metadata.metadata in
    let v = kept_views m.elements_len m.offset_ptype m.size_ptype in
    let shown = subst (λ (bytes : List ℕ). Reads view_schema 0 bytes (view_value v)) c.as_slice.ensures c.in_ok-metadata.ensures.read in
    λ x. views_unplanned x c.args.head.now c.plan_parts.result v c.is_fair.result _ _ _ shown c.is_fair.ensures c.if-not-is_fair.false c.in-List.is c.get.ensures.same c.plan_parts.ensures.err

pub returns-in_default-clause-err : goal.returns-in_default-clause-err
returns-in_default-clause-err c =
    let m = c.in_ok-metadata.metadata in
    let v = kept_views m.elements_len m.offset_ptype m.size_ptype in
    let shown = subst (λ (bytes : List ℕ). Reads view_schema 0 bytes (view_value v)) c.as_slice.ensures c.in_ok-metadata.ensures.read in
    let none : ListViews.plan (typ c.args.head.now.dtype) c.args.head.now.len v c.args.head.now.nchildren ≡ None = search rules in
    λ x. views_of_others x c.args.head.now v c.is_fair.result shown c.is_fair.ensures c.if-not-is_fair.false none
