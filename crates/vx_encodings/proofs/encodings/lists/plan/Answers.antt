use Rattle.std.proofs.Common.{rules, ℕ, List, subst, None, ◌≡◌}
use Rattle.vx_types.specs.Seen.{typ}
use Rattle.vx_proto.specs.Reads.{Reads}
use Rattle.vx_array_tree.specs.Encodings.Lists as Lists
use Rattle.vx_encodings.proofs.ListSteps.{kept, lists_of_floats, lists_of_others, lists_planned}
use Rattle.vx_encodings.specs.ListMessage.{list_schema, list_value}
use Rattle.vx_encodings.proofs.encodings.lists.plan.Goals as goal

pub returns-then-not-is_int-clause-err : goal.returns-then-not-is_int-clause-err
returns-then-not-is_int-clause-err c =
    let n = c.in_ok-metadata.metadata.elements_len in
    let p = c.in_ok-metadata.metadata.offset_ptype in
    let shown = subst (λ (bytes : List ℕ). Reads list_schema 0 bytes (list_value n p)) c.as_slice.ensures c.in_ok-metadata.ensures.read in
    λ x. lists_of_floats x c.args.head.now n p c.is_int.result shown c.is_int.ensures c.if-not-is_int.true

pub returns-in-List-clause-plan : goal.returns-in-List-clause-plan
returns-in-List-clause-plan c =
    let n = c.in_ok-metadata.metadata.elements_len in
    let p = c.in_ok-metadata.metadata.offset_ptype in
    let shown = subst (λ (bytes : List ℕ). Reads list_schema 0 bytes (list_value n p)) c.as_slice.ensures c.in_ok-metadata.ensures.read in
    λ x. lists_planned x c.args.head.now c.plan_parts.result n p c.is_int.result _ _ _ shown c.is_int.ensures c.if-not-is_int.false c.in-List.is c.get.ensures.same c.plan_parts.ensures.plan

pub returns-in_default-clause-err : goal.returns-in_default-clause-err
returns-in_default-clause-err c =
    let n = c.in_ok-metadata.metadata.elements_len in
    let p = c.in_ok-metadata.metadata.offset_ptype in
    let shown = subst (λ (bytes : List ℕ). Reads list_schema 0 bytes (list_value n p)) c.as_slice.ensures c.in_ok-metadata.ensures.read in
    let none : Lists.plan (typ c.args.head.now.dtype) c.args.head.now.len (kept n p) c.args.head.now.nchildren ≡ None = search rules in
    λ x. lists_of_others x c.args.head.now n p c.is_int.result shown c.is_int.ensures c.if-not-is_int.false none
