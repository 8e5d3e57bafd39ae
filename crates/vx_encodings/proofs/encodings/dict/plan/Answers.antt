use Rattle.std.proofs.Common.{ℕ, List, subst, ap}
use Rattle.vx_trees.specs.Rose.{node, end}
use Rattle.vx_types.specs.Kind.{primitive}
use Rattle.vx_types.specs.declared.nullability.Nullability.{Nullability}
use Rattle.vx_proto.specs.Reads.{Reads}
use Rattle.vx_wire_tree.specs.Fields.{DictFields}
use Rattle.vx_encodings.proofs.DictSteps.{dicts_of_floats, dicts_planned, dicts_without}
use Rattle.vx_encodings.specs.DictMessage.{dict_schema, dict_value}
use Rattle.vx_encodings.proofs.encodings.dict.plan.Goals as goal

pub returns-then-not-is_int-clause-err : goal.returns-then-not-is_int-clause-err
returns-then-not-is_int-clause-err c =
    let m = c.in_ok-metadata.metadata in
    let f : DictFields = record { values_len = m.values_len; codes_ptype = m.codes_ptype; is_nullable_codes = m.is_nullable_codes; all_values_referenced = m.all_values_referenced } in
    let shown = subst (λ (bytes : List ℕ). Reads dict_schema 0 bytes (dict_value f)) c.as_slice.ensures c.in_ok-metadata.ensures.read in
    λ x. dicts_of_floats x c.args.head.now f c.is_int.result shown c.is_int.ensures c.if-not-is_int.true

pub returns-clause-plan : goal.returns-clause-plan
returns-clause-plan c =
    let m = c.in_ok-metadata.metadata in
    let f : DictFields = record { values_len = m.values_len; codes_ptype = m.codes_ptype; is_nullable_codes = m.is_nullable_codes; all_values_referenced = m.all_values_referenced } in
    let shown = subst (λ (bytes : List ℕ). Reads dict_schema 0 bytes (dict_value f)) c.as_slice.ensures c.in_ok-metadata.ensures.read in
    let same = ap (λ (n : Nullability). node (primitive m.codes_ptype n) end) c.nullability_of-nullability.ensures in
    λ x. dicts_planned x c.args.head.now c.plan_pair.result f c.is_int.result _ shown c.is_int.ensures c.if-not-is_int.false same c.plan_pair.ensures.plan

pub returns-clause-err : goal.returns-clause-err
returns-clause-err c =
    let m = c.in_ok-metadata.metadata in
    let f : DictFields = record { values_len = m.values_len; codes_ptype = m.codes_ptype; is_nullable_codes = m.is_nullable_codes; all_values_referenced = m.all_values_referenced } in
    let shown = subst (λ (bytes : List ℕ). Reads dict_schema 0 bytes (dict_value f)) c.as_slice.ensures c.in_ok-metadata.ensures.read in
    let same = ap (λ (n : Nullability). node (primitive m.codes_ptype n) end) c.nullability_of-nullability.ensures in
    λ x. dicts_without x c.args.head.now c.plan_pair.result f c.is_int.result _ shown c.is_int.ensures c.if-not-is_int.false same c.plan_pair.ensures.err
