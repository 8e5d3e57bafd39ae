use Rattle.std.proofs.Common.{sym, subst}
use Rattle.std.proofs.lemmas.Str.{is_utf8-from_IsUtf8, IsUtf8-string_bytes}
use Rattle.vx_trees.specs.Bytes.{AreBytes}
use Rattle.vx_types.specs.Content.{IsText}
use Rattle.vx_types.specs.declared.ext.Own.{Own}
use Rattle.vx_types.proofs.ext.ExtDType.new.Goals as goal

pub invariant_of-result : goal.invariant_of-result
invariant_of-result c =
    let text = subst IsText c.id.view_is (is_utf8-from_IsUtf8 _ (IsUtf8-string_bytes c.id.inside.text)) in
    let bytes = subst AreBytes c.metadata.view_is c.metadata.invariant in
    let own = sym c.in_ok-own.ensures.ok in
    (subst (λ (o : Own). IsText o.id) own text, subst (λ (o : Own). AreBytes o.metadata) own bytes)
