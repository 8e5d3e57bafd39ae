use Rattle.std.proofs.Common.{sym, subst}
use Rattle.std.proofs.lemmas.Str.{is_utf8-from_IsUtf8, IsUtf8-string_bytes}
use Rattle.vx_types.specs.Content.{IsText, AreTexts}
use Rattle.vx_types.proofs.Contents.{texts-push}
use Rattle.vx_types.proofs.names.Names.push.Goals as goal

pub invariant_of-self-2 : goal.invariant_of-self-2
invariant_of-self-2 c =
    let text = subst IsText c.name.view_is (is_utf8-from_IsUtf8 _ (IsUtf8-string_bytes c.name.inside.text)) in
    subst AreTexts (sym c.in_ok-push_name.ensures.ok) (texts-push _ _ c.self.invariant text)
