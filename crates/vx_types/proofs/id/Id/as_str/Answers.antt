use Rattle.std.proofs.Common.{subst}
use Rattle.std.proofs.lemmas.Str.{is_utf8-from_IsUtf8, IsUtf8-string_bytes}
use Rattle.vx_types.specs.Content.{IsText}
use Rattle.vx_types.proofs.id.Id.as_str.Goals as goal

pub returns-clause-text : goal.returns-clause-text
returns-clause-text c = subst IsText c.self.view_is (is_utf8-from_IsUtf8 _ (IsUtf8-string_bytes c.self.inside.text))
