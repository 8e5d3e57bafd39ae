use Rattle.std.proofs.Common.{◌≡◌, Result, Ok, Err, List, ℕ, sym, ◌∙◌}
use Rattle.std.specs.Prelude.{MatchResult, is_ok}
use Rattle.std.specs.Str.{is_utf8, IsUtf8}
use Rattle.std.proofs.lemmas.Str.{is_utf8-from_IsUtf8, IsUtf8-from_is_utf8}
use Rattle.std.proofs.lemmas.Bool.{false_from_ne_true}
use Rattle.vx_arrays.proofs.texts.is_text.Goals as goal

told : {X E : Type 0} (r : Result X E) (bytes : List ℕ) (P : X → Type 0) → MatchResult r (λ x. P x × IsUtf8 bytes) (λ e. IsUtf8 bytes → ⊥) → is_ok r ≡ is_utf8 bytes
told (Ok x) bytes P h = sym (is_utf8-from_IsUtf8 bytes h.1)
told (Err e) bytes P h = sym (false_from_ne_true (is_utf8 bytes) (λ t. h (IsUtf8-from_is_utf8 bytes t)))

pub returns : goal.returns
returns c = c.is_ok.ensures.value ∙ told c.from_utf8.result c.args.bytes.now _ c.from_utf8.ensures
