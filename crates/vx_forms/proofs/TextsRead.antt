-- Bytes that were read are a text, or they are none.
use Rattle.std.proofs.Common.{ℕ, ◌≡◌, List, cond, sym, ap, ◌∙◌}
use Rattle.std.specs.Str.{IsUtf8, is_utf8}
use Rattle.std.proofs.lemmas.Bool.{false_from_ne_true}
use Rattle.std.proofs.lemmas.Str.{IsUtf8-from_is_utf8, is_utf8-from_IsUtf8}
use Rattle.vx_forms.specs.Form.{Answer, whole, wrong, and_then}

abbrev if_text : List ℕ → List ℕ → Answer (List ℕ)
if_text x rest = cond (is_utf8 x) (whole x rest) wrong

pub text_read : (a : Answer (List ℕ)) (x s rest : List ℕ) → a ≡ whole x rest → s ≡ x → IsUtf8 x
    → and_then a if_text ≡ whole s rest
text_read a x s rest e same h =
    ap (λ b. and_then b if_text) e ∙ ap (λ b. cond b (whole x rest) wrong) (is_utf8-from_IsUtf8 x h)
    ∙ ap (λ z. whole z rest) (sym same)

pub text_refused : (a : Answer (List ℕ)) (x rest : List ℕ) → a ≡ whole x rest → (IsUtf8 x → ⊥)
    → and_then a if_text ≡ wrong
text_refused a x rest e h =
    ap (λ b. and_then b if_text) e ∙ ap (λ b. cond b (whole x rest) wrong)
    (false_from_ne_true (is_utf8 x) (λ t. h (IsUtf8-from_is_utf8 x t)))
