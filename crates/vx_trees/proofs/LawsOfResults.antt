-- What holds of an error holds of it where it is passed on.
use Rattle.std.specs.Prelude.{IfErr, MatchResult, OnErr}
use Rattle.std.proofs.Common.{◌≡◌, ◌∙◌, Result, Err, ap, sym, subst}

pub at_error : {T E : Type 0} (r : Result T E) (y e : E) (P : E → Type 0) → r ≡ Err y → y ≡ e → P e → IfErr r P
at_error r y e P p q h = subst (λ s. IfErr s P) (sym (p ∙ ap Err q)) h

pub at_match : {T E : Type 0} (r : Result T E) (y e : E) (Q : T → Type 0) (P : E → Type 0) → r ≡ Err y → y ≡ e → P e → MatchResult r Q P
at_match r y e Q P p q h = subst (λ s. MatchResult s Q P) (sym (p ∙ ap Err q)) h

pub on_error : {T E : Type 0} (r : Result T E) (y : E) (P : Type 0) → r ≡ Err y → P → OnErr r P
on_error r y P p h = subst (λ s. OnErr s P) (sym p) h
