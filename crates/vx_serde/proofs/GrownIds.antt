-- The identifiers of a context that is grown.
use Rattle.std.proofs.Common.{ℕ, ◌≡◌, List, [], ◌∷◌, Option, Some, None, refl, sym, ap, ◌∙◌}
use Rattle.std.specs.Prelude.{nat_lt, ◌&&◌}
use Rattle.std.proofs.lemmas.Option.{cond_some, same_Some}
use Rattle.vx_wire_tree.specs.Context.{Context, index_of, with_id, is_allowed, interned, stepped, grown_by, with_ids}

interned-ids : (id : List ℕ) (old new : Context) → interned id old ≡ Some new → new.ids ≡ with_id id old.ids
interned-ids id old new e =
    let parts = cond_some (is_allowed old.allowed id && nat_lt (index_of id old.ids) 65536) (record { ids = with_id id old.ids; allowed = old.allowed }) new e in
    ap (λ c. c.ids) (sym parts.1)

pub grown_by-ids : (came : List (List ℕ)) (old new : Context) → grown_by came old ≡ Some new → new.ids ≡ with_ids old.ids came
grown_by-ids [] old new e = ap (λ c. c.ids) (sym (same_Some old new e))
grown_by-ids (id ∷ came) old new e = step (interned id old) (λ next p. interned-ids id old next p) (λ next q. grown_by-ids came next new q) e where
  step : (o : Option Context) → ((next : Context) → o ≡ Some next → next.ids ≡ with_id id old.ids) → ((next : Context) → grown_by came next ≡ Some new → new.ids ≡ with_ids next.ids came)
      → stepped o (λ d. grown_by came d) ≡ Some new → new.ids ≡ with_ids (with_id id old.ids) came
  step None f g e = absurd (cc)
  step (Some next) f g e = g next e ∙ ap (λ z. with_ids z came) (f next refl)
