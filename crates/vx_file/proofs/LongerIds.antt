-- Identifiers that come to a list stand after those that it had.
use Rattle.std.proofs.Common.{ℕ, ◌≡◌, Bool, true, false, cond, List, [], ◌∷◌, ◌++◌, refl, sym, ap, ◌∙◌, append_assoc}
use Rattle.std.proofs.lemmas.List.{append-nil}
use Rattle.vx_wire_tree.specs.Context.{is_among, with_id, with_ids}

-- A list is another with more after it.
pub record Extends (ids longer : List (List ℕ)) : Type 0 where
  pub more : List (List ℕ)
  pub is : longer ≡ ids ++ more

pub extends_itself : (ids : List (List ℕ)) → Extends ids ids
extends_itself ids = record { more = []; is = sym (append-nil ids) }

pub extends_twice : (a b c : List (List ℕ)) → Extends a b → Extends b c → Extends a c
extends_twice a b c x y = record { more = x.more ++ y.more; is = y.is ∙ (ap (λ z. z ++ y.more) x.is ∙ append_assoc a x.more y.more) }

one_more : (b : Bool) (id : List ℕ) (ids : List (List ℕ)) → Extends ids (cond b ids (ids ++ id ∷ []))
one_more true id ids = extends_itself ids
one_more false id ids = record { more = id ∷ []; is = refl }

pub with_ids_extends : (ids others : List (List ℕ)) → Extends ids (with_ids ids others)
with_ids_extends ids [] = extends_itself ids
with_ids_extends ids (id ∷ others) =
    extends_twice ids (with_id id ids) (with_ids (with_id id ids) others) (one_more (is_among id ids) id ids) (with_ids_extends (with_id id ids) others)
