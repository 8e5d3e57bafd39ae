-- The context that is grown by an array, as one value.
use Rattle.std.proofs.Common.{ℕ, ◌≡◌, List, [], ◌∷◌, Option, Some, None, refl, sym, ap, ◌∙◌}
use Rattle.std.specs.Prelude.{◌&&◌, nat_lt}
use Rattle.std.proofs.lemmas.Option.{cond_some}
use Rattle.vx_array_tree.specs.Tree.{Tree}
use Rattle.vx_wire_tree.specs.Context.{Context, is_allowed, index_of, with_id, interned, stepped, grown_by, grown}
use Rattle.vx_wire_tree.specs.Session.{SessionMeaning}
use Rattle.vx_wire_tree.specs.Wire.{ids_in}
use Rattle.vx_wire_tree.specs.Written.{wire}
use Rattle.vx_encodings.specs.Messages.{codec}
use Rattle.vx_serde.specs.Spells.{ids_after}
use Rattle.vx_serde.proofs.LawsOfWriting.{grown-ids}
use Rattle.vx_file.specs.Written.{first_context}

interned_allowed : (old new : Context) (id : List ℕ) → interned id old ≡ Some new → new.allowed ≡ old.allowed
interned_allowed old new id e =
    let grew : Context = record { ids = with_id id old.ids; allowed = old.allowed } in
    let parts = cond_some (is_allowed old.allowed id && nat_lt (index_of id old.ids) 65536) grew new e in
    ap (λ (c : Context). c.allowed) (sym parts.1)

stepped_some : {P : Type 0} (o : Option Context) (step : Context → Option Context) (new : Context) → stepped o step ≡ Some new → ((next : Context) → o ≡ Some next → step next ≡ Some new → P) → P
stepped_some None step new e f = absurd (cc)
stepped_some (Some next) step new e f = f next refl e

same_context : (x y : Context) → ◌≡◌ {A = Option Context} (Some x) (Some y) → x ≡ y
same_context x y e = cc

grown_allowed : (came : List (List ℕ)) (old new : Context) → grown_by came old ≡ Some new → new.allowed ≡ old.allowed
grown_allowed [] old new e = ap (λ (c : Context). c.allowed) (sym (same_context old new e))
grown_allowed (id ∷ came) old new e =
    stepped_some (interned id old) (λ d. grown_by came d) new e (λ next p q. grown_allowed came next new q ∙ interned_allowed old next id p)

-- A context that is grown by an array has the identifiers after it, and allows what it did.
pub grown_context : (s : SessionMeaning) (t : Tree) (old new : Context) → grown codec s old t ≡ Some new → new ≡ record { ids = ids_after s t old; allowed = old.allowed }
grown_context s t old new e =
    let made : List (List ℕ) → Option (List (List ℕ)) → Context = λ ids allowed. record { ids = ids; allowed = allowed } in
    ap (λ ids. made ids new.allowed) (grown-ids s t old new e) ∙ ap (λ allowed. made (ids_after s t old) allowed) (grown_allowed (ids_in (wire codec s t)) old new e)

-- The context with which writing begins.
pub begun_context : (c : Context) → c.ids ≡ [] → c.allowed ≡ None → c ≡ first_context
begun_context c ids allowed =
    let made : List (List ℕ) → Option (List (List ℕ)) → Context = λ xs o. record { ids = xs; allowed = o } in
    ap (λ xs. made xs c.allowed) ids ∙ ap (λ o. made [] o) allowed
