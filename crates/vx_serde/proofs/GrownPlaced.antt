-- A context that has taken identifiers gives each of them its place.
use Rattle.std.proofs.Common.{ℕ, suc, ◌≡◌, ◌<◌, Bool, true, false, List, [], ◌∷◌, ◌++◌, Option, Some, None, length, refl, sym, ap, ◌∙◌, subst, arith, append_assoc, append-nil, length-append}
use Rattle.std.specs.Prelude.{All, slice_get, bytes_eq, nat_lt, ◌&&◌, if◌then◌else◌}
use Rattle.std.proofs.lemmas.List.Elements.{All-nil, All-cons}
use Rattle.std.proofs.lemmas.Bool.{ltb-true}
use Rattle.std.proofs.lemmas.Option.{slice_get_within, cond_some}
use Rattle.std.proofs.lemmas.Slice.Eq.{bytes_eq-Decides}
use Rattle.vx_wire_tree.specs.Context.{Context, is_among, index_of, with_id, is_allowed, interned, stepped, grown_by}
use Rattle.vx_registry.proofs.LawsContexts.{index_of-among, index_of-absent, index_of-last}
use Rattle.vx_serde.proofs.Growing.{index_of-more}
use Rattle.vx_serde.proofs.NumberedRead.{IsPlaced}

-- ---- the first place of an identifier

-- Where the first place is within the list, it holds the identifier.
stands-within : (id : List ℕ) (ids : List (List ℕ)) → index_of id ids < length ids → slice_get ids (index_of id ids) ≡ Some id
stands-within id [] h = absurd (omega (arith, h))
stands-within id (other ∷ ids) h = at (bytes_eq id other) (bytes_eq-Decides id other).0 h (λ g. stands-within id ids g) where
  at : (b : Bool) → (b ≡ true → id ≡ other) → (if b then 0 else suc (index_of id ids)) < suc (length ids) → (index_of id ids < length ids → slice_get ids (index_of id ids) ≡ Some id)
      → slice_get (other ∷ ids) (if b then 0 else suc (index_of id ids)) ≡ Some id
  at true f h g = ap (λ x. Some x) (sym (f refl))
  at false f h g = g (omega (arith, h))

-- It stays where it is, whatever comes after the list.
pub placed-more : (id : List ℕ) (ids rest : List (List ℕ)) → IsPlaced ids id → IsPlaced (ids ++ rest) id
placed-more id ids rest h =
    let within = slice_get_within ids (index_of id ids) id h.stands in
    let same = index_of-more id ids rest within in
    record {
      stands = stands-within id (ids ++ rest) (omega (arith, same, within, length-append ids rest));
      fits = omega (arith, same, h.fits);
    }

-- ---- a list with an identifier

-- An identifier that is taken into a list: more may stand after what was there, and the identifier has its place.
record Comes (ids new : List (List ℕ)) (id : List ℕ) : Type 0 where
  pub rest : List (List ℕ)
  pub front : new ≡ ids ++ rest
  pub placed : IsPlaced new id

comes : (ids : List (List ℕ)) (id : List ℕ) → index_of id ids < 65536 → Comes ids (with_id id ids) id
comes ids id fits = at (is_among id ids) (λ e. index_of-among id ids e) (λ e. index_of-absent id ids e) where
  at : (b : Bool) → (b ≡ true → index_of id ids < length ids) → (b ≡ false → index_of id ids ≡ length ids) → Comes ids (if b then ids else ids ++ id ∷ []) id
  at true f g = record { rest = []; front = sym (append-nil ids); placed = record { stands = stands-within id ids (f refl); fits = fits } }
  at false f g = record {
    rest = id ∷ [];
    front = refl;
    placed = record { stands = stands-within id (ids ++ id ∷ []) (index_of-last id ids); fits = omega (arith, index_of-last id ids, length-append ids (id ∷ []), g refl, fits) };
  }

-- ---- contexts

-- A context after identifiers are taken into it: more may stand after what was there, and each of those that were taken
-- has its place.
pub record IsGrownBy (came : List (List ℕ)) (old new : Context) : Type 0 where
  pub rest : List (List ℕ)
  pub front : new.ids ≡ old.ids ++ rest
  pub placed : All (λ id. IsPlaced new.ids id) came

second : (a b : Bool) → (a && b) ≡ true → b ≡ true
second true b h = h
second false b h = absurd (cc)

interned-comes : (old new : Context) (id : List ℕ) → interned id old ≡ Some new → Comes old.ids new.ids id
interned-comes old new id e =
    let parts = cond_some (is_allowed old.allowed id && nat_lt (index_of id old.ids) 65536) (record { ids = with_id id old.ids; allowed = old.allowed }) new e in
    let P : Context → Type 0 = λ c. Comes old.ids c.ids id in
    subst P parts.1 (comes old.ids id (ltb-true (index_of id old.ids) 65536 (second (is_allowed old.allowed id) (nat_lt (index_of id old.ids) 65536) parts.0)))

stepped_some : {P : Type 0} (o : Option Context) (step : Context → Option Context) (new : Context) → stepped o step ≡ Some new → ((next : Context) → o ≡ Some next → step next ≡ Some new → P) → P
stepped_some None step new e f = absurd (cc)
stepped_some (Some next) step new e f = f next refl e

-- A context that is grown has the identifiers that it was grown by.
pub grown_by-placed : (came : List (List ℕ)) (old new : Context) → grown_by came old ≡ Some new → IsGrownBy came old new
grown_by-placed [] old new e =
    let same : new ≡ old = cc in
    rw same (record { rest = []; front = sym (append-nil old.ids); placed = All-nil (λ id. IsPlaced old.ids id) })
grown_by-placed (id ∷ came) old new e =
    stepped_some (interned id old) (λ d. grown_by came d) new e (λ next p q. joined next (interned-comes old next id p) (grown_by-placed came next new q)) where
      joined : (next : Context) → Comes old.ids next.ids id → IsGrownBy came next new → IsGrownBy (id ∷ came) old new
      joined next a b = record {
        rest = a.rest ++ b.rest;
        front = b.front ∙ ap (λ ids. ids ++ b.rest) a.front ∙ append_assoc old.ids a.rest b.rest;
        placed = All-cons (λ id. IsPlaced new.ids id) id came (rw b.front (placed-more id next.ids b.rest a.placed)) b.placed;
      }
