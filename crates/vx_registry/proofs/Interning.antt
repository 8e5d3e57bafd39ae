-- One identifier more in a context.
use Rattle.std.proofs.Common.{ℕ, ◌≡◌, ◌<◌, ◌≤◌, List, [], ◌∷◌, ◌++◌, Option, Some, None, Bool, true, false, cond, ◌&&◌, IfSome, IfNone, length, position, nat_lt, refl, sym, ap, ◌∙◌, subst, arith}
use Rattle.std.specs.Prelude.{bytes_eq}
use Rattle.std.specs.List.{position_or_len}
use Rattle.std.proofs.lemmas.Bool.{lt-ltb}
use Rattle.std.proofs.lemmas.List.Recursion.{is_position_or_len}
use Rattle.std.proofs.lemmas.Option.{cond_some}
use Rattle.vx_registry.proofs.LawsContexts.{index_of-absent, index_of-end}
use Rattle.vx_wire_tree.specs.Context.{Context, is_among, index_of, with_id, with_ids, is_allowed, interned}

-- Places.

past : (n m : ℕ) → m ≤ n → nat_lt n m ≡ false
past n m h = grind arith

-- An identifier that is there has the place at which it is found.
pub index_of-found : (id : List ℕ) (ids : List (List ℕ)) (i : ℕ) → position (bytes_eq id) ids ≡ Some i → index_of id ids ≡ i
index_of-found id ids i e =
    is_position_or_len (index_of id) (bytes_eq id) refl (λ x xs. ap (λ n. cond (bytes_eq id x) 0 n) (omega arith)) ids
    ∙ (cond_some (nat_lt (position_or_len (bytes_eq id) ids) (length ids)) (position_or_len (bytes_eq id) ids) i e).1

-- An identifier that is allowed, at a place that a number can name.
pub interned-some : (c : Context) (id : List ℕ) (ids : List (List ℕ)) → is_allowed c.allowed id ≡ true → index_of id c.ids < 65536 → ids ≡ with_id id c.ids
    → interned id c ≡ Some (record { ids = ids; allowed = c.allowed })
interned-some c id ids allowed small e =
    let b : is_allowed c.allowed id && nat_lt (index_of id c.ids) 65536 ≡ true = ap (λ z. z && nat_lt (index_of id c.ids) 65536) allowed ∙ lt-ltb (index_of id c.ids) 65536 small in
    let some : Bool → Option Context = λ z. cond z (Some (record { ids = with_id id c.ids; allowed = c.allowed })) None in
    ap some b ∙ ap (λ z. Some (record { ids = z; allowed = c.allowed })) (sym e)

-- An identifier that is allowed, at a place that no number can name.
pub interned-past : (c : Context) (id : List ℕ) → is_allowed c.allowed id ≡ true → 65536 ≤ index_of id c.ids → interned id c ≡ None
interned-past c id allowed h =
    let b : is_allowed c.allowed id && nat_lt (index_of id c.ids) 65536 ≡ false = ap (λ z. z && nat_lt (index_of id c.ids) 65536) allowed ∙ past (index_of id c.ids) 65536 h in
    let some : Bool → Option Context = λ z. cond z (Some (record { ids = with_id id c.ids; allowed = c.allowed })) None in
    ap some b

-- What the result for an identifier says: the context with it, and its place there; or that there is none.
pub record IsInterned (old : Context) (id : List ℕ) (place : Option ℕ) (new : Context) : Type 0 where
  pub interned_is : IfSome place (λ _. interned id old ≡ Some new)
  pub place_is : IfSome place (λ i. index_of id new.ids ≡ i)
  pub refused : IfNone place (interned id old ≡ None)
  pub none : IfNone place (new ≡ old)

-- An identifier that the context has.
pub found : (c : Context) (id : List ℕ) (i : ℕ) (p : Option ℕ) → is_allowed c.allowed id ≡ true → position (bytes_eq id) c.ids ≡ Some i → is_among id c.ids ≡ true
    → IfSome p (λ place. place ≡ i) → IfSome p (λ _. i < 65536) → IfNone p (65536 ≤ i) → IsInterned c id p c
found c id i (Some place) allowed at there same small none =
    let e = index_of-found id c.ids i at in
    record {
      interned_is = interned-some c id c.ids allowed (omega (arith, e, small)) (sym (ap (λ z. cond z c.ids (c.ids ++ id ∷ [])) there));
      place_is = e ∙ sym same;
      refused = tt;
      none = tt;
    }
found c id i None allowed at there same small none = record {
  interned_is = tt;
  place_is = tt;
  refused = interned-past c id allowed (omega (arith, index_of-found id c.ids i at, none));
  none = refl;
}

-- The same for a context as contracts see it.
pub found_in : (v c : Context) (id : List ℕ) (i : ℕ) (p : Option ℕ) → v ≡ c → is_allowed v.allowed id ≡ true → position (bytes_eq id) v.ids ≡ Some i → is_among id v.ids ≡ true
    → IfSome p (λ place. place ≡ i) → IfSome p (λ _. i < 65536) → IfNone p (65536 ≤ i) → IsInterned c id p c
found_in v c id i p e allowed at there same small none =
    let P : Context → Type 0 = λ z. IsInterned z id p z in
    subst P e (found v id i p allowed at there same small none)

-- A new identifier where no place is left.
pub full : (c : Context) (id : List ℕ) → is_allowed c.allowed id ≡ true → is_among id c.ids ≡ false → 65536 ≤ length c.ids → interned id c ≡ None
full c id allowed absent h = interned-past c id allowed (omega (arith, index_of-absent id c.ids absent, h))

-- A new identifier that goes last.

pub added : (c d : Context) (id : List ℕ) → is_allowed c.allowed id ≡ true → is_among id c.ids ≡ false → length c.ids < 65536
    → d.ids ≡ with_id id c.ids → d.allowed ≡ c.allowed → interned id c ≡ Some d
added c d id allowed absent small e f =
    let at = index_of-absent id c.ids absent in
    interned-some c id d.ids allowed (omega (arith, at, small)) e ∙ ap (λ z. Some (record { ids = d.ids; allowed = z })) (sym f)

-- The place of that identifier.
pub added-place : (c d : Context) (id : List ℕ) (place : ℕ) → is_among id c.ids ≡ false → place ≡ length c.ids → d.ids ≡ with_id id c.ids → index_of id d.ids ≡ place
added-place c d id place absent last e =
    let new : with_id id c.ids ≡ c.ids ++ id ∷ [] = ap (λ b. cond b c.ids (c.ids ++ id ∷ [])) absent in
    ap (λ ids. index_of id ids) (e ∙ new) ∙ index_of-end id c.ids absent ∙ sym last

-- Identifiers that are added one after the other.

pub with_ids-snoc : (ids xs : List (List ℕ)) (id : List ℕ) → with_ids ids (xs ++ id ∷ []) ≡ with_id id (with_ids ids xs)
with_ids-snoc ids [] id = refl
with_ids-snoc ids (x ∷ xs) id = with_ids-snoc (with_id x ids) xs id
