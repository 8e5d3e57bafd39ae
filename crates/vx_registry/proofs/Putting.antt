-- What is found in a table of entries once an entry is put under identifiers.
use Rattle.std.proofs.Common.{ℕ, ◌≡◌, ◌⊎◌, ◌||◌, inl, inr, List, [], ◌∷◌, Option, Some, None, Bool, true, false, cond, refl, sym, ap, ◌∙◌}
use Rattle.std.specs.Prelude.{bytes_eq}
use Rattle.std.specs.List.{list_any}
use Rattle.std.specs.Map.{lookup}
use Rattle.std.proofs.lemmas.Slice.Eq.{bytes_eq-Decides}
use Rattle.vx_registry.specs.Session.{Entries, put, put_all}
use Rattle.vx_registry.specs.declared.tables.Entry.{Entry}

same_tests : (p q : Bool) → (p ≡ true → q ≡ true) → (q ≡ true → p ≡ true) → p ≡ q
same_tests true q f g = sym (f refl)
same_tests false true f g = g refl
same_tests false false f g = refl

pub eq_sym : (a b : List ℕ) → bytes_eq a b ≡ bytes_eq b a
eq_sym a b = same_tests (bytes_eq a b) (bytes_eq b a) (λ e. (bytes_eq-Decides b a).1 (sym ((bytes_eq-Decides a b).0 e))) (λ e. (bytes_eq-Decides a b).1 (sym ((bytes_eq-Decides b a).0 e)))

twice : {A : Type 0} (t : Bool) (a b l : A) → cond t a l ≡ cond t a (cond t b l)
twice true a b l = refl
twice false a b l = refl

swapped : {A : Type 0} (s t : Bool) (a b l : A) → (s ≡ true → t ≡ true → ⊥) → cond s a (cond t b l) ≡ cond t b (cond s a l)
swapped true true a b l never = absurd (never refl refl)
swapped true false a b l never = refl
swapped false t a b l never = refl

either : {A : Type 0} (s t : Bool) (a l : A) → cond t a (cond s a l) ≡ cond (s || t) a l
either true true a l = refl
either true false a l = refl
either false t a l = refl

module _ (e : Entry) (key q : List ℕ) where
  put_at : (k : List ℕ) (v : Entry) (t : Entries) (b : Bool) → bytes_eq key k ≡ b → lookup (bytes_eq q) (put e key t) ≡ cond (bytes_eq key q) (Some e) (lookup (bytes_eq q) t)
      → lookup (bytes_eq q) (cond b ((k, e) ∷ t) ((k, v) ∷ put e key t)) ≡ cond (bytes_eq key q) (Some e) (cond (bytes_eq q k) (Some v) (lookup (bytes_eq q) t))
  put_at k v t true p h =
      let same : bytes_eq q k ≡ bytes_eq key q = eq_sym q k ∙ ap (λ z. bytes_eq z q) (sym ((bytes_eq-Decides key k).0 p)) in
      let l = lookup (bytes_eq q) t in
      ap (λ z. cond z (Some e) l) same ∙ twice (bytes_eq key q) (Some e) (Some v) l ∙ ap (λ z. cond (bytes_eq key q) (Some e) (cond z (Some v) l)) (sym same)
  put_at k v t false p h =
      let apart : bytes_eq q k ≡ true → bytes_eq key q ≡ true → ⊥ =
      λ x y.
      let z : bytes_eq key k ≡ true = (bytes_eq-Decides key k).1 ((bytes_eq-Decides key q).0 y ∙ (bytes_eq-Decides q k).0 x) in
      cc
      in
      ap (λ z. cond (bytes_eq q k) (Some v) z) h ∙ swapped (bytes_eq q k) (bytes_eq key q) (Some v) (Some e) (lookup (bytes_eq q) t) apart

  -- An entry under one identifier.
  pub lookup_put : (t : Entries) → lookup (bytes_eq q) (put e key t) ≡ cond (bytes_eq key q) (Some e) (lookup (bytes_eq q) t)
  lookup_put [] = ap (λ z. cond z (Some e) None) (eq_sym q key)
  lookup_put (x ∷ t) = put_at x.0 x.1 t (bytes_eq key x.0) refl (lookup_put t)

-- An entry under each of several.
pub lookup_put_all : (e : Entry) (ids : List (List ℕ)) (q : List ℕ) (t : Entries) → lookup (bytes_eq q) (put_all e ids t) ≡ cond (list_any (bytes_eq q) ids) (Some e) (lookup (bytes_eq q) t)
lookup_put_all e [] q t = refl
lookup_put_all e (id ∷ ids) q t =
    let l = lookup (bytes_eq q) t in
    lookup_put_all e ids q (put e id t)
    ∙ ap (λ z. cond (list_any (bytes_eq q) ids) (Some e) z) (lookup_put e id q t ∙ ap (λ z. cond z (Some e) l) (eq_sym id q))
    ∙ either (bytes_eq q id) (list_any (bytes_eq q) ids) (Some e) l

the_one : (b : Bool) → (b || false) ≡ true → b ≡ true
the_one true e = refl
the_one false e = e

-- ---- what is found once something came

module _ {A : Type 0} where
  -- It is the new entry, or what was found before.
  pub which : (t : Bool) (a b : A) (o p : Option A) → p ≡ cond t (Some a) o → p ≡ Some b → ((t ≡ true) × (a ≡ b)) ⊎ ((t ≡ false) × (o ≡ Some b))
  which true a b o p e f = inl (refl, cc)
  which false a b o p e f = inr (refl, sym e ∙ f)

  -- Something is found where something was before, or where the new entry is.
  pub some_still : (t : Bool) (a : A) (o p : Option A) → p ≡ cond t (Some a) o → ((q : A) × (o ≡ Some q)) → (q : A) × (p ≡ Some q)
  some_still true a o p e h = (a, e)
  some_still false a o p e h = (h.0, e ∙ h.1)

  pub some_new : (t : Bool) (a : A) (o p : Option A) → p ≡ cond t (Some a) o → t ≡ true → (q : A) × (p ≡ Some q)
  some_new true a o p e h = (a, e)
  some_new false a o p e h = absurd (cc)

  -- Where the new entry is, it is found; elsewhere, what was found before is.
  pub at_true : (t : Bool) (a : A) (o p : Option A) → p ≡ cond t (Some a) o → t ≡ true → p ≡ Some a
  at_true true a o p e h = e
  at_true false a o p e h = absurd (cc)

  pub at_false : (t : Bool) (a : A) (o p : Option A) → p ≡ cond t (Some a) o → t ≡ false → p ≡ o
  at_false true a o p e h = absurd (cc)
  at_false false a o p e h = e

-- An identifier is in a list of one exactly where it is that one.
pub is_one : (id w : List ℕ) → list_any (bytes_eq id) (w ∷ []) ≡ true → id ≡ w
is_one id w e = (bytes_eq-Decides id w).0 (the_one (bytes_eq id w) e)

pub one_is : (id w : List ℕ) → id ≡ w → list_any (bytes_eq id) (w ∷ []) ≡ true
one_is id w e = ap (λ b. b || false) ((bytes_eq-Decides id w).1 e)
