-- Contexts that identifiers are taken into, one after the other.
use Rattle.std.specs.Prelude.{ℕ, zero, suc, ◌≡◌, ◌<◌, Bool, true, false, ◌&&◌, List, [], ◌∷◌, ◌++◌, Option, Some, None, length, nat_lt, bytes_eq, if◌then◌else◌, All, Contains, refl}
use Rattle.std.proofs.Common.{arith, sym, ◌∙◌, ap, get_or, append_assoc, append-nil}
use Rattle.std.proofs.lemmas.List.Elements.{All-append, Contains-append_left, Contains-append_right}
use Rattle.vx_registry.proofs.LawsContexts.{index_of-among, index_of-last}
use Rattle.vx_wire_tree.specs.Context.{Context, is_among, index_of, with_id, is_allowed, interned, stepped, grown_by}
use Rattle.vx_serde.specs.KeptContext.{KeepsContext}

-- ---- one list of identifiers after the other

stepped-twice : (f g h : Context → Option Context) → ((d : Context) → f d ≡ stepped (g d) h) → (o : Option Context) → stepped o f ≡ stepped (stepped o g) h
stepped-twice f g h e None = refl
stepped-twice f g h e (Some d) = e d

pub grown_by-append : (xs ys : List (List ℕ)) (c : Context) → grown_by (xs ++ ys) c ≡ stepped (grown_by xs c) (λ d. grown_by ys d)
grown_by-append [] ys c = refl
grown_by-append (x ∷ xs) ys c = stepped-twice (λ d. grown_by (xs ++ ys) d) (λ d. grown_by xs d) (λ d. grown_by ys d) (λ d. grown_by-append xs ys d) (interned x c)

-- Both lists are taken.
pub grown-both : (xs ys : List (List ℕ)) (a b c : Context) → grown_by xs a ≡ Some b → grown_by ys b ≡ Some c → grown_by (xs ++ ys) a ≡ Some c
grown-both xs ys a b c p q = grown_by-append xs ys a ∙ ap (λ o. stepped o (λ d. grown_by ys d)) p ∙ q

-- The first list is refused.
pub refused-first : (xs ys : List (List ℕ)) (a : Context) → grown_by xs a ≡ None → grown_by (xs ++ ys) a ≡ None
refused-first xs ys a p = grown_by-append xs ys a ∙ ap (λ o. stepped o (λ d. grown_by ys d)) p

-- The second list is refused.
pub refused-second : (xs ys : List (List ℕ)) (a b : Context) → grown_by xs a ≡ Some b → grown_by ys b ≡ None → grown_by (xs ++ ys) a ≡ None
refused-second xs ys a b p q = grown_by-append xs ys a ∙ ap (λ o. stepped o (λ d. grown_by ys d)) p ∙ q

-- ---- what is kept

pub none-among : (xs : List (List ℕ)) → All (λ id. Contains xs id) []
none-among xs k d h = absurd (omega (arith, h))

pub kept-same : (xs : List (List ℕ)) (a b : Context) → a ≡ b → KeepsContext xs a b
kept-same xs a b e = record { added = []; front = ap (λ c. c.ids) (sym e) ∙ sym (append-nil a.ids); among = none-among xs; permissions = ap (λ c. c.allowed) (sym e) }

wider-left : (xs ys ids : List (List ℕ)) → All (λ id. Contains xs id) ids → All (λ id. Contains (xs ++ ys) id) ids
wider-left xs ys ids h k d l = Contains-append_left xs ys (get_or ids k d) (h k d l)

wider-right : (xs ys ids : List (List ℕ)) → All (λ id. Contains ys id) ids → All (λ id. Contains (xs ++ ys) id) ids
wider-right xs ys ids h k d l = Contains-append_right xs ys (get_or ids k d) (h k d l)

pub kept-first : (xs ys : List (List ℕ)) (a b : Context) → KeepsContext xs a b → KeepsContext (xs ++ ys) a b
kept-first xs ys a b k = record { added = k.added; front = k.front; among = wider-left xs ys k.added k.among; permissions = k.permissions }

pub kept-both : (xs ys : List (List ℕ)) (a b c : Context) → KeepsContext xs a b → KeepsContext ys b c → KeepsContext (xs ++ ys) a c
kept-both xs ys a b c k l = record {
  added = k.added ++ l.added;
  front = l.front ∙ ap (λ ids. ids ++ l.added) k.front ∙ append_assoc a.ids k.added l.added;
  among = All-append (λ id. Contains (xs ++ ys) id) k.added l.added (wider-left xs ys k.added k.among) (wider-right xs ys l.added l.among);
  permissions = l.permissions ∙ k.permissions;
}

-- ---- places

same-step : (b : Bool) (p q n : ℕ) → (if b then 0 else suc p) < suc n → (p < n → q ≡ p) → (if b then 0 else suc q) ≡ (if b then 0 else suc p)
same-step true p q n h f = refl
same-step false p q n h f = ap (λ k. suc k) (f (omega (arith, h)))

-- A place within a list stays where more comes after it.
pub index_of-more : (id : List ℕ) (ids more : List (List ℕ)) → index_of id ids < length ids → index_of id (ids ++ more) ≡ index_of id ids
index_of-more id [] more h = absurd (omega (arith, h))
index_of-more id (other ∷ ids) more h = same-step (bytes_eq id other) (index_of id ids) (index_of id (ids ++ more)) (length ids) h (λ g. index_of-more id ids more g)

either-place : (id : List ℕ) (ids : List (List ℕ)) (b : Bool) → (b ≡ true → index_of id ids < length ids) → index_of id (if b then ids else ids ++ id ∷ []) < length (if b then ids else ids ++ id ∷ [])
either-place id ids true f = f refl
either-place id ids false f = index_of-last id ids

with_id-place : (id : List ℕ) (ids : List (List ℕ)) → index_of id (with_id id ids) < length (with_id id ids)
with_id-place id ids = either-place id ids (is_among id ids) (λ e. index_of-among id ids e)

-- ---- one identifier that is taken

permitted : (b : Bool) (c d : Context) → (if b then Some c else None) ≡ Some d → d ≡ c
permitted true c d e = cc
permitted false c d e = absurd (cc)

taken-is : (id : List ℕ) (a b : Context) → interned id a ≡ Some b → b ≡ record { ids = with_id id a.ids; allowed = a.allowed }
taken-is id a b e = permitted (is_allowed a.allowed id && nat_lt (index_of id a.ids) 65536) _ b e

pub taken-place : (id : List ℕ) (a b : Context) → interned id a ≡ Some b → index_of id b.ids < length b.ids
taken-place id a b e = rw (taken-is id a b e) (with_id-place id a.ids)

-- The number of an identifier stays, whatever comes after it.
pub taken-number : (id : List ℕ) (a b : Context) (n : ℕ) (more : List (List ℕ)) → interned id a ≡ Some b → index_of id b.ids ≡ n → index_of id (b.ids ++ more) ≡ n
taken-number id a b n more e p = index_of-more id b.ids more (taken-place id a b e) ∙ p

one-among : (id : List ℕ) → All (λ x. Contains (id ∷ []) x) (id ∷ [])
one-among id zero d h = (0, omega arith, refl)
one-among id (suc k) d h = absurd (omega (arith, h))

with_id-added : (id : List ℕ) (ids : List (List ℕ)) (b : Bool) → (added : List (List ℕ)) × ((if b then ids else ids ++ id ∷ []) ≡ ids ++ added) × All (λ x. Contains (id ∷ []) x) added
with_id-added id ids true = ([], sym (append-nil ids), none-among (id ∷ []))
with_id-added id ids false = (id ∷ [], refl, one-among id)

pub kept-taken : (id : List ℕ) (a b : Context) → interned id a ≡ Some b → KeepsContext (id ∷ []) a b
kept-taken id a b e =
    let w = with_id-added id a.ids (is_among id a.ids) in
    record { added = w.0; front = ap (λ c. c.ids) (taken-is id a b e) ∙ w.1; among = w.2; permissions = ap (λ c. c.allowed) (taken-is id a b e) }

kept-stepped : (x : List ℕ) (xs : List (List ℕ)) (a b : Context) (o : Option Context) → ((d : Context) → grown_by xs d ≡ Some b → KeepsContext xs d b)
    → interned x a ≡ o → stepped o (λ d. grown_by xs d) ≡ Some b → KeepsContext (x ∷ xs) a b
kept-stepped x xs a b None f p e = absurd (cc)
kept-stepped x xs a b (Some d) f p e = kept-both (x ∷ []) xs a d b (kept-taken x a d p) (f d e)

-- A context that has taken identifiers keeps the old ones.
pub kept-grown : (xs : List (List ℕ)) (a b : Context) → grown_by xs a ≡ Some b → KeepsContext xs a b
kept-grown [] a b e = kept-same [] a b (cc)
kept-grown (x ∷ xs) a b e = kept-stepped x xs a b (interned x a) (λ d g. kept-grown xs d b g) refl e
