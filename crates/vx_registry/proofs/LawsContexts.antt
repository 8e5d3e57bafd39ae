-- Where an identifier stands in a list, and contexts that go back to what they were.
use Rattle.std.proofs.Common.{ℕ, suc, ◌≡◌, ◌<◌, ◌≤◌, ◌||◌, ◌&&◌, List, [], ◌∷◌, ◌++◌, Option, Some, None, Bool, true, false, cond, length, nat_lt, take, refl, sym, ap, ◌∙◌, subst, arith, append_assoc}
use Rattle.std.specs.Prelude.{bytes_eq}
use Rattle.std.proofs.lemmas.List.{append-nil, take-append-le, take_all}
use Rattle.std.proofs.lemmas.Option.{cond_some, same_Some}
use Rattle.std.proofs.lemmas.Slice.Eq.{bytes_eq-Decides}
use Rattle.vx_array_tree.specs.Tree.{Tree}
use Rattle.vx_wire_tree.specs.Codec.{Codec}
use Rattle.vx_wire_tree.specs.Context.{Context, is_among, index_of, with_id, is_allowed, interned, stepped, grown_by, grown, truncated}
use Rattle.vx_wire_tree.specs.Session.{SessionMeaning}
use Rattle.vx_wire_tree.specs.Wire.{ids_in}
use Rattle.vx_wire_tree.specs.Written.{wire}

within_at : (b : Bool) (p n : ℕ) → p ≤ n → cond b 0 (suc p) ≤ suc n
within_at true p n h = omega arith
within_at false p n h = omega (arith, h)

-- No place is past the list's end.
pub index_of-within : (id : List ℕ) (ids : List (List ℕ)) → index_of id ids ≤ length ids
index_of-within id [] = omega arith
index_of-within id (x ∷ xs) = within_at (bytes_eq id x) (index_of id xs) (length xs) (index_of-within id xs)

among_at : (b rest : Bool) (p n : ℕ) → b || rest ≡ true → (rest ≡ true → p < n) → cond b 0 (suc p) < suc n
among_at true rest p n e f = omega arith
among_at false rest p n e f = omega (arith, f e)

-- An identifier that is in a list has its place within the list.
pub index_of-among : (id : List ℕ) (ids : List (List ℕ)) → is_among id ids ≡ true → index_of id ids < length ids
index_of-among id [] e = absurd (cc)
index_of-among id (x ∷ xs) e = among_at (bytes_eq id x) (is_among id xs) (index_of id xs) (length xs) e (λ q. index_of-among id xs q)

absent_at : (b rest : Bool) (p n : ℕ) → b || rest ≡ false → (rest ≡ false → p ≡ n) → cond b 0 (suc p) ≡ suc n
absent_at true rest p n e f = absurd (cc)
absent_at false rest p n e f = ap (λ k. suc k) (f e)

-- One that is not has the place at the end.
pub index_of-absent : (id : List ℕ) (ids : List (List ℕ)) → is_among id ids ≡ false → index_of id ids ≡ length ids
index_of-absent id [] e = refl
index_of-absent id (x ∷ xs) e = absent_at (bytes_eq id x) (is_among id xs) (index_of id xs) (length xs) e (λ q. index_of-absent id xs q)

own_place : (b : Bool) (n : ℕ) → b ≡ true → cond b 0 (suc n) ≡ 0
own_place true n e = refl
own_place false n e = absurd (cc)

-- It has that place once it is appended.
pub index_of-end : (id : List ℕ) (ids : List (List ℕ)) → is_among id ids ≡ false → index_of id (ids ++ id ∷ []) ≡ length ids
index_of-end id [] e = own_place (bytes_eq id id) 0 ((bytes_eq-Decides id id).1 refl)
index_of-end id (x ∷ xs) e = absent_at (bytes_eq id x) (is_among id xs) (index_of id (xs ++ id ∷ [])) (length xs) e (λ q. index_of-end id xs q)

below_at : (b : Bool) (p n : ℕ) → p < n → cond b 0 (suc p) < suc n
below_at true p n h = omega arith
below_at false p n h = omega (arith, h)

-- One that stands last has its place within the list.
pub index_of-last : (id : List ℕ) (ids : List (List ℕ)) → index_of id (ids ++ id ∷ []) < length (ids ++ id ∷ [])
index_of-last id [] = rw ((bytes_eq-Decides id id).1 refl) (omega arith)
index_of-last id (x ∷ xs) = below_at (bytes_eq id x) (index_of id (xs ++ id ∷ [])) (length (xs ++ id ∷ [])) (index_of-last id xs)

-- ---- contexts that go back

-- Identifiers that others were appended to are as they were where the list is truncated to as many. This is a reader's
-- list after `push`.
pub appended-truncated : (ids others : List (List ℕ)) → take (length ids) (ids ++ others) ≡ ids
appended-truncated ids others = take-append-le (length ids) ids others (omega arith) ∙ take_all (length ids) ids (omega arith)

-- What a context has of an earlier one: its identifiers first, and the same that are allowed.
pub record Continues (old new : Context) : Type 0 where
  pub others : List (List ℕ)
  pub ids_are : new.ids ≡ old.ids ++ others
  pub same_allowed : new.allowed ≡ old.allowed

continues-truncated : (old new : Context) → Continues old new → truncated (length old.ids) new ≡ old
continues-truncated old new h =
    let ids : take (length old.ids) new.ids ≡ old.ids = ap (λ ids. take (length old.ids) ids) h.ids_are ∙ appended-truncated old.ids h.others in
    λ i. record { ids = ids i; allowed = h.same_allowed i }

with_id-appends : (b : Bool) (id : List ℕ) (ids : List (List ℕ)) → cond b ids (ids ++ id ∷ []) ≡ ids ++ cond b [] (id ∷ [])
with_id-appends true id ids = sym (append-nil ids)
with_id-appends false id ids = refl

-- A context with an identifier more continues the one before.
pub interned-continues : (id : List ℕ) (old new : Context) → interned id old ≡ Some new → Continues old new
interned-continues id old new e =
    let parts = cond_some (is_allowed old.allowed id && nat_lt (index_of id old.ids) 65536) (record { ids = with_id id old.ids; allowed = old.allowed }) new e in
    record {
      others = cond (is_among id old.ids) [] (id ∷ []);
      ids_are = ap (λ c. c.ids) (sym parts.1) ∙ with_id-appends (is_among id old.ids) id old.ids;
      same_allowed = ap (λ c. c.allowed) (sym parts.1);
    }

continues-both : (old next new : Context) → Continues old next → Continues next new → Continues old new
continues-both old next new a b = record {
  others = a.others ++ b.others;
  ids_are = b.ids_are ∙ ap (λ ids. ids ++ b.others) a.ids_are ∙ append_assoc old.ids a.others b.others;
  same_allowed = b.same_allowed ∙ a.same_allowed;
}

step_continues : (old new : Context) (o : Option Context) (grow : Context → Option Context) → ((next : Context) → o ≡ Some next → Continues old next)
    → ((next : Context) → grow next ≡ Some new → Continues next new) → stepped o grow ≡ Some new → Continues old new
step_continues old new None grow f g e = absurd (cc)
step_continues old new (Some next) grow f g e = continues-both old next new (f next refl) (g next e)

-- So does one with several more, one after the other.
pub grown_by-continues : (ids : List (List ℕ)) (old new : Context) → grown_by ids old ≡ Some new → Continues old new
grown_by-continues [] old new e =
    let same = sym (same_Some old new e) in
    record { others = []; ids_are = ap (λ c. c.ids) same ∙ sym (append-nil old.ids); same_allowed = ap (λ c. c.allowed) same }
grown_by-continues (id ∷ ids) old new e =
    step_continues old new (interned id old) (λ next. grown_by ids next) (λ next p. interned-continues id old next p) (λ next p. grown_by-continues ids next new p) e

-- A context that an identifier came into is as it was once it is truncated to what it had.
pub interned-truncated : (id : List ℕ) (old new : Context) → interned id old ≡ Some new → truncated (length old.ids) new ≡ old
interned-truncated id old new e = continues-truncated old new (interned-continues id old new e)

-- So is one that an array's identifiers came into.
pub grown-truncated : (c : Codec) (s : SessionMeaning) (old new : Context) (t : Tree) → grown c s old t ≡ Some new → truncated (length old.ids) new ≡ old
grown-truncated c s old new t e = continues-truncated old new (grown_by-continues (ids_in (wire c s t)) old new e)
