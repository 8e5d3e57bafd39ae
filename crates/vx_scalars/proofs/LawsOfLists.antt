-- Lists of values and of their trees, element by element.
use Rattle.std.specs.Prelude.{ℕ, zero, suc, ◌+◌, ◌≤◌, ◌<◌, ◌≡◌, ◌==◌, ◌↔◌, List, [], ◌∷◌, ◌++◌, length, take}
use Rattle.std.specs.Prelude.{Option, Some, None, position, cond, nat_lt, not, Bool, true, false, IsTrue, refl}
use Rattle.std.specs.List.{position_or_len}
use Rattle.std.specs.Cmp.{unsigned_Decides}
use Rattle.std.proofs.lemmas.List.{length-map, map-append}
use Rattle.std.proofs.lemmas.List.Quantifiers.{position-Some}
use Rattle.std.proofs.Common.{arith, get_or, sym, ap, ◌∙◌, subst, add-one, true≢false}
use Rattle.std.proofs.lemmas.Option.{same_Some}
use Rattle.vx_trees.specs.Rose.{roses_of, node, end, more}
use Rattle.vx_trees.proofs.Lists.{count-roses_of}
use Rattle.vx_trees.proofs.LawsOfMapped.{mapped-at, mapped-nodes}
use Rattle.vx_types.specs.Fits.{Fits, EachFits, FitBy, FitsMember, member}
use Rattle.vx_types.specs.Kind.{union as union_kind}
use Rattle.vx_types.specs.Seen.{typ, typs}
use Rattle.vx_types.specs.Typ.{Typ}
use Rattle.vx_types.specs.Value.{Value}
use Rattle.vx_types.specs.declared.dtype.DType.{DType}
use Rattle.vx_types.specs.declared.nullability.Nullability.{Nullability}
use Rattle.vx_types.proofs.LawsOfTypes.{typs-at}
use Rattle.vx_scalars.specs.Measures.{value_size, slice_size}
use Rattle.vx_scalars.specs.Seen.{seen, all_seen}
use Rattle.vx_scalars.specs.declared.value.ScalarValue.{ScalarValue}

pub seen-length : (vs : List (Option ScalarValue)) → length (all_seen vs) ≡ length vs
seen-length vs = length-map vs seen

pub seen-at : (vs : List (Option ScalarValue)) (i : ℕ) (v : Option ScalarValue)
    → get_or (all_seen vs) i (seen v) ≡ seen (get_or vs i v)
seen-at vs i v = mapped-at seen vs i v

pub seen-push : (vs : List (Option ScalarValue)) (v : Option ScalarValue)
    → all_seen (vs ++ v ∷ []) ≡ all_seen vs ++ seen v ∷ []
seen-push vs v = map-append seen vs (v ∷ [])

-- An element is smaller than the list.
pub size-at : (vs : List (Option ScalarValue)) (i : ℕ) (v : Option ScalarValue) → i < length vs
    → value_size (seen (get_or vs i v)) < slice_size (all_seen vs)
size-at vs i v h = omega (arith, mapped-nodes seen vs i v h)

-- ---- each fits one type

pub each-at : (vs : List (Option ScalarValue)) (i : ℕ) (v : Option ScalarValue) (e : Typ) → i < length vs
    → EachFits (roses_of (all_seen vs)) e → Fits (seen (get_or vs i v)) e
each-at [] i v e h f = absurd (omega (arith, h))
each-at (x ∷ vs) zero v e h f = f.0
each-at (x ∷ vs) (suc i) v e h f = each-at vs i v e (omega (arith, h)) f.1

each-more_suc : (vs : List (Option ScalarValue)) (i : ℕ) (v : Option ScalarValue) (e : Typ) → i < length vs
    → EachFits (roses_of (all_seen (take i vs))) e
    → Fits (seen (get_or vs i v)) e → EachFits (roses_of (all_seen (take (suc i) vs))) e
each-more_suc [] i v e h f g = absurd (omega (arith, h))
each-more_suc (x ∷ vs) zero v e h f g = (g, tt)
each-more_suc (x ∷ vs) (suc i) v e h f g = (f.0, each-more_suc vs i v e (omega (arith, h)) f.1 g)

-- One more that fits.
pub each-more : (vs : List (Option ScalarValue)) (i : ℕ) (v : Option ScalarValue) (e : Typ) → i < length vs
    → EachFits (roses_of (all_seen (take i vs))) e
    → Fits (seen (get_or vs i v)) e → EachFits (roses_of (all_seen (take (i + 1) vs))) e
each-more vs i v e h f g = rw (add-one i) (each-more_suc vs i v e h f g)

-- ---- as many values as types

pub by-length : (vs : List (Option ScalarValue)) (ds : List DType)
    → FitBy (roses_of (all_seen vs)) (roses_of (typs ds)) → length vs ≡ length ds
by-length [] [] f = refl
by-length [] (d ∷ ds) f = absurd (cc)
by-length (v ∷ vs) [] f = absurd f
by-length (v ∷ vs) (d ∷ ds) f = ap (λ n. suc n) (by-length vs ds f.1)

pub by-at : (vs : List (Option ScalarValue)) (ds : List DType) (i : ℕ) (v : Option ScalarValue) (d : DType)
    → i < length vs → i < length ds
    → FitBy (roses_of (all_seen vs)) (roses_of (typs ds)) → Fits (seen (get_or vs i v)) (typ (get_or ds i d))
by-at [] ds i v d h k f = absurd (omega (arith, h))
by-at (x ∷ vs) [] i v d h k f = absurd f
by-at (x ∷ vs) (y ∷ ds) zero v d h k f = f.0
by-at (x ∷ vs) (y ∷ ds) (suc i) v d h k f = by-at vs ds i v d (omega (arith, h)) (omega (arith, k)) f.1

by-more_suc : (vs : List (Option ScalarValue)) (ds : List DType) (i : ℕ) (v : Option ScalarValue) (d : DType)
    → i < length vs → i < length ds
    → FitBy (roses_of (all_seen (take i vs))) (roses_of (typs (take i ds))) → Fits (seen (get_or vs i v)) (typ (get_or ds i d))
    → FitBy (roses_of (all_seen (take (suc i) vs))) (roses_of (typs (take (suc i) ds)))
by-more_suc [] ds i v d h k f g = absurd (omega (arith, h))
by-more_suc (x ∷ vs) [] i v d h k f g = absurd (omega (arith, k))
by-more_suc (x ∷ vs) (y ∷ ds) zero v d h k f g = (g, refl)
by-more_suc (x ∷ vs) (y ∷ ds) (suc i) v d h k f g =
    (f.0, by-more_suc vs ds i v d (omega (arith, h)) (omega (arith, k)) f.1 g)

-- One more that fits its type.
pub by-more : (vs : List (Option ScalarValue)) (ds : List DType) (i : ℕ) (v : Option ScalarValue) (d : DType)
    → i < length vs → i < length ds
    → FitBy (roses_of (all_seen (take i vs))) (roses_of (typs (take i ds))) → Fits (seen (get_or vs i v)) (typ (get_or ds i d))
    → FitBy (roses_of (all_seen (take (i + 1) vs))) (roses_of (typs (take (i + 1) ds)))
by-more vs ds i v d h k f g = rw (add-one i) (by-more_suc vs ds i v d h k f g)

-- ---- a union's members

swap_true : (a b : ℕ) → (a == b) ≡ true → (b == a) ≡ true
swap_true a b e = (unsigned_Decides b a).1 (sym ((unsigned_Decides a b).0 e))

not_true : (v : Bool) → (v ≡ true → ⊥) → v ≡ false
not_true true f = absurd (f refl)
not_true false f = refl

swap_false : (a b : ℕ) → (a == b) ≡ false → (b == a) ≡ false
swap_false a b e = not_true (b == a) (λ h. true≢false (sym (swap_true b a h) ∙ e))

member_some : (tag : ℕ) (ids : List ℕ) (ts : List Typ) (i : ℕ) (d : Typ) → i < length ids → i < length ts
    → (get_or ids i 0 == tag) ≡ true
    → ((k : ℕ) → k < i → (get_or ids k 0 == tag) ≡ false) → member tag ids (roses_of ts) ≡ Some (get_or ts i d)
member_some tag [] ts i d h k e f = absurd (omega (arith, h))
member_some tag (x ∷ ids) [] i d h k e f = absurd (omega (arith, k))
member_some tag (x ∷ ids) (t ∷ ts) zero d h k e f =
    let g : (tag == x) ≡ true = swap_true x tag e in
    rw g refl
member_some tag (x ∷ ids) (t ∷ ts) (suc i) d h k e f =
    let g : (tag == x) ≡ false = swap_false x tag (f zero (omega arith)) in
    rw g (member_some tag ids ts i d (omega (arith, h)) (omega (arith, k)) e (λ j p. f (suc j) (omega (arith, p))))

-- The member at the index of a tag is the one that the tag names.
pub member-at : (tag : ℕ) (ids : List ℕ) (ts : List Typ) (i : ℕ) (d : Typ) → position (λ id. id == tag) ids ≡ Some i
    → length ids ≡ length ts
    → member tag ids (roses_of ts) ≡ Some (get_or ts i d)
member-at tag ids ts i d e h =
    let p = position-Some (λ id. id == tag) ids i 0 e in
    member_some tag ids ts i d p.0 (omega (arith, p.0, h)) p.1 p.2

member_none : (tag : ℕ) (ids : List ℕ) (ts : List Typ) → ((k : ℕ) → k < length ids → (get_or ids k 0 == tag) ≡ false)
    → member tag ids (roses_of ts) ≡ None
member_none tag [] ts f = refl
member_none tag (x ∷ ids) [] f = refl
member_none tag (x ∷ ids) (t ∷ ts) f =
    let g : (tag == x) ≡ false = swap_false x tag (f zero (omega arith)) in
    rw g (member_none tag ids ts (λ j p. f (suc j) (omega (arith, p))))

abbrev first_at : ℕ → List ℕ → ℕ
first_at tag ids = position_or_len (λ id. id == tag) ids

first_true : (tag x : ℕ) (ids : List ℕ) → (x == tag) ≡ true → first_at tag (x ∷ ids) ≡ 0
first_true tag x ids e = rw e refl

cond_le : (b : Bool) (n : ℕ) → cond b (1 + n) 0 ≤ 1 + n
cond_le true n = omega arith
cond_le false n = omega arith

before_all : (tag : ℕ) (ids : List ℕ) (k : ℕ) → length ids ≤ first_at tag ids → k < length ids
    → (get_or ids k 0 == tag) ≡ false
before_all tag [] k h g = absurd (omega (arith, g))
before_all tag (x ∷ ids) zero h g = not_true (x == tag) (λ e. absurd (omega (arith, h, first_true tag x ids e)))
before_all tag (x ∷ ids) (suc k) h g =
    before_all tag ids k (omega (arith, h, cond_le (not (x == tag)) (first_at tag ids))) (omega (arith, g))

none_le : (a b : ℕ) → cond (nat_lt a b) (Some a) None ≡ None → b ≤ a
none_le a b e = grind arith

-- A tag that the list does not have names no member.
pub member-nowhere : (tag : ℕ) (ids : List ℕ) (ts : List Typ) → position (λ id. id == tag) ids ≡ None
    → member tag ids (roses_of ts) ≡ None
member-nowhere tag ids ts e =
    member_none tag ids ts (λ k h. before_all tag ids k (none_le (first_at tag ids) (length ids) e) h)

-- The same, of the list of declared types.
pub member-index : (tag : ℕ) (ids : List ℕ) (ts : List Typ) (ds : List DType) (i : ℕ) (d : DType)
    → position (λ id. id == tag) ids ≡ Some i
    → length ids ≡ length ts → typs ds ≡ ts → d ≡ get_or ds i d → member tag ids (roses_of ts) ≡ Some (typ d)
member-index tag ids ts ds i d e h p q =
    member-at tag ids ts i (typ d) e h ∙ ap (λ us. Some (get_or us i (typ d))) (sym p) ∙ ap (λ t. Some t) (typs-at ds i d) ∙ ap (λ x. Some (typ x)) (sym q)

-- A value fits the member that its tag names, or the tag names none.
pub member-fits : (b : Bool) (tag : ℕ) (ns : List (List ℕ)) (ids : List ℕ) (m : Nullability) (ts : List Typ) (t : Typ)
    (v : Value)
    → member tag ids (roses_of ts) ≡ Some t → (IsTrue b ↔ Fits v t) → IsTrue b ↔ FitsMember tag (λ us. FitBy (more v end) us) (node (union_kind ns ids m) (roses_of ts))
member-fits b tag ns ids m ts t v e f =
    (λ h. (t, e, (f.0 h, refl)), λ g. f.1 (subst (λ u. Fits v u) (same_Some g.0 t (sym g.1 ∙ e)) g.2.0))

pub no-member : (tag : ℕ) (ns : List (List ℕ)) (ids : List ℕ) (m : Nullability) (ts : List Typ) (v : Value)
    → member tag ids (roses_of ts) ≡ None → IsTrue false ↔ FitsMember tag (λ us. FitBy (more v end) us) (node (union_kind ns ids m) (roses_of ts))
no-member tag ns ids m ts v e =
    (λ h. absurd (true≢false (sym h)), λ g. let k : None ≡ Some g.0 = sym e ∙ g.1 in absurd (cc))

-- ---- two parts

pub two-fit : (vs : List (Option ScalarValue)) (v : Option ScalarValue) (k x : Typ) → length vs ≡ 2
    → Fits (seen (get_or vs 0 v)) k → Fits (seen (get_or vs 1 v)) x
    → FitBy (roses_of (all_seen vs)) (more k (more x end))
two-fit [] v k x h f g = absurd (omega (arith, h))
two-fit (a ∷ []) v k x h f g = absurd (omega (arith, h))
two-fit (a ∷ b ∷ []) v k x h f g = (f, (g, refl))
two-fit (a ∷ b ∷ c ∷ vs) v k x h f g = absurd (omega (arith, h))

pub two-parts : (vs : List (Option ScalarValue)) (v : Option ScalarValue) (k x : Typ)
    → FitBy (roses_of (all_seen vs)) (more k (more x end))
    → (length vs ≡ 2) × Fits (seen (get_or vs 0 v)) k × Fits (seen (get_or vs 1 v)) x
two-parts [] v k x f = absurd (cc)
two-parts (a ∷ []) v k x f = absurd (cc)
two-parts (a ∷ b ∷ []) v k x f = (refl, f.0, f.1.0)
two-parts (a ∷ b ∷ c ∷ vs) v k x f = absurd (f.1.1)

-- A tuple of a number of parts other than two is no entry.
pub no-entry : (ws : List Value) (vs : List (Option ScalarValue)) (k x : Typ) → all_seen vs ≡ ws → (length vs ≡ 2 → ⊥)
    → FitBy (roses_of ws) (more k (more x end)) → ⊥
no-entry ws vs k x e h f =
    h (two-parts vs None k x (subst (λ us. FitBy (roses_of us) (more k (more x end))) (sym e) f)).0

pub ruleset decreasing = (size-at, seen-length, seen-at, count-roses_of, each-at, each-more, by-length, by-at, by-more, two-fit, two-parts, member-at, member-nowhere, no-entry)
