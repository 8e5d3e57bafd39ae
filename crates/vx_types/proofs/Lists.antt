-- Lists of types and of their trees, element by element.
use Rattle.std.specs.Prelude.{ℕ, ◌+◌, ◌<◌, ◌≡◌, List, [], ◌∷◌, ◌++◌, length, take, max}
use Rattle.std.proofs.Common.{arith, get_or, ap, ◌∙◌}
use Rattle.std.proofs.lemmas.List.{length-map, map-append}
use Rattle.vx_trees.specs.Rose.{roses_of}
use Rattle.vx_trees.specs.Walks.{levels, levels_below}
use Rattle.vx_trees.proofs.LawsOfMapped.{mapped-at, mapped-more, mapped-same, mapped-nodes, roses_of-injective}
use Rattle.vx_types.specs.Parts.{typ_size, slice_size}
use Rattle.vx_types.specs.Seen.{typ, typs}
use Rattle.vx_types.specs.declared.dtype.DType.{DType}

pub typs-length : (ds : List DType) → length (typs ds) ≡ length ds
typs-length ds = length-map ds typ

pub typs-at : (ds : List DType) (i : ℕ) (d : DType) → get_or (typs ds) i (typ d) ≡ typ (get_or ds i d)
typs-at ds i d = mapped-at typ ds i d

pub typs-push : (ds : List DType) (d : DType) → typs (ds ++ d ∷ []) ≡ typs ds ++ typ d ∷ []
typs-push ds d = map-append typ ds (d ∷ [])

-- An element is smaller than the list.
pub size-at : (ds : List DType) (i : ℕ) (d : DType) → i < length ds → typ_size (typ (get_or ds i d)) < slice_size (typs ds)
size-at ds i d h = omega (arith, mapped-nodes typ ds i d h)

-- Lists that agree below index i and at i agree below i + 1.
pub same-more : (ds es : List DType) (i : ℕ) (d e : DType) → i < length ds → i < length es → typs (take i ds) ≡ typs (take i es)
    → typ (get_or ds i d) ≡ typ (get_or es i e) → typs (take (i + 1) ds) ≡ typs (take (i + 1) es)
same-more ds es i d e h k p q = mapped-more typ ds es i d e h k p q

pub same-at : (ds es : List DType) (i : ℕ) (d e : DType) → i < length ds → i < length es → typs ds ≡ typs es → typ (get_or ds i d) ≡ typ (get_or es i e)
same-at ds es i d e h k p = mapped-same typ ds es i d e h k p

typs-levels_more : (ds : List DType) (d : DType) → levels_below (roses_of (typs (ds ++ d ∷ []))) ≡ max (levels_below (roses_of (typs ds))) (levels (typ d))
typs-levels_more [] d = omega arith
typs-levels_more (x ∷ ds) d = omega (arith, typs-levels_more ds d)

-- The depth of a list with one more type at the end.
pub typs-levels_push : (ds es : List DType) (d : DType) → es ≡ ds ++ d ∷ [] → levels_below (roses_of (typs es)) ≡ max (levels_below (roses_of (typs ds))) (levels (typ d))
typs-levels_push ds es d e = ap (λ (xs : List DType). levels_below (roses_of (typs xs))) e ∙ typs-levels_more ds d

-- For loops over lists of types.
pub ruleset decreasing = (size-at, roses_of-injective, typs-length, typs-at, same-more, same-at)
