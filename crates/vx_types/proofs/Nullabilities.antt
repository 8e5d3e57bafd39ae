-- Types under another nullability.
use Rattle.std.proofs.Common.{◌≡◌, refl, sym, ap, ◌∙◌}
use Rattle.vx_trees.specs.Rose.{Roses, node, end, more}
use Rattle.vx_types.specs.Kind as K
use Rattle.vx_types.specs.Kind.{Kind}
use Rattle.vx_types.specs.Typ.{Typ}
use Rattle.vx_types.specs.Words.{nullability, first_nullability, with_nullability, with_first_nullability}
use Rattle.vx_types.specs.declared.nullability.Nullability.{Nullability}
use Rattle.vx_types.specs.declared.nullability.Nullability.TheVariants.{Nullable}

-- A type under its own nullability is itself.
mutual
  pub own_nullability : (d : Typ) → with_nullability (nullability d) d ≡ d
  own_nullability (node (K.extension id bs) ts) = ap (λ r. node (K.extension id bs) r) (own_first ts)
  own_nullability _ = refl

  own_first : (ts : Roses Kind) → with_first_nullability (first_nullability ts) ts ≡ ts
  own_first end = refl
  own_first (more t ts) = ap (λ r. more r ts) (own_nullability t)

-- The last of two changes counts.
mutual
  pub twice_nullability : (m n : Nullability) (d : Typ) → with_nullability m (with_nullability n d) ≡ with_nullability m d
  twice_nullability m n (node (K.extension id bs) ts) = ap (λ r. node (K.extension id bs) r) (twice_first m n ts)
  twice_nullability m n _ = refl

  twice_first : (m n : Nullability) (ts : Roses Kind) → with_first_nullability m (with_first_nullability n ts) ≡ with_first_nullability m ts
  twice_first m n end = refl
  twice_first m n (more t ts) = ap (λ r. more r ts) (twice_nullability m n t)

-- A type under a nullability that it has.
pub same_nullability : (m : Nullability) (d : Typ) → nullability d ≡ m → with_nullability m d ≡ d
same_nullability m d e = ap (λ n. with_nullability n d) (sym e) ∙ own_nullability d

-- A type made nullable is nullable.
mutual
  pub nullable_under : (d : Typ) → nullability (with_nullability Nullable d) ≡ Nullable
  nullable_under (node (K.extension id bs) ts) = nullable_first ts
  nullable_under _ = refl

  nullable_first : (ts : Roses Kind) → first_nullability (with_first_nullability Nullable ts) ≡ Nullable
  nullable_first end = refl
  nullable_first (more t ts) = nullable_under t
