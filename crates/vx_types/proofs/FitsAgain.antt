-- A value that fits a type fits its nullable form; one that fits the storage fits the extension; one that fits the
-- list of a map's entries fits the map.
use Rattle.std.proofs.Common.{ℕ, ◌≡◌, List, Bool, refl, sym, subst}
use Rattle.vx_trees.specs.Rose.{Roses, node, end, more, count}
use Rattle.vx_types.specs.Fits.{Fits, FitParts, FitsMember, EachFits, FitBy, IsBoolean, IsOf, IsDecimal, IsUtf8, IsBinary, IsVariant, bare, bare_first}
use Rattle.vx_types.specs.Kind as K
use Rattle.vx_types.specs.Kind.{Kind}
use Rattle.vx_numbers.specs.Numbers.{kind_of}
use Rattle.vx_types.specs.Typ.{Typ}
use Rattle.vx_types.specs.Value.{Value, null, opaque, bool, number, decimal, utf8, binary, tuple, union, variant}
use Rattle.vx_types.specs.Words.{with_nullability, with_first_nullability, entries}
use Rattle.vx_types.specs.declared.nullability.Nullability.{Nullability}
use Rattle.vx_types.specs.declared.nullability.Nullability.TheVariants.{Nullable}
use Rattle.vx_numbers.specs.declared.ptype.PType.{PType}
use Rattle.vx_types.proofs.Nullabilities.{nullable_under}

-- ---- the bare type, under another nullability

mutual
  pub bare_under : (m : Nullability) (d : Typ) → bare (with_nullability m d) ≡ with_nullability m (bare d)
  bare_under m (node (K.extension id ys) ts) = bare_first_under m ts
  bare_under m _ = refl

  bare_first_under : (m : Nullability) (ts : Roses Kind) → bare_first (with_first_nullability m ts) ≡ with_nullability m (bare_first ts)
  bare_first_under m end = refl
  bare_first_under m (more t ts) = bare_under m t

-- Facts that nullability does not change.
under : (P : Typ → Type 0) (m : Nullability) (d : Typ) → (P (bare d) → P (with_nullability m (bare d))) → P (bare d) → P (bare (with_nullability m d))
under P m d f p = subst P (sym (bare_under m d)) (f p)

boolean_under : (m : Nullability) (d : Typ) → IsBoolean d → IsBoolean (with_nullability m d)
boolean_under m (node (K.boolean x) ts) f = f
boolean_under m _ f = absurd f

of_under : (q : PType) (m : Nullability) (d : Typ) → IsOf q d → IsOf q (with_nullability m d)
of_under q m (node (K.primitive p x) ts) f = f
of_under q m _ f = absurd f

decimal_under : (m : Nullability) (d : Typ) → IsDecimal d → IsDecimal (with_nullability m d)
decimal_under m (node (K.decimal p z x) ts) f = f
decimal_under m _ f = absurd f

utf8_under : (m : Nullability) (d : Typ) → IsUtf8 d → IsUtf8 (with_nullability m d)
utf8_under m (node (K.utf8 x) ts) f = f
utf8_under m _ f = absurd f

binary_under : (m : Nullability) (d : Typ) → IsBinary d → IsBinary (with_nullability m d)
binary_under m (node (K.binary x) ts) f = f
binary_under m _ f = absurd f

pub variant_under : (m : Nullability) (d : Typ) → IsVariant d → IsVariant (with_nullability m d)
variant_under m (node (K.variant x) ts) f = f
variant_under m _ f = absurd f

parts_under : (k : ℕ) (A : Typ → Type 0) (B : Roses Kind → Type 0) (m : Nullability) (d : Typ) → FitParts k A B d → FitParts k A B (with_nullability m d)
parts_under k A B m (node (K.list x) (more e end)) f = f
parts_under k A B m (node (K.fixed_size_list w x) (more e end)) f = f
parts_under k A B m (node (K.structure ns x) ts) f = f
parts_under k A B m (node (K.map b x) (more e (more g end))) f = f
parts_under k A B m _ f = absurd f

member_under : (k : ℕ) (B : Roses Kind → Type 0) (m : Nullability) (d : Typ) → FitsMember k B d → FitsMember k B (with_nullability m d)
member_under k B m (node (K.union ns ids x) ts) f = f
member_under k B m _ f = absurd f

-- ---- values

-- What fits a type fits its nullable form.
pub fits_nullable : (v : Value) (d : Typ) → Fits v d → Fits v (with_nullability Nullable d)
fits_nullable (node null vs) d f = (nullable_under d, f.1)
fits_nullable (node opaque vs) d f = f
fits_nullable (node (bool b) vs) d f = (under IsBoolean Nullable d (boolean_under Nullable (bare d)) f.0, f.1)
fits_nullable (node (number n) vs) d f = (under (λ z. IsOf (kind_of n) z) Nullable d (of_under (kind_of n) Nullable (bare d)) f.0, f.1)
fits_nullable (node (decimal x) vs) d f = (under IsDecimal Nullable d (decimal_under Nullable (bare d)) f.0, f.1)
fits_nullable (node (utf8 bs) vs) d f = (under IsUtf8 Nullable d (utf8_under Nullable (bare d)) f.0, f.1)
fits_nullable (node (binary bs) vs) d f = (under IsBinary Nullable d (binary_under Nullable (bare d)) f.0, f.1)
fits_nullable (node tuple vs) d f =
    let Parts : Typ → Type 0 = λ (z : Typ). FitParts (count vs) (λ e. EachFits vs e) (λ ts. FitBy vs ts) z in
    under Parts Nullable d (parts_under (count vs) (λ e. EachFits vs e) (λ ts. FitBy vs ts) Nullable (bare d)) f
fits_nullable (node (union g) vs) d f =
    let Member : Typ → Type 0 = λ (z : Typ). FitsMember g (λ ts. FitBy vs ts) z in
    under Member Nullable d (member_under g (λ ts. FitBy vs ts) Nullable (bare d)) f
fits_nullable (node (variant e) vs) d f = (under IsVariant Nullable d (variant_under Nullable (bare d)) f.0, f.1)

-- What fits the storage fits the extension.
pub fits_extension : (id ys : List ℕ) (t : Typ) (v : Value) → Fits v t → Fits v (node (K.extension id ys) (more t end))
fits_extension id ys t (node null vs) f = f
fits_extension id ys t _ f = f

-- What fits the list of its entries fits the map.
pub fits_map : (b : Bool) (m : Nullability) (x y : Typ) (v : Value) → Fits v (node (K.list m) (more (entries (record { key = x; value = y; keys_sorted = b })) end)) → Fits v (node (K.map b m) (more x (more y end)))
fits_map b m x y (node null vs) f = f
fits_map b m x y _ f = f
