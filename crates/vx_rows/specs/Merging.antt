-- The merge of a typed value over a fallback, in the words of its code: structs that are borrowed, and the fields
-- that are gathered of them.
use Rattle.std.specs.Prelude.{ℕ, ◌≡◌, List, [], ◌∷◌, ◌++◌, Option, Some, None, length}
use Rattle.vx_trees.specs.Rose.{node, count, roses_of}
use Rattle.vx_types.specs.Fits.{FitBy}
use Rattle.vx_types.specs.Kind.{structure}
use Rattle.vx_types.specs.Typ.{Typ}
use Rattle.vx_types.specs.Value.{Value, null, tuple, lone, variant_of}
use Rattle.vx_types.specs.Words.{nullability}
use Rattle.vx_types.specs.declared.nullability.Nullability.TheVariants.{NonNullable}
use Rattle.vx_scalars.specs.Told.{Typed}
use Rattle.vx_array_tree.specs.Merge.{Named, Raw, joined, kept, merged, merged_fields, names_of, raw_field, structure_at, types_of, values_of, wrapped}
use Rattle.vx_rows.specs.declared.error.ArrayError.{ArrayError}
use Rattle.vx_rows.specs.declared.error.ArrayError.TheVariants.{OutOfMemory, BadCast}
use Rattle.vx_rows.specs.declared.merging.Structure.{Structure}
use Rattle.vx_rows.specs.declared.named_variants.NamedVariants.{NamedVariants}

-- A struct that is borrowed.
abbrev pub raw_of : Structure → Raw
raw_of s = record { names = s.fields.now.names; types = roses_of s.fields.now.types; values = roses_of s.values.now }

-- A struct has a name for each type, and its values fit its types.
pub record IsStructured (r : Raw) : Type 0 where
  pub named : length r.names ≡ count r.types
  pub fits : FitBy r.values r.types

-- A fallback that holds a struct: a variant of it.
abbrev pub fallback_of : Option Raw → Option Value
fallback_of None = None
fallback_of (Some r) = Some (variant_of (node (structure r.names NonNullable) r.types) (node tuple r.values))

-- The value of a fallback, if any.
abbrev pub fallback_value : Option Typed → Option Value
fallback_value None = None
fallback_value (Some s) = Some s.value

-- A field that is not null.
abbrev pub not_null : Option (Typ × Value) → Option (Typ × Value)
not_null None = None
not_null (Some (d, node null vs)) = None
not_null (Some (d, v)) = Some (d, v)

-- Names, types of variants and variants are those of fields, in their order.
pub record AreNamed (n : NamedVariants) (fs : List Named) : Type 0 where
  pub names : n.names ≡ names_of fs
  pub types : roses_of n.types ≡ types_of fs
  pub values : roses_of n.values ≡ values_of fs

-- A typed field, if any, over what a raw struct has under its name.
abbrev pub merged_at : List ℕ → Raw → Option (Typ × Value) → Option Value
merged_at name r None = None
merged_at name r (Some f) = merged f.1 f.0 (structure_at name r)

-- What stands under a name of a struct over a raw one: none, where it has no such field, or that is null.
abbrev pub given_at : Raw → Raw → List ℕ → Option Value
given_at t r name = merged_at name r (raw_field name t.names t.types t.values)

-- A field of a raw struct, as a variant, where a typed one does not give its name.
abbrev pub left_over : Option (Typ × Value) → Option (Typ × Value) → Option Value
left_over (Some f) o = None
left_over None None = None
left_over None (Some f) = Some (wrapped f.0 f.1)

-- What stands under a name of a raw struct that the typed one does not give.
abbrev pub other_at : Raw → Raw → List ℕ → Option Value
other_at t r name = left_over (not_null (raw_field name t.names t.types t.values)) (not_null (raw_field name r.names r.types r.values))

-- These names in their order, each with what stands under it, where something does.
abbrev pub listed : (List ℕ → Option Value) → List (List ℕ) → List Named
listed f [] = []
listed f (n ∷ ns) = kept n (f n) ++ listed f ns

-- Two structs merged.
abbrev pub merged_structures : Raw → Raw → Value
merged_structures t r = joined (merged_fields t.values t.names t.types r) r

-- A merge is refused for allocation failure, or where it is null and of a type without nulls.
abbrev pub RefusesMerge : ArrayError → Typ → Value → Type 0
RefusesMerge OutOfMemory d v = Unit {0}
RefusesMerge BadCast d v = (v ≡ lone null) × (nullability d ≡ NonNullable)
RefusesMerge _ d v = ⊥
