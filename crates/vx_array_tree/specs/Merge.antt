-- The variant of a typed value that stands over another variant, which keeps what the typed one leaves out.
use Rattle.std.specs.Prelude.{ℕ, List, [], ◌∷◌, ◌++◌, Option, Some, None, Bool, true, false, bytes_eq, if◌then◌else◌}
use Rattle.vx_trees.specs.Rose.{Roses, node, end, more}
use Rattle.vx_types.specs.Kind.{Kind, list, fixed_size_list, structure, variant as variant_kind}
use Rattle.vx_types.specs.Typ.{Typ}
use Rattle.vx_types.specs.declared.nullability.Nullability.TheVariants.{NonNullable}
use Rattle.vx_types.specs.Value.{Value, Values, null, tuple, variant, variant_of, lone}

-- A name with what stands under it.
abbrev pub Named : Type 0
Named = List ℕ × Value

-- The type of variants that are not null.
abbrev pub variants : Typ
variants = node (variant_kind NonNullable) end

-- A value as one of type Variant: one that is a variant already stays; a null of that type is wrapped.
abbrev pub wrapped : Typ → Value → Value
wrapped (node (variant_kind m) ts) (node null vs) = variant_of (node (variant_kind m) ts) (node null vs)
wrapped (node (variant_kind m) ts) v = v
wrapped d v = variant_of d v

-- Each of the values so.
abbrev pub each_wrapped : Typ → Values → Values
each_wrapped d end = end
each_wrapped d (more v vs) = more (wrapped d v) (each_wrapped d vs)

-- A struct that is not null: its fields' names, types and values.
pub record Raw : Type 0 where
  pub names : List (List ℕ)
  pub types : Roses Kind
  pub values : Values

-- The struct that a value of a type is.
abbrev pub structure_in : Typ → Value → Option Raw
structure_in (node (structure ns m) ts) (node tuple vs) = Some (record { names = ns; types = ts; values = vs })
structure_in _ _ = None

-- The struct that a value is, itself or inside a variant. The type tells which of the two: an extension over Variant
-- is no variant here.
abbrev pub raw_structure : Typ → Value → Option Raw
raw_structure (node (variant_kind m) ts) (node (variant e) (more v vs)) = structure_in e v
raw_structure d v = structure_in d v

-- The first field of a name, its type and its value.
abbrev pub raw_field : List ℕ → List (List ℕ) → Roses Kind → Values → Option (Typ × Value)
raw_field name [] ts vs = None
raw_field name (n ∷ ns) (more t ts) (more v vs) = if bytes_eq name n then Some (t, v) else raw_field name ns ts vs
raw_field name (n ∷ ns) _ _ = None

-- The struct in the first field of a name.
abbrev pub structure_at : List ℕ → Raw → Option Raw
structure_at name raw = elim (raw_field name raw.names raw.types raw.values) [ None ↦ None | Some f ↦ raw_structure f.0 f.1 ]

-- What stands first under a name, in a list where something may be missing.
abbrev pub first_named : List ℕ → List (List ℕ × Option Value) → Option Value
first_named name [] = None
first_named name (x ∷ xs) = if bytes_eq name x.0 then x.1 else first_named name xs

-- A name with what it has, where it has something.
abbrev pub kept : List ℕ → Option Value → List Named
kept name None = []
kept name (Some v) = (name, v) ∷ []

-- Each of these names, in order, with what stands first under it.
abbrev pub given : List (List ℕ × Option Value) → List (List ℕ × Option Value) → List Named
given all [] = []
given all (x ∷ xs) = kept x.0 (first_named x.0 all) ++ given all xs

-- Whether something stands under a name.
abbrev pub is_named : List ℕ → List Named → Bool
is_named name [] = false
is_named name (x ∷ xs) = if bytes_eq name x.0 then true else is_named name xs

-- A field of a raw struct, as a variant; none where it is null.
abbrev pub raw_value : Option (Typ × Value) → Option Value
raw_value None = None
raw_value (Some (d, node null vs)) = None
raw_value (Some (d, v)) = Some (wrapped d v)

-- The fields of a raw struct whose names are not given yet.
abbrev pub others : List Named → Raw → List (List ℕ) → List Named
others has raw [] = []
others has raw (n ∷ ns) =
    (if is_named n has then [] else kept n (raw_value (raw_field n raw.names raw.types raw.values))) ++ others has raw ns

-- The names.
abbrev pub names_of : List Named → List (List ℕ)
names_of [] = []
names_of (x ∷ xs) = x.0 ∷ names_of xs

-- A type of variants for each.
abbrev pub types_of : List Named → Roses Kind
types_of [] = end
types_of (x ∷ xs) = more variants (types_of xs)

-- What stands under them.
abbrev pub values_of : List Named → Values
values_of [] = end
values_of (x ∷ xs) = more x.1 (values_of xs)

-- A variant of a struct of variants, none of which, nor the struct, may be null.
abbrev pub structure_of : List Named → Value
structure_of fs = variant_of (node (structure (names_of fs) NonNullable) (types_of fs)) (node tuple (values_of fs))

-- The fields that are given, and then those of the raw struct that are not.
abbrev pub joined : List (List ℕ × Option Value) → Raw → Value
joined fs raw = let has = given fs fs in structure_of (has ++ others has raw raw.names)

-- A tuple over a raw struct: where it is a struct's, the two merged; else it is wrapped.
abbrev pub over : Typ → Option Raw → Value → (List (List ℕ) → Roses Kind → Raw → List (List ℕ × Option Value)) → Value
over (node (structure ns m) ts) (Some raw) v fields = joined (fields ns ts raw) raw
over d _ v fields = wrapped d v

abbrev mutual
  -- A value of a type over a raw struct, as a variant; none where it is null.
  pub merged : Value → Typ → Option Raw → Option Value
  merged (node null vs) d raw = None
  merged (node tuple vs) d raw = Some (over d raw (node tuple vs) (λ ns ts r. merged_fields vs ns ts r))
  merged (node m vs) d raw = Some (wrapped d (node m vs))

  -- Each field of a struct over what a raw struct has under its name.
  pub merged_fields : Values → List (List ℕ) → Roses Kind → Raw → List (List ℕ × Option Value)
  merged_fields end ns ts raw = []
  merged_fields (more v vs) ns ts raw =
      elim ns [ [] ↦ [] | n ∷ ms ↦ elim ts [ end ↦ [] | more d ds ↦ (n, merged v d (structure_at n raw)) ∷ merged_fields vs ms ds raw ] ]

-- The struct that a variant holds, if any.
abbrev pub fallback_structure : Option Value → Option Raw
fallback_structure None = None
fallback_structure (Some v) = raw_structure variants v

-- A variant that is there, or null.
abbrev pub or_null : Option Value → Value
or_null None = lone null
or_null (Some v) = v

-- A list as a variant of a list of variants.
abbrev pub variant_list : Typ → Values → Value
variant_list e vs = variant_of (node (list NonNullable) (more variants end)) (node tuple (each_wrapped e vs))

-- A typed value over a fallback, which is a variant or none: null leaves the fallback; a list's elements are wrapped;
-- a variant is itself; a struct is merged with the fallback's; any other is wrapped.
abbrev pub merge : Typ → Value → Option Value → Value
merge d (node null vs) fallback = or_null fallback
merge (node (list m) (more e end)) (node tuple vs) fallback = variant_list e vs
merge (node (fixed_size_list s m) (more e end)) (node tuple vs) fallback = variant_list e vs
merge d v fallback = or_null (merged v d (fallback_structure fallback))
