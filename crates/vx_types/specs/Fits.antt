-- When a value is one of a type.
use Rattle.std.specs.Prelude.{ℕ, ◌≡◌, List, [], ◌∷◌, Option, Some, None, ◌==◌, if◌then◌else◌}
use Rattle.vx_trees.specs.Rose.{Rose, Roses, node, end, more, count}
use Rattle.vx_types.specs.Kind.{Kind, null as null_kind, boolean, primitive, decimal as decimal_kind, utf8 as utf8_kind, binary as binary_kind, list, fixed_size_list, structure, union as union_kind, map, variant as variant_kind, extension}
use Rattle.vx_types.specs.Typ.{Typ}
use Rattle.vx_types.specs.Words.{nullability, entries}
use Rattle.vx_numbers.specs.Numbers.{kind_of}
use Rattle.vx_numbers.specs.declared.ptype.PType.{PType}
use Rattle.vx_types.specs.declared.nullability.Nullability.TheVariants.{Nullable}
use Rattle.vx_types.specs.Value.{Value, Values, null, opaque, bool, number, decimal, utf8, binary, tuple, union, variant}

abbrev mutual
  -- The storage type of an extension, through extensions of extensions; other types are themselves.
  pub bare : Typ → Typ
  bare (node (extension id bs) ts) = bare_first ts
  bare (node k ts) = node k ts

  -- The same for the first of these types.
  pub bare_first : Roses Kind → Typ
  bare_first end = node null_kind end
  bare_first (more t ts) = bare t

-- The member of the first equal tag, in a list beside that of the tags.
abbrev pub member : {A : Type 0} → ℕ → List ℕ → Roses A → Option (Rose A)
member tag [] ts = None
member tag (id ∷ ids) end = None
member tag (id ∷ ids) (more t ts) = if tag == id then Some t else member tag ids ts

-- A type of flags.
abbrev pub IsBoolean : Typ → Type 0
IsBoolean (node (boolean m) ts) = Unit {0}
IsBoolean _ = ⊥

-- A type of numbers of a kind.
abbrev pub IsOf : PType → Typ → Type 0
IsOf p (node (primitive q m) ts) = p ≡ q
IsOf p _ = ⊥

-- A type of decimals.
abbrev pub IsDecimal : Typ → Type 0
IsDecimal (node (decimal_kind p s m) ts) = Unit {0}
IsDecimal _ = ⊥

-- A type of texts.
abbrev pub IsUtf8 : Typ → Type 0
IsUtf8 (node (utf8_kind m) ts) = Unit {0}
IsUtf8 _ = ⊥

-- A type of bytes.
abbrev pub IsBinary : Typ → Type 0
IsBinary (node (binary_kind m) ts) = Unit {0}
IsBinary _ = ⊥

-- A type of variants.
abbrev pub IsVariant : Typ → Type 0
IsVariant (node (variant_kind m) ts) = Unit {0}
IsVariant _ = ⊥

-- The k parts of a tuple fit a type: each fits the element type of a list, and there are as many as a
-- fixed-size list has; each fits its field of a structure; each fits the entry type of a map.
abbrev pub FitParts : ℕ → (Typ → Type 0) → (Roses Kind → Type 0) → Typ → Type 0
FitParts k Each By (node (list m) (more e end)) = Each e
FitParts k Each By (node (fixed_size_list s m) (more e end)) = (k ≡ s) × Each e
FitParts k Each By (node (structure ns m) ts) = By ts
FitParts k Each By (node (map b m) (more x (more y end))) = Each (entries (record { key = x; value = y; keys_sorted = b }))
FitParts k Each By _ = ⊥

-- The one value of a union fits the member that its tag names.
abbrev pub FitsMember : ℕ → (Roses Kind → Type 0) → Typ → Type 0
FitsMember tag By (node (union_kind ns ids m) ts) = (d : Typ) × (member tag ids ts ≡ Some d) × By (more d end)
FitsMember tag By _ = ⊥

abbrev mutual
  -- A value fits a type: a null fits a nullable type, and any other value the bare type. An opaque value fits no
  -- type. A mark that takes no values within it has none.
  pub Fits : Value → Typ → Type 0
  Fits (node null vs) d = (nullability d ≡ Nullable) × (vs ≡ end)
  Fits (node opaque vs) d = ⊥
  Fits (node (bool b) vs) d = IsBoolean (bare d) × (vs ≡ end)
  Fits (node (number n) vs) d = IsOf (kind_of n) (bare d) × (vs ≡ end)
  Fits (node (decimal x) vs) d = IsDecimal (bare d) × (vs ≡ end)
  Fits (node (utf8 bs) vs) d = IsUtf8 (bare d) × (vs ≡ end)
  Fits (node (binary bs) vs) d = IsBinary (bare d) × (vs ≡ end)
  Fits (node tuple vs) d = FitParts (count vs) (λ e. EachFits vs e) (λ ts. FitBy vs ts) (bare d)
  Fits (node (union tag) vs) d = FitsMember tag (λ ts. FitBy vs ts) (bare d)
  Fits (node (variant e) vs) d = IsVariant (bare d) × FitBy vs (more e end)

  -- Each of the values fits the type.
  pub EachFits : Values → Typ → Type 0
  EachFits end e = Unit {0}
  EachFits (more v vs) e = Fits v e × EachFits vs e

  -- There are as many values as types, and each fits the type at its index.
  pub FitBy : Values → Roses Kind → Type 0
  FitBy end ts = ts ≡ end
  FitBy (more v vs) ts = elim ts [ end ↦ ⊥ | more d ds ↦ Fits v d × FitBy vs ds ]
