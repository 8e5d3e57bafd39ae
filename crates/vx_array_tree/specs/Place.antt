-- Where the children of a node are to stand.
use Rattle.std.specs.Prelude.{ℕ, zero, suc, ◌≡◌, ◌^◌, nat_lt, List, [], ◌∷◌, Bool, true, false, Option, Some, None, option_map, refl}
use Rattle.std.specs.Coded.{Coded, code_by, coded×, coded_ℕ, coded_list}
use Rattle.vx_trees.specs.Rose.{Roses, node, end, more}
use Rattle.vx_types.specs.Kind.{Kind, boolean, primitive}
use Rattle.vx_types.specs.Typ.{Typ, typ_code}
use Rattle.vx_types.specs.Words.{nullability}
use Rattle.vx_numbers.specs.declared.ptype.PType.{PType}
use Rattle.vx_numbers.specs.declared.ptype.PType.TheVariants.{U8}
use Rattle.vx_types.specs.declared.nullability.Nullability.TheVariants.{NonNullable, Nullable}

-- A child's place: the type and the number of rows that it has.
pub record Place : Type 0 where
  pub dtype : Typ
  pub len : ℕ

-- The code by which lists of places are told apart.
abbrev pub places_code : Coded (List Place)
places_code = coded_list (code_by (Typ × ℕ) (coded× typ_code coded_ℕ) (λ p. (p.dtype, p.len)) (λ p. record { dtype = p.0; len = p.1 }) (λ _. refl))

-- The place of a type and a length.
abbrev pub place : Typ → ℕ → Place
place d n = record { dtype = d; len = n }

-- Numbers of a kind, not null.
abbrev pub numbers : PType → Typ
numbers p = node (primitive p NonNullable) end

-- A validity child says of each of n rows whether it is valid: true or false, and never null.
abbrev pub validity_place : ℕ → Place
validity_place n = place (node (boolean NonNullable) end) n

-- A length that an index of 64 bits can count.
abbrev pub is_len : ℕ → Bool
is_len n = nat_lt n (2 ^ 64)

-- What a test lets through: nothing where it says no.
abbrev pub when : {A : Type 0} → Bool → Option A → Option A
when true x = x
when false x = None

-- These places, for as many children, and for no other number of them.
abbrev pub exactly : List Place → ℕ → Option (List Place)
exactly [] zero = Some []
exactly [] (suc k) = None
exactly (p ∷ ps) zero = None
exactly (p ∷ ps) (suc k) = option_map (λ qs. p ∷ qs) (exactly ps k)

-- These places and then, where one child more stands, that of a validity of n rows.
abbrev pub before_validity : List Place → ℕ → ℕ → Option (List Place)
before_validity [] n zero = Some []
before_validity [] n (suc zero) = Some (validity_place n ∷ [])
before_validity [] n (suc (suc k)) = None
before_validity (p ∷ ps) n zero = None
before_validity (p ∷ ps) n (suc k) = option_map (λ qs. p ∷ qs) (before_validity ps n k)

-- These places after that of a validity of n rows, which stands where there is one child more.
abbrev pub after_validity : List Place → ℕ → ℕ → Option (List Place)
after_validity ps n k = elim (exactly ps k) [ Some qs ↦ Some qs | None ↦ exactly (validity_place n ∷ ps) k ]

-- A place for each of the types, at n rows.
abbrev pub places_at : Roses Kind → ℕ → List Place
places_at end n = []
places_at (more d ds) n = place d n ∷ places_at ds n

-- Beside m other children a node of this type may have a validity only where its rows may be null.
abbrev pub AllowsValidity : Typ → ℕ → ℕ → Type 0
AllowsValidity d m k = k ≡ suc m → nullability d ≡ Nullable

-- A place that stands for one that is missing; which it is does not matter.
abbrev pub no_place : Place
no_place = place (numbers U8) 0

-- The first of a list of places.
abbrev pub first_place : List Place → Place
first_place [] = no_place
first_place (p ∷ ps) = p

-- The second of them.
abbrev pub second_place : List Place → Place
second_place [] = no_place
second_place (p ∷ ps) = first_place ps

-- The third of them.
abbrev pub third_place : List Place → Place
third_place [] = no_place
third_place (p ∷ ps) = second_place ps

-- The kind of numbers that a type is of. (Which it is of any other type does not matter.)
abbrev pub ptype_of : Typ → PType
ptype_of (node (primitive p m) ts) = p
ptype_of _ = U8
