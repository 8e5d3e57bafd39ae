-- Dictionaries: rows are named by codes among values.
use Rattle.std.specs.Prelude.{ℕ, ◌≡◌, ◌<◌, List, [], ◌∷◌, Option, Some, None, Bool, true, false, codes, IsTrue, refl, ◌==◌}
use Rattle.std.specs.Coded.{Coded, code_by, coded_bool}
use Rattle.vx_trees.specs.Rose.{node, end}
use Rattle.vx_types.specs.Kind.{primitive}
use Rattle.vx_numbers.specs.Numbers.{is_integer}
use Rattle.vx_types.specs.Typ.{Typ}
use Rattle.vx_types.specs.Words.{nullability, with_nullability}
use Rattle.vx_numbers.specs.declared.ptype.PType.{PType}
use Rattle.vx_types.specs.declared.nullability.Nullability.{Nullability}
use Rattle.vx_types.specs.declared.nullability.Nullability.TheVariants.{Nullable, NonNullable}
use Rattle.vx_array_tree.specs.Place.{Place, place, exactly, first_place, second_place, ptype_of}
use Rattle.vx_array_tree.specs.Rows.{Rows, first, second, index_at, IsIndex, IsThere, cells_where, where_valid}

-- The identifier is "vortex.dict".
abbrev pub id : List ℕ
id = codes "vortex.dict"

-- A node holds a flag, which is kept as given: that some code names each of the values.
pub record Data : Type 0 where
  pub all_values_referenced : Bool

-- The code by which what nodes hold is told apart.
abbrev pub data_code : Coded Data
data_code = code_by Bool coded_bool (λ x. x.all_values_referenced) (λ b. record { all_values_referenced = b }) (λ _. refl)

-- The metadata is how many values there are, the kind of the codes, whether they may be null, and the flag.
pub record Metadata : Type 0 where
  pub values_len : ℕ
  pub codes_ptype : PType
  pub nullable_codes : Nullability
  pub all_values_referenced : Bool

-- The metadata of a node that holds this, over children at these places.
abbrev pub metadata_of : Data → List Place → Metadata
metadata_of x ps = record {
  values_len = (second_place ps).len;
  codes_ptype = ptype_of (first_place ps).dtype;
  nullable_codes = nullability (first_place ps).dtype;
  all_values_referenced = x.all_values_referenced;
}

-- Codes are integers.
abbrev pub IsFair : Metadata → Type 0
IsFair v = IsTrue (is_integer v.codes_ptype)

-- What a node of this metadata holds.
abbrev pub body_of : Metadata → Data
body_of v = record { all_values_referenced = v.all_values_referenced }

-- A node is of any type, and has a code for each row and the values, which are of its own type.
abbrev pub plan : Typ → ℕ → Metadata → ℕ → Option (List Place)
plan d n v k = exactly (place (node (primitive v.codes_ptype v.nullable_codes) end) n ∷ place d v.values_len ∷ []) k

-- The codes alone are control children.
abbrev pub is_control : ℕ → Bool
is_control i = i == 0

-- Codes may be null only where the rows may.
abbrev pub Allows : Typ → Metadata → Type 0
Allows d v = v.nullable_codes ≡ Nullable → nullability d ≡ Nullable

-- A type that is also nullable where the given nullability is.
abbrev pub raised : Nullability → Typ → Typ
raised Nullable d = with_nullability Nullable d
raised NonNullable d = d

-- The children's places, with the nullability that codes bring to the values' type: values need not be
-- nullable where codes are.
abbrev pub lifted : List Place → List Place
lifted (c ∷ v ∷ ps) = c ∷ place (raised (nullability c.dtype) v.dtype) v.len ∷ ps
lifted ps = ps

-- A node is normal where its values have its own type.
abbrev pub IsNormal : Typ → List Place → Type 0
IsNormal d (c ∷ v ∷ ps) = v.dtype ≡ d
IsNormal d _ = Unit {0}

-- A row's code names one of the values.
pub record IsCode (rs : List Rows) (i : ℕ) : Type 0 where
  pub natural : IsIndex (first rs) i
  pub within : index_at (first rs) i < (second rs).len

-- The codes are right where they are there.
abbrev pub Content : ℕ → List Rows → Type 0
Content n rs = (i : ℕ) → i < n → IsThere (first rs).valid i → IsCode rs i

-- A row is valid where its code and the value that this names are.
abbrev pub valid_by : Option Bool → (ℕ → Option Bool) → ℕ → Option Bool
valid_by (Some true) valid c = valid c
valid_by (Some false) valid c = Some false
valid_by None valid c = None

-- A row whose code is there is the value that this names.
abbrev pub rows : ℕ → List Rows → Rows
rows n rs = record {
  len = n;
  valid = λ i. valid_by ((first rs).valid i) (second rs).valid (index_at (first rs) i);
  row = λ i. where_valid ((first rs).valid i) (λ j. (second rs).row (index_at (first rs) j)) i;
  cells = λ i. cells_where ((first rs).valid i) (λ j. (second rs).cells (index_at (first rs) j)) i;
}
