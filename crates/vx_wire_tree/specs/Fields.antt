-- The messages of metadata as plain values: what their fields show.
use Rattle.std.specs.Prelude.{ℕ, ◌≤◌, ◌<◌, ◌-◌, ◌^◌, List, Bool, true, false, Option, Some, None, unwrap_or}
use Rattle.vx_trees.specs.Walks.{levels}
use Rattle.vx_types.specs.Typ.{Typ}
use Rattle.vx_types.specs.Words.{nullability}
use Rattle.vx_types.specs.declared.nullability.Nullability.{Nullability}
use Rattle.vx_types.specs.declared.nullability.Nullability.TheVariants.{Nullable, NonNullable}
use Rattle.vx_numbers.specs.declared.ptype.PType.{PType}
use Rattle.vx_numbers.specs.declared.decimal_type.DecimalType.{DecimalType}
use Rattle.vx_array_tree.specs.Metadata.{Metadata}
use Rattle.vx_array_tree.specs.Metadata as M

-- A dictionary's message: the number of values, the kind of the codes, and two flags, each of which may be absent.
pub record DictFields : Type 0 where
  pub values_len : ℕ
  pub codes_ptype : PType
  pub is_nullable_codes : Option Bool
  pub all_values_referenced : Option Bool

-- One message for each encoding that has metadata, and an empty one for the others; the metadata of a foreign node is
-- bytes, whatever they show. A type in a message is one that the message shows.
pub data Fields : Type 0 where
  empty : Fields
  bool : ℕ → Fields
  decimal : DecimalType → Fields
  varbin : PType → Fields
  list : ℕ → PType → Fields
  listview : ℕ → PType → PType → Fields
  variant : Option Typ → Fields
  dict : DictFields → Fields
  raw : List ℕ → Fields

-- A flag that says that rows may be null, as a nullability, and back.
abbrev pub nullable_if : Bool → Nullability
nullable_if true = Nullable
nullable_if false = NonNullable

abbrev pub is_nullable : Nullability → Bool
is_nullable Nullable = true
is_nullable NonNullable = false

-- Codes may be null as the flag says; where it is absent, as the type may.
abbrev pub codes_nullability : Typ → Option Bool → Nullability
codes_nullability d (Some b) = nullable_if b
codes_nullability d None = nullability d

-- What a message means as metadata of a node of a type. A dictionary's second flag is false where it is absent. A
-- foreign node's bytes have no meaning.
abbrev pub meant : Typ → Fields → Metadata
meant d empty = M.empty
meant d (raw bytes) = M.empty
meant d (bool offset) = M.bool offset
meant d (decimal w) = M.decimal w
meant d (varbin p) = M.varbin p
meant d (list n p) = M.list (record { elements_len = n; offset_ptype = p })
meant d (listview n p q) = M.listview (record { elements_len = n; offset_ptype = p; size_ptype = q })
meant d (variant e) = M.variant e
meant d (dict f) = M.dict (record {
  values_len = f.values_len;
  codes_ptype = f.codes_ptype;
  nullable_codes = codes_nullability d f.is_nullable_codes;
  all_values_referenced = unwrap_or f.all_values_referenced false;
})

-- The message that is written of metadata. A dictionary's has both flags. A foreign node's bytes are written unchanged.
abbrev pub told : Metadata → Fields
told M.empty = empty
told (M.bool offset) = bool offset
told (M.decimal w) = decimal w
told (M.varbin p) = varbin p
told (M.list v) = list v.elements_len v.offset_ptype
told (M.listview v) = listview v.elements_len v.offset_ptype v.size_ptype
told (M.variant e) = variant e
told (M.dict v) = dict (record {
  values_len = v.values_len;
  codes_ptype = v.codes_ptype;
  is_nullable_codes = Some (is_nullable v.nullable_codes);
  all_values_referenced = Some v.all_values_referenced;
})
told (M.foreign v) = raw v.bytes

-- Metadata fits a message: values are counted in 32 bits, elements in 64 (as the length of each array in memory is),
-- and a shredded type has at most 49 levels.
abbrev pub FitsMessage : Metadata → Type 0
FitsMessage (M.list v) = v.elements_len < 2 ^ 64
FitsMessage (M.listview v) = v.elements_len < 2 ^ 64
FitsMessage (M.dict v) = v.values_len ≤ 2 ^ 32 - 1
FitsMessage (M.variant (Some e)) = levels e ≤ 49
FitsMessage _ = Unit {0}
