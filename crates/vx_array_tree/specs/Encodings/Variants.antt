-- Variants, in part by a typed child, the shredded one, that stands over the core.
use Rattle.std.specs.Prelude.{ℕ, max, List, [], ◌∷◌, Option, Some, None, Bool, true, false, codes, if◌then◌else◌}
use Rattle.vx_trees.specs.Rose.{node, end}
use Rattle.vx_types.specs.Kind.{structure, variant as variant_kind}
use Rattle.vx_types.specs.Typ.{Typ, IsType}
use Rattle.vx_types.specs.Value.{Value, null, opaque, lone, has_opaque, value_cells}
use Rattle.vx_array_tree.specs.Merge.{merge}
use Rattle.vx_array_tree.specs.Place.{Place, place, exactly}
use Rattle.vx_array_tree.specs.Rows.{Rows, as_rows, first}

-- The identifier is "vortex.variant".
abbrev pub id : List ℕ
id = codes "vortex.variant"

-- The metadata is the type of the shredded child, if any.
abbrev pub Metadata : Type 0
Metadata = Option Typ

-- The metadata of a node over children at these places.
abbrev pub metadata_of : List Place → Metadata
metadata_of (c ∷ s ∷ ps) = Some s.dtype
metadata_of _ = None

-- What is told as a type is one.
abbrev pub IsFair : Metadata → Type 0
IsFair None = Unit {0}
IsFair (Some e) = IsType e

-- A node is of a type of variants, and has a core of the same type, and the shredded child if any.
abbrev pub plan : Typ → ℕ → Metadata → ℕ → Option (List Place)
plan (node (variant_kind m) end) n None k = exactly (place (node (variant_kind m) end) n ∷ []) k
plan (node (variant_kind m) end) n (Some e) k = exactly (place (node (variant_kind m) end) n ∷ place e n ∷ []) k
plan _ n v k = None

-- Whether a row is valid, by the shredded row and the core's: a valid shredded row decides, and where it is null the
-- core's does.
abbrev pub valid_over : Option Bool → Option Bool → Option Bool
valid_over (Some false) core = core
valid_over (Some true) core = Some true
valid_over None core = None

-- Whether a type is one of structs.
abbrev pub is_structure : Typ → Bool
is_structure (node (structure ns m) ts) = true
is_structure _ = false

-- A typed value that is not null over a core's row: a struct over an opaque one is opaque, since that may hold opaque
-- fields; all else is merged.
abbrev pub merged_over : Typ → Value → Value → Value
merged_over d v (node opaque vs) = if is_structure d then lone opaque else merge d v None
merged_over d v core = merge d v (Some core)

-- A shredded row over a core's row: a null one leaves the core's; what is opaque in it hides the core's.
abbrev pub row_over : Typ → Value → Value → Value
row_over d (node null vs) core = core
row_over d v core = if has_opaque v then lone opaque else merged_over d v core

-- A row counts the greatest of its own cells, its core's and its shredded row's.
abbrev pub over : ℕ → Typ → Rows → Rows → Rows
over n e core shredded = record {
  len = n;
  valid = λ i. valid_over (shredded.valid i) (core.valid i);
  row = λ i. row_over e (shredded.row i) (core.row i);
  cells = λ i. max (value_cells (row_over e (shredded.row i) (core.row i))) (max (core.cells i) (shredded.cells i));
}

-- Without a shredded child the rows are the core's. With one, the metadata tells the type of its rows.
abbrev pub rows : ℕ → Metadata → List Rows → Rows
rows n (Some e) (c ∷ s ∷ rs) = over n e c s
rows n _ rs = as_rows n (first rs)
