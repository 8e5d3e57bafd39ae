-- The metadata of encodings that have none: no byte, whatever the type and the readers.
use Rattle.std.proofs.Common.{ℕ, ◌≡◌, List, [], refl}
use Rattle.vx_types.specs.Known.{ExtMeaning}
use Rattle.vx_types.specs.Typ.{Typ}
use Rattle.vx_array_tree.specs.Encoding as E
use Rattle.vx_array_tree.specs.Metadata.{Metadata}
use Rattle.vx_array_tree.specs.Metadata as M
use Rattle.vx_array_tree.specs.Table.{IsFair}
use Rattle.vx_wire_tree.specs.Fields as F
use Rattle.vx_wire_tree.specs.Reads.{IsMetadata}
use Rattle.vx_encodings.specs.Messages.{ShowsNothing, codec}

-- An empty list of bytes shows that there is no metadata.
nothing_shown : (bytes : List ℕ) → bytes ≡ [] → ShowsNothing bytes F.empty
nothing_shown bytes e = record { bytes_are = e; fields_are = refl }

pub null_metadata : (x : ExtMeaning) (d : Typ) (bytes : List ℕ) → bytes ≡ [] → IsMetadata codec x E.null d bytes M.empty
null_metadata x d bytes e = record { fields = F.empty; shown = nothing_shown bytes e; meaning = refl; fair = tt; known = tt }

pub primitive_metadata : (x : ExtMeaning) (d : Typ) (bytes : List ℕ) → bytes ≡ [] → IsMetadata codec x E.primitive d bytes M.empty
primitive_metadata x d bytes e = record { fields = F.empty; shown = nothing_shown bytes e; meaning = refl; fair = tt; known = tt }

pub varbinview_metadata : (x : ExtMeaning) (d : Typ) (bytes : List ℕ) → bytes ≡ [] → IsMetadata codec x E.varbinview d bytes M.empty
varbinview_metadata x d bytes e = record { fields = F.empty; shown = nothing_shown bytes e; meaning = refl; fair = tt; known = tt }

pub fixed_size_list_metadata : (x : ExtMeaning) (d : Typ) (bytes : List ℕ) → bytes ≡ [] → IsMetadata codec x E.fixed_size_list d bytes M.empty
fixed_size_list_metadata x d bytes e = record { fields = F.empty; shown = nothing_shown bytes e; meaning = refl; fair = tt; known = tt }

pub struct_metadata : (x : ExtMeaning) (d : Typ) (bytes : List ℕ) → bytes ≡ [] → IsMetadata codec x E.struct d bytes M.empty
struct_metadata x d bytes e = record { fields = F.empty; shown = nothing_shown bytes e; meaning = refl; fair = tt; known = tt }

pub ext_metadata : (x : ExtMeaning) (d : Typ) (bytes : List ℕ) → bytes ≡ [] → IsMetadata codec x E.ext d bytes M.empty
ext_metadata x d bytes e = record { fields = F.empty; shown = nothing_shown bytes e; meaning = refl; fair = tt; known = tt }

pub union_metadata : (x : ExtMeaning) (d : Typ) (bytes : List ℕ) → bytes ≡ [] → IsMetadata codec x E.union d bytes M.empty
union_metadata x d bytes e = record { fields = F.empty; shown = nothing_shown bytes e; meaning = refl; fair = tt; known = tt }

pub map_metadata : (x : ExtMeaning) (d : Typ) (bytes : List ℕ) → bytes ≡ [] → IsMetadata codec x E.map d bytes M.empty
map_metadata x d bytes e = record { fields = F.empty; shown = nothing_shown bytes e; meaning = refl; fair = tt; known = tt }

fair_null : (v : Metadata) → IsFair E.null v → v ≡ M.empty
fair_null M.empty f = refl
fair_null _ f = absurd f

fair_primitive : (v : Metadata) → IsFair E.primitive v → v ≡ M.empty
fair_primitive M.empty f = refl
fair_primitive _ f = absurd f

fair_varbinview : (v : Metadata) → IsFair E.varbinview v → v ≡ M.empty
fair_varbinview M.empty f = refl
fair_varbinview _ f = absurd f

fair_fixed_size_list : (v : Metadata) → IsFair E.fixed_size_list v → v ≡ M.empty
fair_fixed_size_list M.empty f = refl
fair_fixed_size_list _ f = absurd f

fair_struct : (v : Metadata) → IsFair E.struct v → v ≡ M.empty
fair_struct M.empty f = refl
fair_struct _ f = absurd f

fair_ext : (v : Metadata) → IsFair E.ext v → v ≡ M.empty
fair_ext M.empty f = refl
fair_ext _ f = absurd f

fair_union : (v : Metadata) → IsFair E.union v → v ≡ M.empty
fair_union M.empty f = refl
fair_union _ f = absurd f

fair_map : (v : Metadata) → IsFair E.map v → v ≡ M.empty
fair_map M.empty f = refl
fair_map _ f = absurd f

-- What is read is that there is no metadata, and it is read from no byte.
pub null_nothing : (x : ExtMeaning) (d : Typ) (bytes : List ℕ) (v : Metadata) → IsMetadata codec x E.null d bytes v → (bytes ≡ []) × (v ≡ M.empty)
null_nothing x d bytes v m = (m.shown.bytes_are, fair_null v m.fair)

pub primitive_nothing : (x : ExtMeaning) (d : Typ) (bytes : List ℕ) (v : Metadata) → IsMetadata codec x E.primitive d bytes v → (bytes ≡ []) × (v ≡ M.empty)
primitive_nothing x d bytes v m = (m.shown.bytes_are, fair_primitive v m.fair)

pub varbinview_nothing : (x : ExtMeaning) (d : Typ) (bytes : List ℕ) (v : Metadata) → IsMetadata codec x E.varbinview d bytes v → (bytes ≡ []) × (v ≡ M.empty)
varbinview_nothing x d bytes v m = (m.shown.bytes_are, fair_varbinview v m.fair)

pub fixed_size_list_nothing : (x : ExtMeaning) (d : Typ) (bytes : List ℕ) (v : Metadata) → IsMetadata codec x E.fixed_size_list d bytes v → (bytes ≡ []) × (v ≡ M.empty)
fixed_size_list_nothing x d bytes v m = (m.shown.bytes_are, fair_fixed_size_list v m.fair)

pub struct_nothing : (x : ExtMeaning) (d : Typ) (bytes : List ℕ) (v : Metadata) → IsMetadata codec x E.struct d bytes v → (bytes ≡ []) × (v ≡ M.empty)
struct_nothing x d bytes v m = (m.shown.bytes_are, fair_struct v m.fair)

pub ext_nothing : (x : ExtMeaning) (d : Typ) (bytes : List ℕ) (v : Metadata) → IsMetadata codec x E.ext d bytes v → (bytes ≡ []) × (v ≡ M.empty)
ext_nothing x d bytes v m = (m.shown.bytes_are, fair_ext v m.fair)

pub union_nothing : (x : ExtMeaning) (d : Typ) (bytes : List ℕ) (v : Metadata) → IsMetadata codec x E.union d bytes v → (bytes ≡ []) × (v ≡ M.empty)
union_nothing x d bytes v m = (m.shown.bytes_are, fair_union v m.fair)

pub map_nothing : (x : ExtMeaning) (d : Typ) (bytes : List ℕ) (v : Metadata) → IsMetadata codec x E.map d bytes v → (bytes ≡ []) × (v ≡ M.empty)
map_nothing x d bytes v m = (m.shown.bytes_are, fair_map v m.fair)
