-- The tree that the constructor of struct arrays makes, and how its node is split.
use Rattle.std.specs.Prelude.{ℕ, ◌≡◌, Option, None, Some, IfSome, length, if◌then◌else◌}
use Rattle.vx_trees.specs.Rose.{node, end, more, count, roses_of}
use Rattle.vx_types.specs.Kind.{structure}
use Rattle.vx_types.specs.Parts.{Fields}
use Rattle.vx_types.specs.Typ.{Typ}
use Rattle.vx_types.specs.declared.nullability.Nullability.{Nullability}
use Rattle.vx_types.specs.declared.nullability.Nullability.TheVariants.{Nullable}
use Rattle.vx_array_tree.specs.Body as B
use Rattle.vx_array_tree.specs.Encodings.Structs.{has_validity}
use Rattle.vx_array_tree.specs.Tree.{Head, Tree, Trees, untold}

-- A struct node of these fields.
abbrev pub struct_head : Fields → Nullability → ℕ → Head
struct_head fields m n = untold (node (structure fields.names m) (roses_of fields.types)) n B.struct

-- The arguments of the constructor fit one another: one column for each field, and a validity only under a nullable type.
-- The tree that is made does not tell this: a validity may look like the first of the columns, and a column like a validity.
abbrev pub AreStructParts : Fields → Nullability → Trees → Option Tree → Type 0
AreStructParts fields m columns validity = (count columns ≡ length fields.types) × (IfSome validity (λ _. m ≡ Nullable))

-- Children after a validity, if any.
abbrev pub after_validity : Option Tree → Trees → Trees
after_validity None ts = ts
after_validity (Some t) ts = more t ts

-- n structs of the columns: a node over the validity, if any, and then the columns.
abbrev pub struct_tree : Fields → Nullability → Trees → ℕ → Option Tree → Tree
struct_tree fields m columns n validity = node (struct_head fields m n) (after_validity validity columns)

-- The types of structs.
abbrev pub IsOfFields : Typ → Type 0
IsOfFields (node (structure names m) ts) = Unit {0}
IsOfFields _ = ⊥

-- The children after the first.
abbrev pub after_first : Trees → Trees
after_first end = end
after_first (more t ts) = ts

-- The children of a struct node that are its columns: all, but for a validity in front.
abbrev pub field_trees : Typ → Trees → Trees
field_trees d ts = if has_validity d (count ts) then after_first ts else ts
