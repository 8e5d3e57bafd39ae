-- The message of metadata that may hold a tree: a message that nests one of another schema, whose messages come first in
-- its own.
use Rattle.std.specs.Prelude.{[], ◌∷◌, ◌++◌, Option, refl}
use Rattle.std.proofs.Common.{arith}
use Rattle.vx_proto.specs.Form.{HasForm}
use Rattle.vx_proto.specs.Schema.{Schema, list_at, nested}
use Rattle.vx_proto.specs.Value.{Value}
use Rattle.vx_proto.proofs.LawsOfParts.{Part, Parts, Both, IfStands, ◌and◌, nothing, nested_part}
use Rattle.vx_proto.proofs.LawsOfForms.{same_form}
use Rattle.vx_proto_tests.specs.Samples.{trees}

-- The messages of trees, and then the one that may hold a tree.
abbrev pub tree_metadata_lists : Schema
tree_metadata_lists = trees ++ ((nested 1 0 ∷ []) ∷ [])

-- The tree's slot: a value of the form of trees, or none.
abbrev pub tree_part : Part (HasForm tree_metadata_lists) (nested 1 0) (Option Value) (IfStands (HasForm trees 0))
tree_part = nested_part 1 0 (λ v. v) (HasForm trees 0)
    (λ v f. (same_form trees ((nested 1 0 ∷ []) ∷ []) 0 v refl (omega arith)).0 f)
    (λ v f. (v, refl, (same_form trees ((nested 1 0 ∷ []) ∷ []) 0 v refl (omega arith)).1 f))
    (λ v w e. e)

-- Its slots as values.
abbrev pub tree_metadata_parts : Parts (HasForm tree_metadata_lists) (list_at tree_metadata_lists 1) (Option Value × Unit {0}) (Both (IfStands (HasForm trees 0)) (λ _. Unit {0}))
tree_metadata_parts = tree_part and nothing

-- The plain value of metadata with this tree, or with none.
abbrev pub tree_metadata_value : Option Value → Value
tree_metadata_value tree = tree_metadata_parts.value (tree, tt)
