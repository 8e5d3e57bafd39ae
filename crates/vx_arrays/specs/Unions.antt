-- What is made where an array of unions is asked for, and when its tags are right.
use Rattle.std.specs.Prelude.{ℕ, List, is_some, IsTrue}
use Rattle.vx_trees.specs.Rose.{node, more, label, roses_of}
use Rattle.vx_types.specs.Fits.{member}
use Rattle.vx_types.specs.Kind.{union}
use Rattle.vx_types.specs.Parts.{Members}
use Rattle.vx_types.specs.Words.{nullability}
use Rattle.vx_types.specs.declared.nullability.Nullability.{Nullability}
use Rattle.vx_array_tree.specs.Body as B
use Rattle.vx_array_tree.specs.Rows.{Rows, index_at, IsIndex, IsThere}
use Rattle.vx_array_tree.specs.Tree.{Head, Tree, Trees, untold}

-- A union node of these members.
abbrev pub union_head : Members → Nullability → ℕ → Head
union_head v m n = untold (node (union v.names v.ids m) (roses_of v.types)) n B.union

-- Unions by their tags: a node over these and then the members. A row may be null where its tag may.
abbrev pub union_tree : Members → Tree → Trees → Tree
union_tree v tags ts = node (union_head v (nullability (label tags).dtype) (label tags).len) (more tags ts)

-- A row's tag, where it is valid, is that of a member.
abbrev pub IsTagged : List ℕ → Rows → Trees → ℕ → Type 0
IsTagged ids tags ts i = IsThere tags.valid i → IsIndex tags i × IsTrue (is_some (member (index_at tags i) ids ts))
