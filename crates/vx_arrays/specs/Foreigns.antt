-- What is made where a foreign array is asked for, and the text of what it keeps.
use Rattle.std.specs.Prelude.{ℕ, List, ◌++◌, codes, decimal, length}
use Rattle.vx_buffer.specs.Buffer.{Buffer}
use Rattle.vx_trees.specs.Rose.{node}
use Rattle.vx_types.specs.Typ.{Typ}
use Rattle.vx_array_tree.specs.Body as B
use Rattle.vx_array_tree.specs.Tree.{Head, Tree, Trees, untold}

-- A node of an identifier that nothing reads, with its metadata and its buffers as they are.
abbrev pub foreign_head : List ℕ → Typ → ℕ → List ℕ → List Buffer → Head
foreign_head id d n metadata buffers = untold d n (B.foreign (record { id = id; metadata = metadata; buffers = buffers }))

-- n opaque rows: such a node over any children.
abbrev pub foreign_tree : List ℕ → Typ → ℕ → List ℕ → List Buffer → Trees → Tree
foreign_tree id d n metadata buffers ts = node (foreign_head id d n metadata buffers) ts

-- The text of what a node keeps beside its identifier: how many bytes its metadata has.
abbrev pub foreign_text : List ℕ → List ℕ
foreign_text metadata = codes "ForeignArrayData(" ++ (decimal (length metadata) ++ codes "B)")
