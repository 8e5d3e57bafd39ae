-- The listing of an array: its nodes, and then its first rows.
use Rattle.std.specs.Prelude.{ℕ, zero, suc, ◌+◌, min, nat_lt, List, [], ◌∷◌, ◌++◌, length, if◌then◌else◌, codes, decimal}
use Rattle.std.specs.List.{flat_map}
use Rattle.vx_trees.specs.Rose.{node, end, more, label}
use Rattle.vx_buffer.specs.Buffer.{Buffer}
use Rattle.vx_array_tree.specs.Tree.{Tree, Trees, Head, row_at, cells}
use Rattle.vx_array_tree.specs.Table.{buffers_of, own_id}
use Rattle.vxcat_store.specs.RowText.{value_text}

-- A buffer is listed by its length in bytes.
abbrev pub length_text : Buffer → List ℕ
length_text buffer = decimal (length buffer.bytes)

-- Each further buffer stands after a comma and a space.
abbrev pub further_length : Buffer → List ℕ
further_length buffer = codes ", " ++ length_text buffer

-- The lengths of buffers stand in their order.
abbrev pub lengths_text : List Buffer → List ℕ
lengths_text [] = []
lengths_text (buffer ∷ buffers) = length_text buffer ++ flat_map further_length buffers

-- A node's line has its identifier, which of a foreign node is its own, its length and the lengths of its own buffers.
abbrev pub node_line : List ℕ → Head → List ℕ
node_line indent head =
    indent ++ (own_id head.body ++ (codes " len=" ++ (decimal head.len ++ (codes " buffers=[" ++ (lengths_text (buffers_of head.body) ++ codes "]\n")))))

-- The nodes stand in preorder, each indented by two spaces more than its parent.
abbrev mutual
  pub node_lines : List ℕ → Tree → List ℕ
  node_lines indent (node head children) = node_line indent head ++ node_lines_below (indent ++ codes "  ") children

  pub node_lines_below : List ℕ → Trees → List ℕ
  node_lines_below indent end = []
  node_lines_below indent (more tree trees) = node_lines indent tree ++ node_lines_below indent trees

-- A row is shown by its value, or as `(large)` where that has more than 10,000 cells.
abbrev pub shown_row : Tree → ℕ → List ℕ
shown_row tree i = if nat_lt 10000 (cells tree i) then codes "(large)" else value_text (row_at tree i) (label tree).dtype

-- A row's line has its number, counted from 0, and the row.
abbrev pub row_line : Tree → ℕ → List ℕ
row_line tree i = decimal i ++ (codes ": " ++ (shown_row tree i ++ codes "\n"))

-- n rows, one after the other, from a first one on.
abbrev pub row_lines : Tree → ℕ → ℕ → List ℕ
row_lines tree first zero = []
row_lines tree first (suc count) = row_line tree first ++ row_lines tree (first + 1) count

-- The listing has the lines of all nodes, and then those of the first rows, as many as are asked for and exist.
abbrev pub listing : Tree → ℕ → List ℕ
listing tree rows = node_lines [] tree ++ row_lines tree 0 (min rows (label tree).len)
