-- The line that is printed of a table.
use Rattle.std.specs.Prelude.{ℕ, List, ◌++◌, codes, length}
use Rattle.std.specs.Fmt.{decimal}
use Rattle.vx_trees.specs.Rose.{label}
use Rattle.vx_trees.specs.Walks.{nodes}
use Rattle.vx_array_tree.specs.Tree.{Tree, buffers}
use Rattle.vx_generator.specs.Made.{data_len}

-- The numbers of rows, nodes, buffers and bytes in these, in decimal.
abbrev pub line_of : ℕ → ℕ → ℕ → ℕ → List ℕ
line_of rows nodes buffers bytes =
    codes "rows="
    ++ (decimal rows ++ (codes " nodes=" ++ (decimal nodes ++ (codes " buffers=" ++ (decimal buffers ++ (codes " data=" ++ (decimal bytes ++ codes "\n")))))))

-- The line of an array, with its nodes, buffers and bytes counted.
abbrev pub summary : Tree → List ℕ
summary t = line_of (label t).len (nodes t) (length (buffers t)) (data_len t)
