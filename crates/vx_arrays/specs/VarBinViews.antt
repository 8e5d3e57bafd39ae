-- What is made where an array of texts or of bytes by views is asked for.
use Rattle.std.specs.Prelude.{ℕ, ◌≡◌, List, Option, Some}
use Rattle.vx_buffer.specs.Buffer.{Buffer}
use Rattle.vx_trees.specs.Rose.{node}
use Rattle.vx_types.specs.Typ.{Typ}
use Rattle.vx_array_tree.specs.Body as B
use Rattle.vx_array_tree.specs.Encodings.VarBins.{IsContent}
use Rattle.vx_array_tree.specs.Encodings.VarBinViews.{Data, bytes_at}
use Rattle.vx_array_tree.specs.Tree.{Head, Tree, option_trees, untold}

-- A node of rows by views.
abbrev pub varbinview_head : Typ → ℕ → Data → Head
varbinview_head d n x = untold d n (B.varbinview x)

-- n rows by views, and the buffers that views name: a node over the validity, if any.
abbrev pub varbinview_tree : Typ → ℕ → List Buffer → Buffer → Option Tree → Tree
varbinview_tree d n buffers views validity = node (varbinview_head d n (record { buffers = buffers; views = views })) (option_trees validity)

-- A row's view tells bytes, and such as the type asks for.
abbrev pub IsRight : Typ → Data → ℕ → Type 0
IsRight d x i = (bs : List ℕ) × (bytes_at x i ≡ Some bs) × IsContent d bs
