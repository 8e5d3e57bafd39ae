-- What is made where an array of an extension is asked for.
use Rattle.std.specs.Prelude.{Option, Some, None}
use Rattle.vx_trees.specs.Rose.{node, end, more, label}
use Rattle.vx_types.specs.Kind.{extension}
use Rattle.vx_types.specs.Parts.{Ext}
use Rattle.vx_types.specs.Typ.{Typ}
use Rattle.vx_array_tree.specs.Body as B
use Rattle.vx_array_tree.specs.Tree.{Tree, untold}

-- An extension node over its storage, with as many rows.
abbrev pub extension_tree : Ext → Tree → Tree
extension_tree x storage = node (untold (node (extension x.id x.metadata) (more x.storage end)) (label storage).len B.ext) (more storage end)

-- The type of an extension's storage.
abbrev pub storage_of : Typ → Option Typ
storage_of (node (extension id bytes) (more d end)) = Some d
storage_of _ = None
