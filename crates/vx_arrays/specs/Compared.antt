-- What is compared of arrays, and what a hash is fed of them.
use Rattle.std.specs.Prelude.{◌≡◌, ◌++◌, false, map}
use Rattle.std.specs.Hash as fed
use Rattle.vx_buffer.specs.Buffer.{Buffer}
use Rattle.vx_trees.specs.Rose.{node, end, more}
use Rattle.vx_trees.specs.Walks.{gathered}
use Rattle.vx_array_tree.specs.Body.{Body}
use Rattle.vx_array_tree.specs.Body as B
use Rattle.vx_array_tree.specs.Table.{own_id, buffers_of}
use Rattle.vx_array_tree.specs.Tree.{Tree, Trees, Head, untold}

-- Of a buffer its bytes are compared, and not its alignment.
abbrev pub bare : Buffer → Buffer
bare b = record { bytes = b.bytes; exponent = 0 }

-- Of what a node holds its encoding, its buffers and all that is kept beside them are compared, as a bit offset, the
-- width of decimals, a list view's flag or a foreign node's metadata, but not a dictionary's flag.
abbrev pub compared_body : Body → Body
compared_body (B.bool x) = B.bool (record { bits = bare x.bits; offset = x.offset })
compared_body (B.primitive x) = B.primitive (record { values = bare x.values })
compared_body (B.decimal x) = B.decimal (record { values = bare x.values; values_type = x.values_type })
compared_body (B.varbin x) = B.varbin (record { bytes = bare x.bytes })
compared_body (B.varbinview x) = B.varbinview (record { buffers = map bare x.buffers; views = bare x.views })
compared_body (B.dict x) = B.dict (record { all_values_referenced = false })
compared_body (B.foreign x) = B.foreign (record { id = x.id; metadata = x.metadata; buffers = map bare x.buffers })
compared_body b = b

-- Of a node its type, its length and what it holds are compared, and not its statistics.
abbrev pub compared_head : Head → Head
compared_head h = untold h.dtype h.len (compared_body h.body)

abbrev mutual
  -- An array with that alone at each node which is compared.
  pub compared : Tree → Tree
  compared (node h ts) = node (compared_head h) (each_compared ts)

  -- The same of each of a node's children.
  pub each_compared : Trees → Trees
  each_compared end = end
  each_compared (more t ts) = more (compared t) (each_compared ts)

-- Arrays are equal where all that is compared of them is, at each node.
abbrev pub IsSame : Tree → Tree → Type 0
IsSame t u = compared t ≡ compared u

-- What a hash is fed of a buffer: its bytes.
abbrev pub fed_buffer : Buffer → fed.HashWrites
fed_buffer b = fed.slice fed.u8 b.bytes

-- What it is fed of a node: its identifier, its length and its buffers.
abbrev pub fed_head : Head → fed.HashWrites
fed_head h = fed.str (own_id h.body) ++ (fed.usize h.len ++ fed.slice fed_buffer (buffers_of h.body))

-- What it is fed of an array: that of each node, in preorder.
abbrev pub fed_array : Tree → fed.HashWrites
fed_array t = gathered fed_head t
