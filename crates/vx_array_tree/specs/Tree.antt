-- Arrays as trees, and their rows.
use Rattle.std.specs.Prelude.{ℕ, List, [], ◌∷◌, Bool, Option, Some, None, refl}
use Rattle.std.specs.Coded.{Coded, code_by, coded×, coded_ℕ}
use Rattle.vx_buffer.specs.Buffer.{Buffer}
use Rattle.vx_trees.specs.Codes.{coded_rose, coded_roses}
use Rattle.vx_trees.specs.Rose.{Rose, Roses, node, end, more, label}
use Rattle.vx_trees.specs.Walks.{gathered}
use Rattle.vx_types.specs.Kind.{null}
use Rattle.vx_types.specs.Typ.{Typ, typ_code}
use Rattle.vx_types.specs.Value.{Value}
use Rattle.vx_scalars.specs.Stats.{Stats, no_stats, stats_code}
use Rattle.vx_array_tree.specs.Body.{Body, body_code}
use Rattle.vx_array_tree.specs.Body as B
use Rattle.vx_array_tree.specs.Encoding.{Encoding}
use Rattle.vx_array_tree.specs.Place.{Place, place}
use Rattle.vx_array_tree.specs.Rows.{Rows}
use Rattle.vx_array_tree.specs.Table.{own_id, encoding_of, buffers_of, node_rows}

-- What a node is beside its children: its type, how many rows it has, what is told of them, and what its
-- encoding holds.
pub record Head : Type 0 where
  pub dtype : Typ
  pub len : ℕ
  pub stats : Stats
  pub body : Body

-- A node without statistics.
abbrev pub untold : Typ → ℕ → Body → Head
untold d n b = record { dtype = d; len = n; stats = no_stats; body = b }

-- An array is a tree of such nodes. Its children stand in the order in which they are written.
abbrev pub Tree : Type 0
Tree = Rose Head

-- The children of a node: trees in their order.
abbrev pub Trees : Type 0
Trees = Roses Head

-- An array with other statistics at its root.
abbrev pub with_stats : Stats → Tree → Tree
with_stats x (node h ts) = node (record { dtype = h.dtype; len = h.len; stats = x; body = h.body }) ts

-- A child that may be absent, as the children of its node.
abbrev pub option_trees : Option Tree → Trees
option_trees None = end
option_trees (Some t) = more t end

-- The place at which an array stands.
abbrev pub array_place : Tree → Place
array_place t = place (label t).dtype (label t).len

-- The places of children, in their order.
abbrev pub places : Trees → List Place
places end = []
places (more t ts) = array_place t ∷ places ts

-- The encodings of children, in their order.
abbrev pub encodings : Trees → List Encoding
encodings end = []
encodings (more t ts) = encoding_of (label t).body ∷ encodings ts

-- The identifiers of a tree's nodes, in preorder.
abbrev pub encoding_ids : Tree → List (List ℕ)
encoding_ids t = gathered (λ h. own_id h.body ∷ []) t

-- The buffers of a tree's nodes, in preorder.
abbrev pub buffers : Tree → List Buffer
buffers t = gathered (λ h. buffers_of h.body) t

abbrev mutual
  -- What is known of an array by its rows: node by node, by what is known of the children.
  pub rows_of : Tree → Rows
  rows_of (node h ts) = node_rows h.dtype h.len h.body (places ts) (rows_below ts)

  -- The same of each of a node's children, in their order.
  pub rows_below : Trees → List Rows
  rows_below end = []
  rows_below (more t ts) = rows_of t ∷ rows_below ts

-- Whether a row is valid: none, where it ends at something opaque.
abbrev pub valid_at : Tree → ℕ → Option Bool
valid_at t i = (rows_of t).valid i

-- A row's value.
abbrev pub row_at : Tree → ℕ → Value
row_at t i = (rows_of t).row i

-- How many cells a row takes where it is printed.
abbrev pub cells : Tree → ℕ → ℕ
cells t i = (rows_of t).cells i

-- The code by which nodes without their children are told apart: the type, the rows, the statistics and what
-- the encoding holds, side by side.
abbrev pub head_code : Coded Head
head_code = code_by (Typ × (ℕ × (Stats × Body))) (coded× typ_code (coded× coded_ℕ (coded× stats_code body_code)))
    (λ h. (h.dtype, (h.len, (h.stats, h.body)))) (λ p. record { dtype = p.0; len = p.1.0; stats = p.1.1.0; body = p.1.1.1 }) (λ _. refl)

-- A node that stands for none where a code wants one; which it is does not matter.
abbrev no_head : Head
no_head = untold (node null end) 0 B.null

-- The code by which arrays are told apart.
abbrev pub tree_code : Coded Tree
tree_code = coded_rose no_head head_code

-- The code by which lists of children are told apart.
abbrev pub trees_code : Coded Trees
trees_code = coded_roses head_code
