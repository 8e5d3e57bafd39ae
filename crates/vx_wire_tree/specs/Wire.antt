-- Trees as they stand on the wire, before any encoding is looked at.
use Rattle.std.specs.Prelude.{ℕ, ◌≡◌, List, [], ◌∷◌, Option, Some, None, map}
use Rattle.vx_buffer.specs.Buffer.{Buffer}
use Rattle.vx_flat.specs.Value.{Field}
use Rattle.vx_trees.specs.Rose.{Rose, Roses}
use Rattle.vx_trees.specs.Everywhere.{Everywhere}
use Rattle.vx_trees.specs.Walks.{gathered}

-- A node: its identifier, its metadata, its buffers, and the field that may hold a table of statistics. An identifier
-- or a buffer is missing where its index has none.
pub record WireHead : Type 0 where
  pub id : Option (List ℕ)
  pub metadata : List ℕ
  pub buffers : List (Option Buffer)
  pub stats : Field

-- A wire tree: a node with the nodes below it.
abbrev pub Wire : Type 0
Wire = Rose WireHead

-- Several wire trees in order.
abbrev pub Wires : Type 0
Wires = Roses WireHead

-- A list as one of which nothing is missing.
abbrev pub all_present : {A : Type 0} → List A → List (Option A)
all_present xs = map (λ x. Some x) xs

-- The items that are there, of a list in which some may be missing.
abbrev pub present : {A : Type 0} → List (Option A) → List A
present [] = []
present (Some x ∷ xs) = x ∷ present xs
present (None ∷ xs) = present xs

-- Nothing is missing at a node.
pub record IsWholeNode (h : WireHead) (ws : Wires) : Type 0 where
  pub id : List ℕ
  pub id_is : h.id ≡ Some id
  pub buffers : List Buffer
  pub buffers_are : h.buffers ≡ all_present buffers

-- Nothing is missing in the whole tree.
abbrev pub IsWhole : Wire → Type 0
IsWhole = Everywhere IsWholeNode

-- A node's identifier, as a list of one, or of none where it is missing.
abbrev pub id_in : WireHead → List (List ℕ)
id_in h = present (h.id ∷ [])

-- A node's buffers that are there.
abbrev pub buffers_at_node : WireHead → List Buffer
buffers_at_node h = present h.buffers

-- The identifiers of a tree in preorder, as often as they occur.
abbrev pub ids_in : Wire → List (List ℕ)
ids_in w = gathered id_in w

-- The buffers of a tree in preorder.
abbrev pub buffers_in : Wire → List Buffer
buffers_in w = gathered buffers_at_node w
