-- The names of a node's slots and of its buffers.
use Rattle.std.specs.Prelude.{ℕ, zero, suc, List, [], ◌∷◌, ◌++◌, codes, length}
use Rattle.std.specs.Fmt.{decimal}
use Rattle.vx_buffer.specs.Buffer.{Buffer}
use Rattle.vx_trees.specs.Rose.{node}
use Rattle.vx_types.specs.Kind.{structure, union}
use Rattle.vx_types.specs.Typ.{Typ}
use Rattle.vx_array_tree.specs.Body as B

-- The names of a struct's fields, and of a union's members. No other type has names.
abbrev pub member_names : Typ → List (List ℕ)
member_names (node (structure names m) ts) = names
member_names (node (union names tags m) ts) = names
member_names _ = []

-- A node whose encoding is known has a slot for each child that one of its encoding and type may have, in the order in
-- which they are written. A slot keeps its name where its child is absent.
abbrev pub native_slots : Typ → B.Body → List (List ℕ)
native_slots d B.null = []
native_slots d (B.bool x) = codes "validity" ∷ []
native_slots d (B.primitive x) = codes "validity" ∷ []
native_slots d (B.decimal x) = codes "validity" ∷ []
native_slots d (B.varbin x) = codes "offsets" ∷ codes "validity" ∷ []
native_slots d (B.varbinview x) = codes "validity" ∷ []
native_slots d B.list = codes "elements" ∷ codes "offsets" ∷ codes "validity" ∷ []
native_slots d (B.listview x) = codes "elements" ∷ codes "offsets" ∷ codes "sizes" ∷ codes "validity" ∷ []
native_slots d B.fixed_size_list = codes "elements" ∷ codes "validity" ∷ []
native_slots d B.map = codes "entries" ∷ []
native_slots d B.struct = codes "validity" ∷ member_names d
native_slots d B.union = codes "type_ids" ∷ member_names d
native_slots d B.variant = codes "core_storage" ∷ codes "shredded" ∷ []
native_slots d B.ext = codes "storage" ∷ []
native_slots d (B.dict x) = codes "codes" ∷ codes "values" ∷ []
native_slots d (B.foreign x) = []

-- n names by numbers in brackets, from one on.
abbrev pub bracketed : List ℕ → ℕ → ℕ → List (List ℕ)
bracketed word i zero = []
bracketed word i (suc k) = (word ++ (codes "[" ++ (decimal i ++ codes "]"))) ∷ bracketed word (suc i) k

-- The slots of a node with k children: a foreign node has one for each child.
abbrev pub slot_names : Typ → B.Body → ℕ → List (List ℕ)
slot_names d (B.foreign x) k = bracketed (codes "child") 0 k
slot_names d b k = native_slots d b

-- Buffers by their numbers, from one on.
abbrev pub numbered : ℕ → List Buffer → List (List ℕ)
numbered i [] = []
numbered i (b ∷ bs) = (codes "buffer_" ++ decimal i) ∷ numbered (suc i) bs

-- The names of a node's buffers, in the order in which they are written.
abbrev pub buffer_names : B.Body → List (List ℕ)
buffer_names (B.bool x) = codes "bits" ∷ []
buffer_names (B.primitive x) = codes "values" ∷ []
buffer_names (B.decimal x) = codes "values" ∷ []
buffer_names (B.varbin x) = codes "bytes" ∷ []
buffer_names (B.varbinview x) = numbered 0 x.buffers ++ codes "views" ∷ []
buffer_names (B.foreign x) = bracketed (codes "buffer") 0 (length x.buffers)
buffer_names _ = []
