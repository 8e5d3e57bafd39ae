-- The meaning of a plugin that has one identifier for few numbers and one for any number of them.
use Rattle.std.specs.Prelude.{ℕ, ◌^◌, ◌*◌, ◌&&◌, Bool, true, false, List, [], ◌∷◌, Option, Some, None, length, bytes_eq, nat_eq, nat_le, if◌then◌else◌}
use Rattle.vx_buffer.specs.Buffer.{Buffer}
use Rattle.vx_trees.specs.Rose.{node, end, more}
use Rattle.vx_types.specs.Kind.{primitive}
use Rattle.vx_numbers.specs.Numbers.{width_of}
use Rattle.vx_types.specs.Typ.{Typ}
use Rattle.vx_types.specs.declared.nullability.Nullability.TheVariants.{NonNullable}
use Rattle.vx_array_tree.specs.Body.{Body}
use Rattle.vx_array_tree.specs.Body as B
use Rattle.vx_array_tree.specs.Encodings.Primitives as Primitives
use Rattle.vx_array_tree.specs.Place.{Place, ptype_of}
use Rattle.vx_array_tree.specs.Tree.{Tree, Trees, untold}
use Rattle.vx_wire_tree.specs.Plugin.{NodeHead, Parts, Answer, refused, given}

-- The greatest number of rows of the old identifier.
abbrev pub most : ℕ
most = 4

-- An identifier holds n rows.
abbrev pub holds : List ℕ → List ℕ → List ℕ → ℕ → Bool
holds old new id n = if bytes_eq id new then true else bytes_eq id old && nat_le n most

-- The identifier for n rows.
abbrev pub id_for : List ℕ → List ℕ → ℕ → List ℕ
id_for old new n = if nat_le n most then old else new

-- A type is one of numbers without nulls.
abbrev pub is_plain : Typ → Bool
is_plain (node (primitive p NonNullable) end) = true
is_plain _ = false

-- The parts as which numbers without nulls are written.
abbrev pub parts : List ℕ → Primitives.Data → Parts
parts id x = record { id = id; metadata = []; buffers = x.values ∷ []; children = end }

-- Numbers are written in this way where none of them may be null, and else refused.
abbrev pub plain_answer : Bool → List ℕ → Primitives.Data → Answer
plain_answer true id x = given (parts id x)
plain_answer false id x = refused

-- Under an identifier, numbers without children are written, and no other array.
abbrev pub answer_by : List ℕ → Typ → Body → Trees → Answer
answer_by id d (B.primitive x) end = plain_answer (is_plain d) id x
answer_by id d (B.primitive x) (more t ts) = refused
answer_by id d _ ts = refused

-- An array is written under the identifier for its rows.
abbrev pub answer : List ℕ → List ℕ → Tree → Answer
answer old new (node h ts) = answer_by (id_for old new h.len) h.dtype h.body ts

-- A node has the form of numbers without nulls: no metadata, one buffer and no child.
abbrev pub is_form : List ℕ → List ℕ → NodeHead → Bool
is_form old new h = holds old new h.id h.len && (is_plain h.dtype && (nat_eq (length h.metadata) 0 && (nat_eq h.nbuffers 1 && nat_eq h.nchildren 0)))

-- It has no children to plan.
abbrev pub plan : List ℕ → List ℕ → NodeHead → Option (List Place)
plan old new h = if is_form old new h then Some [] else None

-- The numbers fill a buffer.
abbrev pub is_filled : ℕ → ℕ → Buffer → Bool
is_filled width n b = nat_eq (length b.bytes) (width * n) && nat_le width (2 ^ b.exponent)

-- The numbers of a buffer.
abbrev pub numbers : Typ → ℕ → Buffer → Tree
numbers d n b = node (untold d n (B.primitive (record { values = b }))) end

-- What is read from buffers: the numbers of the first, where they fill it.
abbrev pub filled : Typ → ℕ → List Buffer → Option Tree
filled d n [] = None
filled d n (b ∷ bs) = if is_filled (width_of (ptype_of d)) n b then Some (numbers d n b) else None

-- What is read from a node: the numbers of its buffers, where it has the form.
abbrev pub build : List ℕ → List ℕ → NodeHead → List Buffer → Option Tree
build old new h bs = if is_form old new h then filled h.dtype h.len bs else None
