-- Numbers of one kind, one after the other, each little-endian.
use Rattle.std.specs.Prelude.{ℕ, ◌≡◌, ◌*◌, ◌^◌, ◌≤◌, List, [], ◌∷◌, Option, Some, None, codes, length, refl, Bool, true}
use Rattle.std.specs.Coded.{Coded, code_by}
use Rattle.vx_buffer.specs.Buffer.{Buffer, coded_buffer}
use Rattle.vx_trees.specs.Rose.{node, end}
use Rattle.vx_types.specs.Kind.{primitive}
use Rattle.vx_numbers.specs.Numbers.{width_of}
use Rattle.vx_types.specs.Typ.{Typ}
use Rattle.vx_types.specs.Value.{number, lone}
use Rattle.vx_array_tree.specs.Bytes.{primitive_at}
use Rattle.vx_array_tree.specs.Place.{Place, AllowsValidity, before_validity, ptype_of}
use Rattle.vx_array_tree.specs.Rows.{Rows, by_validity, validity}

-- The identifier is "vortex.primitive".
abbrev pub id : List ℕ
id = codes "vortex.primitive"

-- A node holds the numbers. Their kind is the type's.
pub record Data : Type 0 where
  pub values : Buffer

-- The code by which what nodes hold is told apart.
abbrev pub data_code : Coded Data
data_code = code_by Buffer coded_buffer (λ x. x.values) (λ b. record { values = b }) (λ _. refl)

-- The numbers are the one buffer.
abbrev pub buffers_of : Data → List Buffer
buffers_of x = x.values ∷ []

-- What a node of these buffers holds.
abbrev pub body_of : List Buffer → Option Data
body_of (b ∷ []) = Some (record { values = b })
body_of _ = None

-- A node is of a type of numbers, and has at most a validity.
abbrev pub plan : Typ → ℕ → ℕ → Option (List Place)
plan (node (primitive p m) end) n k = before_validity [] n k
plan _ n k = None

-- Each child is a control child: there is none but a validity.
abbrev pub is_control : ℕ → Bool
is_control i = true

-- A validity stands only where rows may be null.
abbrev pub Allows : Typ → ℕ → Type 0
Allows d k = AllowsValidity d 0 k

-- As many elements of a width, and nothing else, fill a buffer that is aligned to their width.
pub record IsFilled (width n : ℕ) (b : Buffer) : Type 0 where
  pub length_is : length b.bytes ≡ width * n
  pub aligned : width ≤ 2 ^ b.exponent

-- There is a number for each row.
abbrev pub Holds : Typ → ℕ → Data → Type 0
Holds d n x = IsFilled (width_of (ptype_of d)) n x.values

-- A valid row is its number.
abbrev pub rows : Typ → ℕ → Data → List Rows → Rows
rows d n x rs = by_validity n (validity rs) (λ i. lone (number (primitive_at (ptype_of d) x.values.bytes i)))
