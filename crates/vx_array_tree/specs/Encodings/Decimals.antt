-- Decimals, by their unscaled integers, one after the other.
use Rattle.std.specs.Prelude.{ℕ, ◌≡◌, ◌*◌, ◌^◌, ◌≤◌, min, List, [], ◌∷◌, Option, Some, None, codes, length, refl, Bool, true}
use Rattle.std.specs.Coded.{Coded, code_by, coded×}
use Rattle.vx_buffer.specs.Buffer.{Buffer, coded_buffer}
use Rattle.vx_trees.specs.Rose.{node, end}
use Rattle.vx_types.specs.Kind.{decimal as decimal_kind}
use Rattle.vx_numbers.specs.Decimals.{decimal_width_of}
use Rattle.vx_types.specs.Typ.{Typ}
use Rattle.vx_types.specs.Value.{decimal, lone}
use Rattle.vx_numbers.specs.declared.decimal_type.DecimalType.{DecimalType}
use Rattle.vx_numbers.specs.contracts.decimal_type.DecimalType as width
use Rattle.vx_array_tree.specs.Bytes.{decimal_at}
use Rattle.vx_array_tree.specs.Place.{Place, AllowsValidity, before_validity}
use Rattle.vx_array_tree.specs.Rows.{Rows, by_validity, validity}

-- The identifier is "vortex.decimal".
abbrev pub id : List ℕ
id = codes "vortex.decimal"

-- A node holds integers of a width, which need not be the least that the type's digits want.
pub record Data : Type 0 where
  pub values : Buffer
  pub values_type : DecimalType

-- The code by which what nodes hold is told apart.
abbrev pub data_code : Coded Data
data_code =
    code_by (Buffer × DecimalType) (coded× coded_buffer width.the_row.coded) (λ x. (x.values, x.values_type))
    (λ p. record { values = p.0; values_type = p.1 }) (λ _. refl)

-- The metadata is the width.
abbrev pub Metadata : Type 0
Metadata = DecimalType

-- The metadata of a node that holds this.
abbrev pub metadata_of : Data → Metadata
metadata_of x = x.values_type

-- The integers are the one buffer.
abbrev pub buffers_of : Data → List Buffer
buffers_of x = x.values ∷ []

-- What a node of this metadata and these buffers holds.
abbrev pub body_of : Metadata → List Buffer → Option Data
body_of w (b ∷ []) = Some (record { values = b; values_type = w })
body_of w _ = None

-- A node is of a type of decimals, and has at most a validity.
abbrev pub plan : Typ → ℕ → ℕ → Option (List Place)
plan (node (decimal_kind p s m) end) n k = before_validity [] n k
plan _ n k = None

-- Each child is a control child: there is none but a validity.
abbrev pub is_control : ℕ → Bool
is_control i = true

-- A validity stands only where rows may be null.
abbrev pub Allows : Typ → ℕ → Type 0
Allows d k = AllowsValidity d 0 k

-- There is an integer for each row, and nothing else; the buffer is aligned to their width, or to 16 bytes
-- where they are wider.
pub record Holds (n : ℕ) (x : Data) : Type 0 where
  pub length_is : length x.values.bytes ≡ decimal_width_of x.values_type * n
  pub aligned : min (decimal_width_of x.values_type) 16 ≤ 2 ^ x.values.exponent

-- A valid row is its integer.
abbrev pub rows : ℕ → Data → List Rows → Rows
rows n x rs = by_validity n (validity rs) (λ i. lone (decimal (decimal_at x.values_type x.values.bytes i)))
