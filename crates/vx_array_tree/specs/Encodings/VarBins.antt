-- Texts and bytes, one after the other in one buffer, split by offsets.
use Rattle.std.specs.Prelude.{ℕ, suc, ◌-◌, ◌<◌, ◌≤◌, List, [], ◌∷◌, Option, Some, None, codes, length, take, drop, IsTrue, refl, Bool, true}
use Rattle.std.specs.Coded.{Coded, code_by}
use Rattle.vx_buffer.specs.Buffer.{Buffer, coded_buffer}
use Rattle.vx_trees.specs.Rose.{node, end}
use Rattle.vx_types.specs.Kind.{utf8 as utf8_kind, binary as binary_kind}
use Rattle.vx_types.specs.Content.{IsText}
use Rattle.vx_numbers.specs.Numbers.{is_integer}
use Rattle.vx_types.specs.Typ.{Typ}
use Rattle.vx_types.specs.Value.{Mark, utf8, binary, lone}
use Rattle.vx_numbers.specs.declared.ptype.PType.{PType}
use Rattle.vx_array_tree.specs.Place.{Place, place, numbers, is_len, when, AllowsValidity, before_validity, first_place, ptype_of}
use Rattle.vx_array_tree.specs.Rows.{Rows, by_validity, validity, first, rest, index_at, IsIndex, IsThere}

-- The identifier is "vortex.varbin".
abbrev pub id : List ℕ
id = codes "vortex.varbin"

-- A node holds the bytes of all rows.
pub record Data : Type 0 where
  pub bytes : Buffer

-- The code by which what nodes hold is told apart.
abbrev pub data_code : Coded Data
data_code = code_by Buffer coded_buffer (λ x. x.bytes) (λ b. record { bytes = b }) (λ _. refl)

-- The metadata is the kind of the offsets.
abbrev pub Metadata : Type 0
Metadata = PType

-- The metadata of a node over children at these places.
abbrev pub metadata_of : List Place → Metadata
metadata_of ps = ptype_of (first_place ps).dtype

-- Offsets are integers.
abbrev pub IsFair : Metadata → Type 0
IsFair p = IsTrue (is_integer p)

-- The bytes are the one buffer.
abbrev pub buffers_of : Data → List Buffer
buffers_of x = x.bytes ∷ []

-- What a node of these buffers holds.
abbrev pub body_of : List Buffer → Option Data
body_of (b ∷ []) = Some (record { bytes = b })
body_of _ = None

-- There is one offset more than rows, and at most a validity.
abbrev pub planned : ℕ → Metadata → ℕ → Option (List Place)
planned n v k = when (is_len (suc n)) (before_validity (place (numbers v) (suc n) ∷ []) n k)

-- A node is of the type of texts or of bytes.
abbrev pub plan : Typ → ℕ → Metadata → ℕ → Option (List Place)
plan (node (utf8_kind m) end) n v k = planned n v k
plan (node (binary_kind m) end) n v k = planned n v k
plan _ n v k = None

-- Each child is a control child: there is none but offsets and a validity.
abbrev pub is_control : ℕ → Bool
is_control i = true

-- A validity stands only where rows may be null.
abbrev pub Allows : Typ → ℕ → Type 0
Allows d k = AllowsValidity d 1 k

-- Offsets are natural numbers that never decrease, and the last is at most a total. (Where an offset is not known,
-- nothing is asked of it.)
pub record AreOffsets (offsets : Rows) (n total : ℕ) : Type 0 where
  pub naturals : (i : ℕ) → i ≤ n → IsThere offsets.valid i → IsIndex offsets i
  pub rising : (i : ℕ) → i < n → index_at offsets i ≤ index_at offsets (suc i)
  pub within : index_at offsets n ≤ total

-- The bytes from a row's offset up to the next.
abbrev pub bytes_at : List ℕ → Rows → ℕ → List ℕ
bytes_at bytes offsets i = take (index_at offsets (suc i) - index_at offsets i) (drop (index_at offsets i) bytes)

-- Bytes are a text under the type of texts.
abbrev pub mark_of : Typ → List ℕ → Mark
mark_of (node (utf8_kind m) ts) bs = utf8 bs
mark_of _ bs = binary bs

-- Under the type of texts, bytes are to be a text.
abbrev pub IsContent : Typ → List ℕ → Type 0
IsContent (node (utf8_kind m) ts) bs = IsText bs
IsContent _ bs = Unit {0}

-- The offsets are right whatever rows are valid; texts are texts where their rows are valid.
pub record Content (d : Typ) (n : ℕ) (x : Data) (rs : List Rows) : Type 0 where
  pub offsets : AreOffsets (first rs) n (length x.bytes.bytes)
  pub texts : (i : ℕ) → i < n → IsThere (validity (rest rs)) i → IsContent d (bytes_at x.bytes.bytes (first rs) i)

-- A valid row is its bytes.
abbrev pub rows : Typ → ℕ → Data → List Rows → Rows
rows d n x rs = by_validity n (validity (rest rs)) (λ i. lone (mark_of d (bytes_at x.bytes.bytes (first rs) i)))
