-- Texts and bytes by views of 16 bytes, which hold short ones themselves and name a place for long ones.
use Rattle.std.specs.Prelude.{ℕ, ◌≡◌, ◌+◌, ◌*◌, ◌<◌, nat_le, ◌&&◌, List, [], ◌∷◌, ◌++◌, Option, Some, None, codes, length, take, drop, slice_get, bytes_eq, unwrap_or, if◌then◌else◌, refl, Bool, true}
use Rattle.std.specs.Coded.{Coded, code_by, coded×, coded_list}
use Rattle.std.specs.Int.{w32, from_le_bytes}
use Rattle.vx_buffer.specs.Buffer.{Buffer, coded_buffer}
use Rattle.vx_trees.specs.Rose.{node, end}
use Rattle.vx_types.specs.Kind.{utf8 as utf8_kind, binary as binary_kind}
use Rattle.vx_types.specs.Typ.{Typ}
use Rattle.vx_types.specs.Value.{lone}
use Rattle.vx_array_tree.specs.Encodings.VarBins.{mark_of, IsContent}
use Rattle.vx_array_tree.specs.Encodings.Primitives.{IsFilled}
use Rattle.vx_array_tree.specs.Place.{Place, AllowsValidity, before_validity}
use Rattle.vx_array_tree.specs.Rows.{Rows, by_validity, validity, IsThere}

-- The identifier is "vortex.varbinview".
abbrev pub id : List ℕ
id = codes "vortex.varbinview"

-- A node holds the buffers that views name by number, and the views.
pub record Data : Type 0 where
  pub buffers : List Buffer
  pub views : Buffer

-- The code by which what nodes hold is told apart.
abbrev pub data_code : Coded Data
data_code =
    code_by (List Buffer × Buffer) (coded× (coded_list coded_buffer) coded_buffer) (λ x. (x.buffers, x.views))
    (λ p. record { buffers = p.0; views = p.1 }) (λ _. refl)

-- Of a node's buffers the views stand last.
abbrev pub buffers_of : Data → List Buffer
buffers_of x = x.buffers ++ x.views ∷ []

-- What a node of a first buffer and the others holds.
abbrev pub data_of : Buffer → List Buffer → Data
data_of b [] = record { buffers = []; views = b }
data_of b (c ∷ bs) = let x = data_of c bs in record { buffers = b ∷ x.buffers; views = x.views }

-- What a node of these buffers holds.
abbrev pub body_of : List Buffer → Option Data
body_of [] = None
body_of (b ∷ bs) = Some (data_of b bs)

-- A node is of the type of texts or of bytes, and has at most a validity.
abbrev pub plan : Typ → ℕ → ℕ → Option (List Place)
plan (node (utf8_kind m) end) n k = before_validity [] n k
plan (node (binary_kind m) end) n k = before_validity [] n k
plan _ n k = None

-- Each child is a control child: there is none but a validity.
abbrev pub is_control : ℕ → Bool
is_control i = true

-- A validity stands only where rows may be null.
abbrev pub Allows : Typ → ℕ → Type 0
Allows d k = AllowsValidity d 0 k

-- There is a view for each row.
abbrev pub Holds : ℕ → Data → Type 0
Holds n x = IsFilled 16 n x.views

-- A long view's bytes: those at its offset in the buffer that it names, if they are there and begin as its
-- prefix says.
abbrev pub found : ℕ → List ℕ → ℕ → List ℕ → Option (List ℕ)
found size prefix offset bytes =
    let bs = take size (drop offset bytes) in
    if nat_le (offset + size) (length bytes) && bytes_eq (take 4 bs) prefix then Some bs else None

-- After its size a long view has four bytes of prefix, a buffer's number and an offset in it.
abbrev pub long_view : List Buffer → ℕ → List ℕ → Option (List ℕ)
long_view buffers size view =
    elim (slice_get buffers (from_le_bytes w32 (take 4 (drop 8 view)))) [
      | None ↦ None
      | Some b ↦ found size (take 4 (drop 4 view)) (from_le_bytes w32 (take 4 (drop 12 view))) b.bytes
    ]

-- A view begins with a size. Up to 12 bytes follow in the view itself; what is left of it then tells nothing.
abbrev pub viewed : List Buffer → List ℕ → Option (List ℕ)
viewed buffers view =
    let size = from_le_bytes w32 (take 4 view) in
    if nat_le size 12 then Some (take size (drop 4 view)) else long_view buffers size view

-- The bytes of a row: none, where its view names none.
abbrev pub bytes_at : Data → ℕ → Option (List ℕ)
bytes_at x i = viewed x.buffers (take 16 (drop (16 * i) x.views.bytes))

-- Where a row is valid, so are its bytes, and under the type of texts they are a text.
abbrev pub Content : Typ → ℕ → Data → List Rows → Type 0
Content d n x rs = (i : ℕ) → i < n → IsThere (validity rs) i → (bs : List ℕ) × (bytes_at x i ≡ Some bs) × IsContent d bs

-- A valid row is its bytes.
abbrev pub rows : Typ → ℕ → Data → List Rows → Rows
rows d n x rs = by_validity n (validity rs) (λ i. lone (mark_of d (unwrap_or (bytes_at x i) [])))
