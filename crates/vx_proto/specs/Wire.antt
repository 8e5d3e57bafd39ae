-- Fields as bytes: how each is spelled, and where the first one ends.
use Rattle.std.specs.Prelude.{◌≡◌, ℕ, zero, suc, ◌+◌, ◌-◌, ◌*◌, ◌/◌, ◌%◌, ◌^◌, ◌<◌, ◌≤◌, Bool, true, false, ◌&&◌, List, [], ◌∷◌, ◌++◌, length, take, drop, Option, Some, None, option_and_then, nat_lt, nat_le, if◌then◌else◌}
use Rattle.std.specs.Int.{w32, w64, from_le_bytes}

-- ---- numbers

-- A spelling of a number: seven bits a byte, lowest first; a byte from 128 on is followed by the higher bits. A
-- spelling may be longer than the shortest.
abbrev pub IsVarint : List ℕ → ℕ → Type 0
IsVarint [] n = ⊥
IsVarint (b ∷ []) n = (b < 128) × (n ≡ b)
IsVarint (b ∷ c ∷ bs) n = (128 ≤ b) × ((high : ℕ) × (n + 128 ≡ b + 128 * high) × IsVarint (c ∷ bs) high)

-- A number on the wire: a varint of at most ten bytes, below 2 ^ 64.
pub record SpellsNumber (bytes : List ℕ) (n : ℕ) : Type 0 where
  pub varint : IsVarint bytes n
  pub short : length bytes ≤ 10
  pub fits : n < 2 ^ 64

-- The number at the front, of at most n bytes, and the bytes after it.
abbrev pub varint_at : ℕ → List ℕ → Option (ℕ × List ℕ)
varint_at zero bytes = None
varint_at (suc left) [] = None
varint_at (suc left) (b ∷ bytes) =
    if nat_lt b 128 then Some (b, bytes)
    else option_and_then (λ x. if nat_lt (b - 128 + 128 * x.0) (2 ^ 64) then Some (b - 128 + 128 * x.0, x.1) else None) (varint_at left bytes)

-- The number at the front, of at most ten bytes, and the bytes after it.
unfoldable pub number_at : List ℕ → Option (ℕ × List ℕ)
number_at bytes = varint_at 10 bytes

-- ---- fields

-- What a field holds, by its wire type: VARINT a number, I64 eight bytes, LEN bytes after their length, I32 four bytes.
pub data Part : Type 0 where
  varint : ℕ → Part
  i64 : ℕ → Part
  len : List ℕ → Part
  i32 : ℕ → Part

-- A field: its number and what it holds.
pub record Field : Type 0 where
  pub number : ℕ
  pub part : Part

-- The wire type of a part.
abbrev pub wire_type : Part → ℕ
wire_type (varint n) = 0
wire_type (i64 n) = 1
wire_type (len s) = 2
wire_type (i32 n) = 5

-- The bytes that spell a part: a number; eight or four bytes, lowest first; or a length and that many bytes.
abbrev pub SpellsPart : List ℕ → Part → Type 0
SpellsPart bytes (varint n) = SpellsNumber bytes n
SpellsPart bytes (i64 n) = (length bytes ≡ 8) × (n ≡ from_le_bytes w64 bytes)
SpellsPart bytes (len s) = (front : List ℕ) × SpellsNumber front (length s) × (bytes ≡ front ++ s)
SpellsPart bytes (i32 n) = (length bytes ≡ 4) × (n ≡ from_le_bytes w32 bytes)

-- The bytes that spell a field: a key, which is the field number times 8 plus the wire type, and then the part. A field
-- number is from 1 to 2 ^ 29 - 1, so a key is below 2 ^ 32.
pub record SpellsField (bytes : List ℕ) (f : Field) : Type 0 where
  pub key : List ℕ
  pub part : List ℕ
  pub whole : bytes ≡ key ++ part
  pub named : 0 < f.number
  pub short : f.number < 2 ^ 29
  pub key_is : SpellsNumber key (8 * f.number + wire_type f.part)
  pub part_is : SpellsPart part f.part

-- The bytes that spell a list of fields: one after the other, with nothing between and nothing left.
abbrev pub SpellsMessage : List ℕ → List Field → Type 0
SpellsMessage bytes [] = bytes ≡ []
SpellsMessage bytes (f ∷ fs) = (front : List ℕ) × (rest : List ℕ) × (bytes ≡ front ++ rest) × SpellsField front f × SpellsMessage rest fs

-- The bytes begin with those of a field, and these come after it.
pub record BeginsWith (bytes : List ℕ) (f : Field) (rest : List ℕ) : Type 0 where
  pub front : List ℕ
  pub whole : bytes ≡ front ++ rest
  pub spelled : SpellsField front f

-- No field stands at the front.
abbrev pub BeginsWithNone : List ℕ → Type 0
BeginsWithNone bytes = (f : Field) (rest : List ℕ) → BeginsWith bytes f rest → ⊥

-- ---- cutting

-- The first n bytes, and the bytes after them; none where there are fewer.
abbrev pub bytes_at : ℕ → List ℕ → Option (List ℕ × List ℕ)
bytes_at n bytes = if nat_lt (length bytes) n then None else Some (take n bytes, drop n bytes)

-- The part of this wire type at the front, and the bytes after it; none for a number that is no wire type.
unfoldable pub part_at : ℕ → List ℕ → Option (Part × List ℕ)
part_at zero bytes = option_and_then (λ n. Some (varint n.0, n.1)) (number_at bytes)
part_at (suc zero) bytes = option_and_then (λ x. Some (i64 (from_le_bytes w64 x.0), x.1)) (bytes_at 8 bytes)
part_at (suc (suc zero)) bytes = option_and_then (λ n. option_and_then (λ x. Some (len x.0, x.1)) (bytes_at n.0 n.1)) (number_at bytes)
part_at (suc (suc (suc zero))) bytes = None
part_at (suc (suc (suc (suc zero)))) bytes = None
part_at (suc (suc (suc (suc (suc zero))))) bytes = option_and_then (λ x. Some (i32 (from_le_bytes w32 x.0), x.1)) (bytes_at 4 bytes)
part_at (suc (suc (suc (suc (suc (suc n)))))) bytes = None

-- The field at the front, and the bytes after it.
unfoldable pub field_at : List ℕ → Option (Field × List ℕ)
field_at bytes = option_and_then (λ key.
    if nat_le 8 key.0 && nat_lt key.0 (2 ^ 32)
    then option_and_then (λ p. Some (record { number = key.0 / 8; part = p.0 }, p.1)) (part_at (key.0 % 8) key.1)
    else None) (number_at bytes)

-- A field before those that are cut from the rest.
abbrev pub with_field : Field → List Field × Bool → List Field × Bool
with_field f more = (f ∷ more.0, more.1)

-- The field at the front, if there is one, and then those that `more` finds after it.
abbrev pub cut_from : (List ℕ → List Field × Bool) → Option (Field × List ℕ) → List Field × Bool
cut_from more None = ([], false)
cut_from more (Some x) = with_field x.0 (more x.1)

-- The fields before the first place where no field stands, and whether that place is the end. Fuel that is at least the
-- number of bytes is enough.
abbrev pub cut_within : ℕ → List ℕ → List Field × Bool
cut_within fuel [] = ([], true)
cut_within zero (b ∷ bytes) = ([], false)
cut_within (suc fuel) (b ∷ bytes) = cut_from (cut_within fuel) (field_at (b ∷ bytes))

-- The fields before the first place where no field stands, and whether that place is the end.
unfoldable pub cut : List ℕ → List Field × Bool
cut bytes = cut_within (length bytes) bytes
