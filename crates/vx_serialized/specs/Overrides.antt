-- Buffers that are given in place of those that descriptors describe, by the descriptors' numbers.
use Rattle.std.specs.Prelude.{ℕ, ◌≡◌, ◌+◌, ◌<◌, ◌≤◌, ◌^◌, suc, List, [], ◌∷◌, ◌⊎◌, Option, Some, None, take, drop, length, nat_lt, if◌then◌else◌}
use Rattle.std.specs.BTreeMap.{BTreeMap, get}
use Rattle.std.specs.Ordering.{nat_cmp}
use Rattle.vx_buffer.specs.Buffer.{Buffer}
use Rattle.vx_serialized.specs.declared.error.WireError.{WireError}
use Rattle.vx_serialized.specs.declared.error.WireError.TheVariants.{OutOfMemory, BadAlignment, Compressed, OutOfBounds}
use Rattle.vx_serialized.specs.Message.{Descriptor, place_behind}

-- The buffer that is given in place of the one of a number, where one is given.
abbrev pub Overrides : Type 0
Overrides = ℕ → Option Buffer

-- None is given.
abbrev pub no_override : Overrides
no_override = λ i. None

-- The buffers of a map from numbers below 2^32.
abbrev pub overrides_in : BTreeMap ℕ Buffer → Overrides
overrides_in given = λ i. if nat_lt i (2 ^ 32) then get nat_cmp given i else None

-- The buffer of a descriptor whose padding begins at a place of the segment, or the one that is given in its place:
-- that takes the descriptor's alignment, and keeps its bytes.
abbrev pub buffer_with : Option Buffer → List ℕ → ℕ → Descriptor → Buffer
buffer_with None segment p d = record { bytes = take d.len (drop (p + d.padding) segment); exponent = d.exponent }
buffer_with (Some b) segment p d = record { bytes = b.bytes; exponent = d.exponent }

-- The buffers of descriptors from the number i on. The padding of the first begins at the place p of the segment, that
-- of each other after the descriptor's range before it, whether a buffer is given there or not.
abbrev pub buffers_with : Overrides → List ℕ → ℕ → ℕ → List Descriptor → List Buffer
buffers_with given segment i p [] = []
buffers_with given segment i p (d ∷ ds) = buffer_with (given i) segment p d ∷ buffers_with given segment (suc i) (place_behind p d) ds

-- The segment of n bytes has a descriptor's range that ends here, or a buffer is given in its place.
abbrev pub HasRange : Option Buffer → ℕ → ℕ → Type 0
HasRange None n end = end ≤ n
HasRange (Some b) n end = Unit {0}

-- A descriptor has an exponent of at most 16 and no compression, and its range is there or not needed.
pub record IsCleanAt (given : Option Buffer) (n : ℕ) (p : ℕ) (d : Descriptor) : Type 0 where
  pub aligned : d.exponent ≤ 16
  pub plain : d.compression ≡ 0
  pub within : HasRange given n (place_behind p d)

-- Each of the descriptors from the number i on is clean.
abbrev pub AreCleanWith : Overrides → ℕ → ℕ → ℕ → List Descriptor → Type 0
AreCleanWith given n i p [] = Unit {0}
AreCleanWith given n i p (d ∷ ds) = IsCleanAt (given i) n p d × AreCleanWith given n (suc i) (place_behind p d) ds

-- Why a descriptor is refused: an exponent over 16, a compression, or a range that ends past the segment where no
-- buffer is given in its place.
abbrev pub RefusesAt : WireError → Option Buffer → ℕ → ℕ → Descriptor → Type 0
RefusesAt BadAlignment given n p d = 16 < d.exponent
RefusesAt Compressed given n p d = 0 < d.compression
RefusesAt OutOfBounds None n p d = n < place_behind p d
RefusesAt _ given n p d = ⊥

-- One of the descriptors from the number i on is refused.
abbrev pub RefusesOne : WireError → Overrides → ℕ → ℕ → ℕ → List Descriptor → Type 0
RefusesOne e given n i p [] = ⊥
RefusesOne e given n i p (d ∷ ds) = RefusesAt e (given i) n p d ⊎ RefusesOne e given n (suc i) (place_behind p d) ds

-- Why descriptors are refused over a segment: one of them is, or allocation failed.
abbrev pub RefusesWith : WireError → Overrides → List ℕ → List Descriptor → Type 0
RefusesWith OutOfMemory given segment ds = Unit {0}
RefusesWith e given segment ds = RefusesOne e given (length segment) 0 0 ds
