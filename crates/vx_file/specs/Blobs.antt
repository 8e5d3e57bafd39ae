-- Blobs one after the other, and where they stand.
use Rattle.std.specs.Prelude.{ℕ, ◌+◌, ◌≡◌, List, [], ◌∷◌, ◌++◌, length}
use Rattle.vx_file.specs.Footer.{FileRange}
use Rattle.vx_file.specs.Selecting.{bytes_in}

-- The ranges of blobs that stand one after the other from an offset on.
abbrev pub ranges_from : ℕ → List (List ℕ) → List FileRange
ranges_from offset [] = []
ranges_from offset (blob ∷ blobs) = record { start = offset; len = length blob } ∷ ranges_from (offset + length blob) blobs

-- Blobs one after the other.
abbrev pub all_blobs : List (List ℕ) → List ℕ
all_blobs [] = []
all_blobs (blob ∷ blobs) = blob ++ all_blobs blobs

-- Each range's bytes are the blob in its place.
abbrev pub HoldBlobs : List ℕ → List FileRange → List (List ℕ) → Type 0
HoldBlobs bytes [] [] = Unit {0}
HoldBlobs bytes (r ∷ rs) (b ∷ bs) = (bytes_in bytes r ≡ b) × HoldBlobs bytes rs bs
HoldBlobs bytes _ _ = ⊥
