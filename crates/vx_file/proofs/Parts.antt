-- Parts of bytes, and parts of those.
use Rattle.std.proofs.Common.{ℕ, ◌≡◌, ◌+◌, ◌-◌, ◌≤◌, List, length, take, drop, sym, ap, ◌∙◌, arith}
use Rattle.std.proofs.lemmas.List.{drop-drop, drop-take, take-take, length-drop, length-take, take_all}
use Rattle.vx_file.specs.Selecting.{part_of, StandAt}

-- A part of a part stands in the whole.
pub part_of_part : (bytes : List ℕ) (start len offset n : ℕ) → offset + n ≤ len → part_of (part_of bytes start len) offset n ≡ part_of bytes (start + offset) n
part_of_part bytes start len offset n h =
    let rest = drop start bytes in
    let room : start + len - start ≡ offset + (len - offset) = omega (arith, h) in
    let fits : offset + n - offset ≤ len - offset = omega (arith, h) in
    let same : offset + n - offset ≡ start + offset + n - (start + offset) = omega arith in
    ap (λ k. take (offset + n - offset) (drop offset (take k rest))) room
    ∙ (ap (λ z. take (offset + n - offset) z) (drop-take offset (len - offset) rest)
    ∙ (take-take (offset + n - offset) (len - offset) (drop offset rest) fits
    ∙ (ap (λ z. take (offset + n - offset) z) (drop-drop offset start bytes)
    ∙ ap (λ k. take k (drop (start + offset) bytes)) same)))

-- A part has as many bytes as are asked.
pub part_length : (bytes : List ℕ) (start len : ℕ) → start + len ≤ length bytes → length (part_of bytes start len) ≡ len
part_length bytes start len h = omega (arith, length-take (start + len - start) (drop start bytes), length-drop start bytes, h)

-- All bytes are a part.
pub whole_part : (bytes : List ℕ) (len : ℕ) → length bytes ≡ len → part_of bytes 0 len ≡ bytes
whole_part bytes len e = take_all (0 + len - 0) bytes (omega (arith, e))

-- And stand in themselves.
pub stand_whole : (bytes : List ℕ) → StandAt bytes 0 bytes
stand_whole bytes = take_all (0 + length bytes - 0) bytes (omega arith)

-- A part of bytes that stand in others.
pub part_there : (bytes own : List ℕ) (start offset n : ℕ) → StandAt bytes start own → offset + n ≤ length own → part_of own offset n ≡ part_of bytes (start + offset) n
part_there bytes own start offset n stand h =
    ap (λ z. part_of z offset n) (sym stand) ∙ part_of_part bytes start (length own) offset n h
