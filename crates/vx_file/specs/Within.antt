-- Whether ranges lie within a file, as a test that computes.
use Rattle.std.specs.Prelude.{ℕ, ◌+◌, Bool, ◌&&◌, nat_le}
use Rattle.vx_file.specs.Footer.{FileRange}

-- Whether a range lies between the first word and an offset.
abbrev pub lies_within : ℕ → FileRange → Bool
lies_within offset r = nat_le 4 r.start && nat_le (r.start + r.len) offset
