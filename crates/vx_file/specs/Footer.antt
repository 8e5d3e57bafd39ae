-- The footer of a column file.
use Rattle.std.specs.Prelude.{ℕ, List, codes}
use Rattle.vx_forms.specs.Form.{Form}
use Rattle.vx_forms.specs.Lists.{list}
use Rattle.vx_forms.specs.Mapped.{mapped}
use Rattle.vx_forms.specs.Numbers.{uint64}
use Rattle.vx_forms.specs.Octets.{octets, text}
use Rattle.vx_forms.specs.Pairs.{pair}

-- A part of a file: the offset at which it starts, and how many bytes it has.
pub record FileRange : Type 0 where
  pub start : ℕ
  pub len : ℕ

-- A footer tells how many rows there are, where each column's blob stands, the identifiers that the blobs' nodes name by
-- number, and a message of the rows' type.
pub record Footer : Type 0 where
  pub rows : ℕ
  pub ranges : List FileRange
  pub ids : List (List ℕ)
  pub type_message : List ℕ

-- A count or a length of four bytes is at most this.
abbrev pub most : ℕ
most = 4294967295

-- A start and a length, as a range,
abbrev pub range_of_pair : ℕ × ℕ → FileRange
range_of_pair p = record { start = p.0; len = p.1 }

-- and a range as its start and its length.
abbrev pub pair_of_range : FileRange → ℕ × ℕ
pair_of_range r = (r.start, r.len)

-- A range is its start and its length, numbers of eight bytes.
abbrev pub range_form : Form FileRange
range_form = mapped range_of_pair pair_of_range (pair uint64 uint64)

-- The parts of a footer in their order.
abbrev pub FooterParts : Type 0
FooterParts = ℕ × (List FileRange × (List (List ℕ) × List ℕ))

-- The parts as a footer,
abbrev pub footer_of_parts : FooterParts → Footer
footer_of_parts p = record { rows = p.0; ranges = p.1.0; ids = p.1.1.0; type_message = p.1.1.1 }

-- and a footer as its parts.
abbrev pub parts_of_footer : Footer → FooterParts
parts_of_footer f = (f.rows, (f.ranges, (f.ids, f.type_message)))

-- The ranges after their count,
abbrev pub ranges_form : Form (List FileRange)
ranges_form = list 0 most range_form

-- and the identifiers after theirs, each a text after its length.
abbrev pub ids_form : Form (List (List ℕ))
ids_form = list 0 most (text 0 most)

-- A footer is the number of rows in eight bytes, the ranges, the identifiers, and the type's message after its length.
abbrev pub footer_form : Form Footer
footer_form = mapped footer_of_parts parts_of_footer (pair uint64 (pair ranges_form (pair ids_form (octets 0 most))))

-- The word with which a column file begins and ends.
abbrev pub file_word : List ℕ
file_word = codes "VXCF"
