-- What the reader of a footer answers.
use Rattle.std.specs.Prelude.{List, map}
use Rattle.vx_file.specs.declared.footer.ColumnRange.{ColumnRange}
use Rattle.vx_file.specs.declared.footer.FooterRead.{FooterRead}
use Rattle.vx_file.specs.Footer.{FileRange, Footer}

-- A range in memory as contracts see it.
abbrev pub range_of : ColumnRange → FileRange
range_of r = record { start = r.start; len = r.len }

-- Ranges so.
abbrev pub ranges_of : List ColumnRange → List FileRange
ranges_of rs = map range_of rs

-- What was read of a footer.
abbrev pub footer_of : FooterRead → Footer
footer_of x = record { rows = x.rows; ranges = ranges_of x.ranges.items; ids = x.ids; type_message = x.type_message.now }
