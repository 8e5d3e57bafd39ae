-- What the writer of a footer answers.
use Rattle.std.specs.Prelude.{ℕ, ◌≤◌, ◌^◌, List, length}
use Rattle.vx_file.specs.declared.error.FileError.{FileError}
use Rattle.vx_file.specs.declared.error.FileError.TheVariants.{OutOfMemory, TooLong}
use Rattle.vx_file.specs.declared.footer.ColumnRange.{ColumnRange}
use Rattle.vx_file.specs.Footer.{Footer, footer_form}
use Rattle.vx_file.specs.FooterReading.{ranges_of}

-- The footer of these parts.
abbrev pub footer_in : ℕ → List ColumnRange → List (List ℕ) → List ℕ → Footer
footer_in rows ranges ids message = record { rows = rows; ranges = ranges_of ranges; ids = ids; type_message = message }

-- Why a footer is not written: by the refusal. It has 2^32 bytes or more.
abbrev pub RefusesWritingFooter : Footer → FileError → Type 0
RefusesWritingFooter f OutOfMemory = Unit {0}
RefusesWritingFooter f TooLong = 2 ^ 32 ≤ length (footer_form.write f)
RefusesWritingFooter f _ = ⊥
