-- What is loaded of a file to find its footer.
use Rattle.std.specs.Prelude.{ℕ, ◌≡◌, true, List, Option, Some, None, length, take, drop, bytes_eq, option_map, ◌&&◌, if◌then◌else◌}
use Rattle.std.specs.List.{list_all}
use Rattle.std.specs.Int.{w32, from_le_bytes}
use Rattle.vx_forms.specs.Form.{read_all}
use Rattle.vx_forms.specs.Frame.{Framed}
use Rattle.vx_type_wire.specs.Known.{ExtMeaning}
use Rattle.vx_type_wire.specs.Shown.{ShowsType}
use Rattle.vx_file.specs.declared.error.FileError.{FileError}
use Rattle.vx_file.specs.declared.error.FileError.TheVariants.{OutOfMemory, NotAFile, BadType}
use Rattle.vx_file.specs.Within.{lies_within}
use Rattle.vx_file.specs.Footer.{Footer, footer_form}
use Rattle.vx_file.specs.Shows.{File, footer_with, ReadsNoTable}
use Rattle.vx_file.specs.declared.loading.LoadedFrame.{LoadedFrame}

-- The length of a footer, by the first four and the last eight bytes of a file, where its ends are the word.
abbrev pub len_by_ends : List ℕ → List ℕ → List ℕ → Option ℕ
len_by_ends word head tail = if bytes_eq head word && bytes_eq (drop 4 tail) word then Some (from_le_bytes w32 (take 4 tail)) else None

-- A footer's bytes at their offset.
abbrev pub frame_of : LoadedFrame → Framed (List ℕ)
frame_of x = record { value = x.footer; offset = x.offset }

-- ---- a footer's bytes

-- The bytes are the footer of a file of these contents, with a message of its type, at an offset.
pub record IsFooterOf (bytes : List ℕ) (offset : ℕ) (file : File) : Type 0 where
  pub message : List ℕ
  pub footer_is : read_all footer_form bytes ≡ Some (footer_with file message)
  pub within : list_all (lies_within offset) file.ranges ≡ true
  pub dtype : ShowsType message file.dtype

-- The bytes are a footer at an offset, and no type of tables with so many columns is read of its message.
pub record HasNoTable (x : ExtMeaning) (bytes : List ℕ) (offset : ℕ) : Type 0 where
  pub footer : Footer
  pub footer_is : read_all footer_form bytes ≡ Some footer
  pub within : list_all (lies_within offset) footer.ranges ≡ true
  pub none : ReadsNoTable x footer.type_message (length footer.ranges)

-- The bytes are no footer of ranges that end at or before an offset.
abbrev pub IsNoFooter : List ℕ → ℕ → Type 0
IsNoFooter bytes offset = (footer : Footer) → read_all footer_form bytes ≡ Some footer → list_all (lies_within offset) footer.ranges ≡ true → ⊥

-- Why bytes are not the footer of a file at an offset.
abbrev pub RefusesFooter : ExtMeaning → List ℕ → ℕ → FileError → Type 0
RefusesFooter x bytes offset OutOfMemory = Unit {0}
RefusesFooter x bytes offset NotAFile = IsNoFooter bytes offset
RefusesFooter x bytes offset BadType = HasNoTable x bytes offset
RefusesFooter x bytes offset _ = ⊥
