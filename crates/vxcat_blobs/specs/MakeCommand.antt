-- The command `make`: its words, what it makes, saves and prints, and how it ends.
use Rattle.std.specs.Prelude.{◌≡◌, ◌≢◌, ◌⊎◌, ◌<◌, ◌≤◌, ◌^◌, ℕ, IsTrue, None, Some, List, [], ◌∷◌, codes, decimal}
use Rattle.std.specs.Io.KnownBytes.{Keeps}
use Rattle.vx_flat.specs.Layout.{written_layout}
use Rattle.vx_trees.specs.Rose.{label}
use Rattle.vx_type_wire.specs.Known.{IsRead, no_readers}
use Rattle.vx_type_wire.specs.Schema.{type_schema}
use Rattle.vx_type_wire.specs.Shown.{ShowsType}
use Rattle.vx_type_wire.specs.TypeTable.{type_table}
use Rattle.vx_array_tree.specs.Tree.{Tree}
use Rattle.vx_wire_tree.specs.Context.{Context, grown}
use Rattle.vx_wire_tree.specs.Session.{SessionMeaning}
use Rattle.vx_encodings.specs.Messages.{codec}
use Rattle.vx_registry.specs.Session.{shipped_meaning}
use Rattle.vx_serde.specs.declared.options.SerializeOptions.{SerializeOptions}
use Rattle.vx_serde.specs.ArrayNode.{plain_options}
use Rattle.vx_serde.specs.Spells.{Spells, blob_of}
use Rattle.vx_generator.specs.Made.{made}
use Rattle.vx_generator.specs.Summary.{summary}
use Rattle.vxcat_store.specs.declared.status.Status.{Status}
use Rattle.vxcat_store.specs.declared.status.Status.TheVariants.{Done, OutOfMemory, SaveFault, WriteFault}
use Rattle.vxcat_store.specs.IdFile.{id_text}
use Rattle.vxcat_blobs.specs.Recode.{context_of}
use Rattle.vxcat_store.specs.RunState.{IsUntouched, Prints, PrintsPrefix, Run}
use Rattle.vxcat_store.specs.StoreState.{HasRisen, LoadsNothing, Stands, StoreState}

-- ---- the words

-- What the words of the command name: the seed, the number of rows, and the files of the type, of the blob and of its
-- identifiers.
pub record Make : Type 0 where
  pub seed : ℕ
  pub rows : ℕ
  pub type_file : List ℕ
  pub out : List ℕ
  pub id_file : List ℕ

-- No two of the outputs have one name.
pub record AreApart (line : Make) : Type 0 where
  pub type_or_blob : line.type_file ≢ line.out
  pub type_or_ids : line.type_file ≢ line.id_file
  pub blob_or_ids : line.out ≢ line.id_file

-- The words are `make SEED ROWS TYPE OUT IDS`. A number is written in decimal digits without leading zeros; the seed lies
-- below 2^64, there are at most 1,000,000 rows, and the names of the outputs differ.
pub record InvokesMake (words : List (List ℕ)) (line : Make) : Type 0 where
  pub words_are : words ≡ codes "make" ∷ decimal line.seed ∷ decimal line.rows ∷ line.type_file ∷ line.out ∷ line.id_file ∷ []
  pub fits : line.seed < 2 ^ 64
  pub few : line.rows ≤ 1000000
  pub apart : AreApart line

-- ---- what is made

-- What reads and writes arrays: the shipped encodings, and no readers of extensions.
abbrev pub make_session : SessionMeaning
make_session = shipped_meaning no_readers

-- The context under which the blob is written: it has no identifiers, and allows all.
abbrev pub no_ids : Context
no_ids = context_of None

-- How the blob is written: without pads, and with the limits of plain trees.
abbrev pub make_options : SerializeOptions
make_options = plain_options

-- What is saved: the bytes of the type, the blob, and the identifiers of the blob's nodes.
pub record MadeFiles : Type 0 where
  pub type_bytes : List ℕ
  pub blob : List ℕ
  pub ids : List (List ℕ)

-- The blob is the one that is written for an array, without pads, under a context without identifiers; with the
-- identifiers by which this context has grown, it spells the array.
pub record IsMadeBlob (array : Tree) (blob : List ℕ) (ids : List (List ℕ)) : Type 0 where
  pub written : blob ≡ blob_of make_session array no_ids make_options
  pub ids_grown : grown codec make_session no_ids array ≡ Some (record { ids = ids; allowed = None })
  pub spelled : Spells blob ids (label array).dtype (label array).len make_session array

-- The files are an array's. The bytes of the type are the written form of its table, and are read as the type, and the blob
-- is the array's.
pub record AreFilesOf (array : Tree) (files : MadeFiles) : Type 0 where
  pub type_written : files.type_bytes ≡ written_layout type_schema (type_table (label array).dtype)
  pub type_read : IsRead (ShowsType files.type_bytes) no_readers (label array).dtype
  pub blob : IsMadeBlob array files.blob files.ids

-- The table that the words ask for: that of the seed and the number of rows.
abbrev pub table_of : Make → Tree
table_of line = made line.seed line.rows

-- ---- what is saved

-- The outputs stand at their names: the bytes of the type, the blob, and the text of its identifiers.
pub record AreMadeSaved (line : Make) (after : StoreState) (files : MadeFiles) : Type 0 where
  pub type_saved : Stands after line.type_file files.type_bytes
  pub blob_saved : Stands after line.out files.blob
  pub ids_saved : Stands after line.id_file (id_text files.ids)

-- A name holds what it held before.
abbrev pub KeepsName : StoreState → StoreState → List ℕ → Type 0
KeepsName before after name = IsTrue before.tells → after.file name ≡ before.file name

-- Names that are no outputs of the command hold what they held before.
pub record KeepsAllOthers (line : Make) (before after : StoreState) : Type 0 where
  pub told : after.tells ≡ before.tells
  pub files : (name : List ℕ) → name ≢ line.type_file → name ≢ line.out → name ≢ line.id_file → KeepsName before after name

-- The output at which the saves ended.
pub data Output : Type 0 where
  at_type : Output
  at_blob : Output
  at_ids : Output

-- The outputs before that one are saved, and those after it are untouched. Nothing is said of what stands at its own
-- name.
abbrev pub StopsAt : Output → Make → StoreState → StoreState → MadeFiles → Type 0
StopsAt at_type line before after files = KeepsName before after line.out × KeepsName before after line.id_file
StopsAt at_blob line before after files = Stands after line.type_file files.type_bytes × KeepsName before after line.id_file
StopsAt at_ids line before after files = Stands after line.type_file files.type_bytes × Stands after line.out files.blob

-- ---- how it ends

-- It came to no save: nothing was loaded, saved or printed.
pub record EndsUnsaved (run : Run) : Type 0 where
  pub loaded : LoadsNothing run.before run.after
  pub untouched : IsUntouched run

-- It came to its saves and no further: nothing was loaded, its outputs were made, the saves ended at one of them, names
-- that are no outputs hold what they held, and nothing is printed.
pub record EndsAtSave (line : Make) (run : Run) : Type 0 where
  pub loaded : LoadsNothing run.before run.after
  pub files : MadeFiles
  pub are_made : AreFilesOf (table_of line) files
  pub output : Output
  pub stopped : StopsAt output line run.before run.after files
  pub others : KeepsAllOthers line run.before run.after
  pub unprinted : Keeps run.out_before.written run.out_after.written

-- It came to its line: nothing was loaded, its outputs are saved, other names hold what they held, and of the table's
-- line there was printed what the argument says.
pub record EndsAtLine (line : Make) (run : Run) (IsPrinted : Run → List ℕ → Type 0) : Type 0 where
  pub loaded : LoadsNothing run.before run.after
  pub files : MadeFiles
  pub are_made : AreFilesOf (table_of line) files
  pub saved : AreMadeSaved line run.after files
  pub others : KeepsAllOthers line run.before run.after
  pub printed : IsPrinted run (summary (table_of line))

-- How it ends, by its status; whichever it is, nothing was loaded. 0: the outputs are saved and the line is printed. 1:
-- nothing is saved, or the saves ended at one of the outputs, and nothing is printed. 4: the count of save faults rose,
-- and the saves ended at one of the outputs. 5: the count of the sink's faults rose, the outputs are saved, and a
-- prefix of the line is printed. There is no other end for these words.
abbrev pub EndsMake : Status → Make → Run → Type 0
EndsMake Done line run = EndsAtLine line run Prints
EndsMake OutOfMemory line run = EndsUnsaved run ⊎ EndsAtSave line run
EndsMake SaveFault line run = HasRisen run.before.save_faults run.after.save_faults × EndsAtSave line run
EndsMake WriteFault line run = HasRisen run.out_before.faults run.out_after.faults × EndsAtLine line run PrintsPrefix
EndsMake status line run = ⊥

-- It can end well, whatever the store: it loads nothing.
abbrev pub CanEndMake : Make → StoreState → Type 0
CanEndMake line before = Unit {0}
