-- What contracts see of the words of `make`, and of what it holds while it runs.
use Rattle.std.specs.Prelude.{◌≡◌, ◌≤◌, ℕ, List, string_bytes}
use Rattle.vx_buffer.specs.Buffer.{Buffer}
use Rattle.vx_buffer.specs.Joined.{joined}
use Rattle.vx_array_tree.specs.Tree.{Tree}
use Rattle.vx_wire_tree.specs.Context.{Context}
use Rattle.vx_serde.specs.Serializing.{IsSerialized}
use Rattle.vx_generator.specs.Made.{made}
use Rattle.vx_generator.specs.Summary.{summary}
use Rattle.vxcat_blobs.specs.declared.make.words.MakeWords.{MakeWords}
use Rattle.vxcat_blobs.specs.declared.make.steps.MadeOutputs.{MadeOutputs}
use Rattle.vxcat_blobs.specs.declared.make.steps.WrittenTable.{WrittenTable}
use Rattle.vxcat_blobs.specs.declared.recode.steps.Outputs.{Outputs}
use Rattle.vxcat_blobs.specs.MakeCommand.{AreFilesOf, IsMadeBlob, Make, MadeFiles, Output, StopsAt, make_options, make_session, no_ids}
use Rattle.vxcat_store.specs.StoreState.{StoreState}

-- The line of the words.
abbrev pub make_line : MakeWords → Make
make_line words = record {
  seed = words.seed;
  rows = words.rows;
  type_file = words.type_file.now;
  out = words.out.now;
  id_file = words.id_file.now;
}

-- What is saved of the outputs that the program holds.
abbrev pub files_of : MadeOutputs → MadeFiles
files_of outputs = record { type_bytes = outputs.type_bytes; blob = joined outputs.buffers; ids = outputs.ids }

-- The outputs are those of an array, and their text is the array's line.
pub record AreOutputsOf (array : Tree) (outputs : MadeOutputs) : Type 0 where
  pub are_made : AreFilesOf array (files_of outputs)
  pub line_is : string_bytes outputs.line ≡ summary array

-- An array is the table of some seed and some number of rows.
pub record IsTable (array : Tree) : Type 0 where
  pub seed : ℕ
  pub rows : ℕ
  pub few : rows ≤ 1000000
  pub array_is : array ≡ made seed rows

-- An array was written, without pads and under a context without identifiers.
pub record IsTableWritten (array : Tree) (written : WrittenTable) : Type 0 where
  pub buffers : List Buffer
  pub after : Context
  pub serialized : IsSerialized make_session array make_options no_ids after buffers
  pub blob_is : written.blob.bytes ≡ joined buffers
  pub ids_are : written.ids ≡ after.ids

-- An array was written, read and written again: the new blob is its own, and spells it.
abbrev pub IsWrittenAgain : Tree → Outputs → Type 0
IsWrittenAgain array outputs = IsMadeBlob array (joined outputs.buffers) outputs.ids

-- The saves ended at one of the outputs.
abbrev pub StopsSomewhere : Make → StoreState → StoreState → MadeFiles → Type 0
StopsSomewhere line before after files = (output : Output) × StopsAt output line before after files
