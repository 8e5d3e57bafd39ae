-- What contracts see of the words of a command, and of what the program holds while it runs.
use Rattle.std.specs.Prelude.{◌≡◌}
use Rattle.vx_serde.specs.Causes.{Refuses}
use Rattle.vx_serde.specs.Recoding.{IsFaithful, IsRecoded, Product}
use Rattle.vx_serde.specs.Request.{Request}
use Rattle.vxcat_blobs.specs.declared.recode.words.RecodeWords.{RecodeWords}
use Rattle.vxcat_blobs.specs.declared.recode.steps.Inputs.{Inputs}
use Rattle.vxcat_blobs.specs.declared.recode.steps.Outputs.{Outputs}
use Rattle.vxcat_store.specs.declared.status.Status.{Status}
use Rattle.vxcat_store.specs.declared.status.Status.TheVariants.{OutOfMemory, BadType, BadIds, Refused}
use Rattle.vxcat_blobs.specs.GivenOptions.{given_in, settings_by}
use Rattle.vxcat_blobs.specs.Recode.{IsMade, Loaded, Recode}
use Rattle.vx_serialized.specs.Refusals.{wire_error}

-- The line of the words.
abbrev pub line_of : RecodeWords → Recode
line_of words = record {
  type_file = words.type_file.now;
  blob_file = words.blob_file.now;
  len = words.len;
  id_file = words.id_file.now;
  out = words.out.now;
  out_ids = words.out_ids.now;
  settings = settings_by (given_in words.options);
}

-- The contents of the files that were loaded.
abbrev pub loaded_of : Inputs → Loaded
loaded_of inputs = record { type_bytes = inputs.type_bytes; blob = inputs.blob; id_bytes = inputs.id_bytes; allow_bytes = inputs.allow_bytes }

-- The outputs are a product's array, the buffers of its blob, and the identifiers of its context.
pub record Holds (outputs : Outputs) (made : Product) : Type 0 where
  pub array_is : outputs.array ≡ made.array
  pub buffers_are : outputs.buffers ≡ made.buffers
  pub ids_are : outputs.ids ≡ made.context.ids

-- The outputs are what the command makes of what was loaded.
pub record AreOutputs (line : Recode) (loaded : Loaded) (outputs : Outputs) : Type 0 where
  pub made : Product
  pub is_made : IsMade line loaded made
  pub holds : Holds outputs made

-- The outputs are what `recode` makes of what is asked.
pub record AreMade (asked : Request) (outputs : Outputs) : Type 0 where
  pub made : Product
  pub recoded : IsRecoded asked made
  pub faithful : IsFaithful asked made
  pub holds : Holds outputs made

-- ---- the status of a step that is refused

-- A type file is a bad one, or allocation failed.
abbrev pub RefusesTypeFile : Status → Type 0
RefusesTypeFile OutOfMemory = Unit {0}
RefusesTypeFile BadType = Unit {0}
RefusesTypeFile status = ⊥

-- An id file is a bad one where nothing is read from it, or allocation failed.
abbrev pub RefusesIdFile : {A : Type 0} → Status → (A → Type 0) → Type 0
RefusesIdFile OutOfMemory Reads = Unit {0}
RefusesIdFile {A} BadIds Reads = (ids : A) → ¬ (Reads ids)
RefusesIdFile status Reads = ⊥

-- A blob is refused with its cause, or allocation failed.
abbrev pub RefusesBlob : Status → Request → Type 0
RefusesBlob OutOfMemory asked = Unit {0}
RefusesBlob (Refused refusal) asked = Refuses asked (wire_error refusal)
RefusesBlob status asked = ⊥
