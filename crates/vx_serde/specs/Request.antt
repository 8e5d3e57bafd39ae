-- What `recode` is asked: to read an array from a blob, and to write it again.
use Rattle.std.specs.Prelude.{ℕ, List, IsSome}
use Rattle.vx_buffer.specs.Buffer.{Buffer}
use Rattle.vx_types.specs.Typ.{Typ}
use Rattle.vx_types.specs.Seen.{typ}
use Rattle.vx_types.specs.declared.dtype.DType.{DType}
use Rattle.vx_array_tree.specs.Tree.{Tree}
use Rattle.vx_wire_tree.specs.Context.{Context, grown}
use Rattle.vx_wire_tree.specs.Session.{SessionMeaning}
use Rattle.vx_encodings.specs.Messages.{codec}
use Rattle.vx_serde.specs.declared.options.SerializeOptions.{SerializeOptions}
use Rattle.vx_serde.specs.Spells.{Spells, KeepsReaderLimits, KeepsWriterLimits}

-- A blob, and the type, the length and the identifiers with which it is to be read; and the context and the options with
-- which its array is to be written; both under a session.
pub record Request : Type 0 where
  pub blob : List ℕ
  pub dtype : Typ
  pub len : ℕ
  pub ids : List (List ℕ)
  pub context : Context
  pub options : SerializeOptions
  pub session : SessionMeaning

-- What is asked of a blob's bytes, at a type and a length, with identifiers, and under a context, a session and options.
abbrev pub request_for : List ℕ → Typ → ℕ → List (List ℕ) → Context → SessionMeaning → SerializeOptions → Request
request_for blob dtype len ids context session options = record {
  blob = blob;
  dtype = dtype;
  len = len;
  ids = ids;
  context = context;
  options = options;
  session = session;
}

-- What a call asks by its arguments.
abbrev pub request : Buffer → DType → ℕ → List (List ℕ) → Context → SessionMeaning → SerializeOptions → Request
request blob dtype len ids context session options = request_for blob.bytes (typ dtype) len ids context session options

-- The blob spells the array, read as it is asked.
abbrev pub IsSpelled : Request → Tree → Type 0
IsSpelled asked array = Spells asked.blob asked.ids asked.dtype asked.len asked.session array

-- What is asked can be done: the blob spells an array, the limits on reading and writing hold, and the context takes
-- the array's identifiers. This is used for sessions in which no plugin reads or writes.
pub record CanRecode (asked : Request) : Type 0 where
  pub array : Tree
  pub spelled : IsSpelled asked array
  pub reader_limits : KeepsReaderLimits asked.options asked.blob
  pub writer_limits : KeepsWriterLimits asked.session array asked.context asked.options
  pub grows : IsSome (grown codec asked.session asked.context array)
