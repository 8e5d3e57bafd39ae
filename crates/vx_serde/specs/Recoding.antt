-- What `recode` makes, and what it leaves.
use Rattle.std.specs.Prelude.{◌≡◌, ◌⊎◌, List, Some}
use Rattle.vx_buffer.specs.Buffer.{Buffer}
use Rattle.vx_array_tree.specs.Tree.{Tree}
use Rattle.vx_wire_tree.specs.Context.{Context, grown}
use Rattle.vx_wire_tree.specs.Session.{IsShipped}
use Rattle.vx_wire_tree.specs.Wire.{ids_in}
use Rattle.vx_wire_tree.specs.Written.{wire, canon}
use Rattle.vx_encodings.specs.Messages.{codec}
use Rattle.vx_serde.specs.declared.recoding.Recoded.{Recoded}
use Rattle.vx_serde.specs.KeptContext.{KeepsContext}
use Rattle.vx_serde.specs.Request.{Request, request_for, IsSpelled, CanRecode}
use Rattle.vx_serde.specs.Serializing.{IsSerialized, ReturnsWhole, IsSpelledAgain}
use Rattle.vx_serde.specs.Spells.{Spells, KeepsReaderLimits, blob_of}
use Rattle.vx_serde.specs.Sums.{sums_canonical}
use Rattle.vx_serde.specs.Taking.{as_written}
use Rattle.vx_buffer.specs.Joined.{joined}

-- What is made: an array, the buffers of its blob in order, and the context after it.
pub record Product : Type 0 where
  pub array : Tree
  pub buffers : List Buffer
  pub context : Context

-- What a call made, by its result and its context.
abbrev pub product : Recoded → Context → Product
product recoded context = record { array = recoded.array; buffers = recoded.buffers; context = context }

-- The blob spells the array; the limits on reading were kept, and the buffers are those that the array is written as.
-- They spell it again where it returns, whatever encodings and plugins wrote.
pub record IsRecoded (asked : Request) (made : Product) : Type 0 where
  pub spelled : IsSpelled asked made.array
  pub reader_limits : KeepsReaderLimits asked.options asked.blob
  pub serialized : IsSerialized asked.session made.array asked.options asked.context made.context made.buffers
  pub returned : ReturnsWhole asked.session asked.options made.array → IsSpelledAgain asked.session made.array made.context made.buffers

-- The request of a second call, which reads the new blob with the grown context, and writes from the context with which
-- the first call began.
abbrev pub asked_again : Request → Product → Request
asked_again asked made = request_for (joined made.buffers) asked.dtype asked.len made.context.ids asked.context asked.session asked.options

-- Recoding twice is recoding once: what is read back of the array has the new bytes as its blob, and grows the context
-- alike; and what a second call is asked can be done.
pub record IsTwiceAsOnce (asked : Request) (made : Product) : Type 0 where
  pub bytes : blob_of asked.session (canon codec asked.session made.array) asked.context asked.options ≡ joined made.buffers
  pub context : grown codec asked.session asked.context (canon codec asked.session made.array) ≡ Some made.context
  pub can : CanRecode (asked_again asked made)

-- The blob spells no other array, and the array is written unchanged. The new blob spells what is read back of it, read
-- with the grown context: the same array, but that each sum that is no number is the one NaN of its width. Recoding it
-- again changes nothing.
pub record IsFaithful (asked : Request) (made : Product) : Type 0 where
  pub own : as_written asked.session asked.options made.array ≡ made.array
  pub the_one : (other : Tree) → IsSpelled asked other → other ≡ made.array
  pub again : Spells (joined made.buffers) made.context.ids asked.dtype asked.len asked.session (canon codec asked.session made.array)
  pub sums : canon codec asked.session made.array ≡ sums_canonical made.array
  pub twice : IsTwiceAsOnce asked made

-- The context keeps what it had, and only identifiers of an array that the blob spells, as it is written, come to its
-- end.
pub record KeepsOfSpelled (asked : Request) (after : Context) : Type 0 where
  pub array : Tree
  pub spelled : IsSpelled asked array
  pub kept : KeepsContext (ids_in (wire codec asked.session (as_written asked.session asked.options array))) asked.context after

-- What a call leaves of the context, whatever it answers: the context keeps what it had, and only identifiers of an
-- array that the blob spells, as it is written, come to its end; where no plugin reads or writes, only those of the
-- array itself. So where the blob spells none, nothing comes.
pub record LeavesContext (asked : Request) (after : Context) : Type 0 where
  pub some : (after ≡ asked.context) ⊎ KeepsOfSpelled asked after
  pub kept : IsShipped asked.session → (array : Tree) → IsSpelled asked array → KeepsContext (ids_in (wire codec asked.session array)) asked.context after
