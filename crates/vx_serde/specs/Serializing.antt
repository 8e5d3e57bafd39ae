-- What an array is written as.
use Rattle.std.specs.Prelude.{◌≡◌, List, Some, IsTrue}
use Rattle.vx_buffer.specs.Buffer.{Buffer}
use Rattle.vx_buffer.specs.Joined.{joined}
use Rattle.vx_trees.specs.Rose.{label}
use Rattle.vx_array_tree.specs.Sound.{IsSound}
use Rattle.vx_array_tree.specs.Tree.{Tree}
use Rattle.vx_wire_tree.specs.Context.{Context, grown}
use Rattle.vx_wire_tree.specs.KnownTypes.{KnowsTypes}
use Rattle.vx_wire_tree.specs.ReadBack.{HasStorableStats, IsUnread}
use Rattle.vx_wire_tree.specs.Returns.{IsOwnCanon, Returns}
use Rattle.vx_wire_tree.specs.Session.{SessionMeaning}
use Rattle.vx_wire_tree.specs.Taken.{IsTaken}
use Rattle.vx_wire_tree.specs.Written.{canon}
use Rattle.vx_encodings.specs.Messages.{codec}
use Rattle.vx_serde.specs.declared.options.SerializeOptions.{SerializeOptions}
use Rattle.vx_serde.specs.Aligned.{IsAlignedBlob}
use Rattle.vx_serde.specs.Limits.{most_levels}
use Rattle.vx_serde.specs.Spells.{Spells, KeepsWriterLimits, blob_of, blob_buffers}
use Rattle.vx_serde.specs.Taking.{as_written}

-- The buffers, one after the other, are the blob of a tree that is written, under the context that is grown by it. They
-- are an empty one of the greatest alignment, then the pads, the data, the message and its length. Each node's
-- statistics can be stored; the limits on writing were kept, and where padding is asked for, each data buffer that the
-- blob describes begins at a position of its alignment.
pub record IsWrittenBlob (s : SessionMeaning) (tree : Tree) (options : SerializeOptions) (before after : Context) (buffers : List Buffer) : Type 0 where
  pub written : joined buffers ≡ blob_of s tree before options
  pub buffers_are : buffers ≡ blob_buffers s tree before options
  pub storable : HasStorableStats codec tree
  pub limits : KeepsWriterLimits s tree before options
  pub aligned : IsTrue options.include_padding → IsAlignedBlob options.offset (joined buffers)
  pub grown_is : grown codec s before tree ≡ Some after

-- They are the blob of the array as it is written, and each node of it is written by what writes it.
pub record IsSerialized (s : SessionMeaning) (array : Tree) (options : SerializeOptions) (before after : Context) (buffers : List Buffer) : Type 0 where
  pub taken : IsTaken s (most_levels options) array
  pub blob : IsWrittenBlob s (as_written s options array) options before after buffers

-- An array is its own canon, and what is written of it is read again: each node is read by what wrote it, and the
-- arrays that plugins gave are their own canons, too.
pub record ReturnsWhole (s : SessionMeaning) (options : SerializeOptions) (array : Tree) : Type 0 where
  pub own : IsOwnCanon codec s array
  pub returns : Returns codec s (most_levels options) array

-- The bytes spell the array itself with the identifiers of the context after it, and no other array of its type and
-- length.
pub record IsSpelledAgain (s : SessionMeaning) (array : Tree) (after : Context) (buffers : List Buffer) : Type 0 where
  pub spelled : Spells (joined buffers) after.ids (label array).dtype (label array).len s array
  pub the_one : (other : Tree) → Spells (joined buffers) after.ids (label array).dtype (label array).len s other → other ≡ array

-- An array is sound, the types in its metadata are known, and nothing reads its topmost foreign nodes. What shipped
-- encodings write of such an array is read again.
pub record IsReadAgain (s : SessionMeaning) (array : Tree) : Type 0 where
  pub sound : IsSound array
  pub known : KnowsTypes s.ext array
  pub unread : IsUnread s array

-- The bytes spell what is read back of the array, with the identifiers of the context after it.
abbrev pub IsSpelledBack : SessionMeaning → Tree → Context → List Buffer → Type 0
IsSpelledBack s array after buffers = Spells (joined buffers) after.ids (label array).dtype (label array).len s (canon codec s array)
