-- The cause of each refusal.
use Rattle.std.specs.Prelude.{◌≡◌, ◌≤◌, None, IsSomeAnd, ◌⊎◌}
use Rattle.vx_trees.specs.Walks.{levels}
use Rattle.vx_array_tree.specs.Tree.{Tree}
use Rattle.vx_wire_tree.specs.Context.{Context, grown}
use Rattle.vx_wire_tree.specs.Session.{SessionMeaning, IsShipped}
use Rattle.vx_wire_tree.specs.Taken.{IsTaken, HasUntaken}
use Rattle.vx_encodings.specs.Messages.{codec}
use Rattle.vx_serde.specs.declared.options.SerializeOptions.{SerializeOptions}
use Rattle.vx_serialized.specs.declared.error.WireError.{WireError}
use Rattle.vx_serialized.specs.declared.error.WireError.TheVariants.{OutOfMemory, TooShort, BadTable, TableLimit, BadAlignment, Compressed, OutOfBounds, UnknownIndex, UnknownEncoding, BadMetadata, BadShape, BadContent, ForeignControl, BadStats, NotPermitted, WireLimit, NotRegistered, NotSerializable, UndeclaredId, PluginRefused}
use Rattle.vx_serialized.specs.Carried.{RefusesBlob}
use Rattle.vx_serde.specs.Limits.{message_limits, most_levels}
use Rattle.vx_serde.specs.Spells.{KeepsWriterLimits}
use Rattle.vx_serde.specs.Taking.{as_written, unwritten_by}
use Rattle.vx_serde.specs.Request.{Request, IsSpelled}

-- Why the blob is not read as it is asked.
abbrev pub RefusesReading : Request → WireError → Type 0
RefusesReading asked e = RefusesBlob (message_limits asked.options) asked.session e asked.blob asked.ids asked.dtype asked.len

-- The blob spells an array of which this holds.
pub record SpellsOne (asked : Request) (P : Tree → Type 0) : Type 0 where
  pub array : Tree
  pub spelled : IsSpelled asked array
  pub holds : P array

-- Why a tree that is written has no blob under a context: by the refusal. Allocation failure has no other cause. The
-- context does not take one of the tree's identifiers, or a limit on writing is passed.
abbrev pub RefusesWriting : SessionMeaning → Tree → Context → SerializeOptions → WireError → Type 0
RefusesWriting s t context options OutOfMemory = Unit {0}
RefusesWriting s t context options NotPermitted = grown codec s context t ≡ None
RefusesWriting s t context options WireLimit = KeepsWriterLimits s t context options → ⊥
RefusesWriting s t context options _ = ⊥

-- Each node of an array is written, in as many levels as may be written; and the context does not take one of the
-- identifiers.
pub record IsNotPermitted (s : SessionMeaning) (t : Tree) (context : Context) (options : SerializeOptions) : Type 0 where
  pub taken : IsTaken s (most_levels options) t
  pub levels_are : levels (as_written s options t) ≤ most_levels options
  pub none : grown codec s context (as_written s options t) ≡ None

-- Why an array is not written under a context: by the refusal. As it is written it has no blob; or nothing writes the
-- arrays of a node's encoding, or a node is foreign and such nodes are not allowed; or the plugin that writes a node
-- has no form for it, names an identifier that it does not declare, or refuses it.
abbrev pub RefusesArray : SessionMeaning → Tree → Context → SerializeOptions → WireError → Type 0
RefusesArray s t context options OutOfMemory = Unit {0}
RefusesArray s t context options NotPermitted = IsNotPermitted s t context options
RefusesArray s t context options WireLimit = RefusesWriting s (as_written s options t) context options WireLimit
RefusesArray s t context options e = IsSomeAnd (unwritten_by e) (λ why. HasUntaken s (most_levels options) why t)

-- Why an array that was read is not written: by the refusal. Where no plugin reads or writes, the array itself has no
-- blob.
pub record RefusesSpelled (asked : Request) (e : WireError) (t : Tree) : Type 0 where
  pub written : RefusesArray asked.session t asked.context asked.options e
  pub own : IsShipped asked.session → RefusesWriting asked.session t asked.context asked.options e

-- Why `recode` refuses: by the refusal. The refusals of reading come first: allocation failure, the blob's own faults and
-- those of its nodes. Then come those of the array that it spells: an identifier that the context does not take, a limit
-- on writing, or a node of it that is not written. Where no plugin reads or writes, what is read is also written: then
-- no node is without a writer, and no plugin refuses.
abbrev pub Refuses : Request → WireError → Type 0
Refuses asked OutOfMemory = RefusesReading asked OutOfMemory
Refuses asked TooShort = RefusesReading asked TooShort
Refuses asked BadTable = RefusesReading asked BadTable
Refuses asked TableLimit = RefusesReading asked TableLimit
Refuses asked BadAlignment = RefusesReading asked BadAlignment
Refuses asked Compressed = RefusesReading asked Compressed
Refuses asked OutOfBounds = RefusesReading asked OutOfBounds
Refuses asked UnknownIndex = RefusesReading asked UnknownIndex
Refuses asked UnknownEncoding = RefusesReading asked UnknownEncoding
Refuses asked BadMetadata = RefusesReading asked BadMetadata
Refuses asked BadShape = RefusesReading asked BadShape
Refuses asked BadContent = RefusesReading asked BadContent
Refuses asked ForeignControl = RefusesReading asked ForeignControl
Refuses asked BadStats = RefusesReading asked BadStats
Refuses asked NotPermitted = SpellsOne asked (λ t. RefusesSpelled asked NotPermitted t)
Refuses asked WireLimit = SpellsOne asked (λ t. RefusesSpelled asked WireLimit t)
Refuses asked NotRegistered = (IsShipped asked.session → ⊥) × SpellsOne asked (λ t. RefusesArray asked.session t asked.context asked.options NotRegistered)
Refuses asked NotSerializable = (IsShipped asked.session → ⊥) × SpellsOne asked (λ t. RefusesArray asked.session t asked.context asked.options NotSerializable)
Refuses asked UndeclaredId = (IsShipped asked.session → ⊥) × SpellsOne asked (λ t. RefusesArray asked.session t asked.context asked.options UndeclaredId)
Refuses asked PluginRefused = (IsShipped asked.session → ⊥) × (RefusesReading asked PluginRefused ⊎ SpellsOne asked (λ t. RefusesArray asked.session t asked.context asked.options PluginRefused))
