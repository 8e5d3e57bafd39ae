-- What an array's node is written as in a message that a caller builds, and why it is not.
use Rattle.std.specs.Prelude.{◌≡◌, ◌⊎◌, List, true, false}
use Rattle.vx_flat.specs.Building.{Built, IsTooLong}
use Rattle.vx_flat.specs.Pieces.{Piece, table_pieces}
use Rattle.vx_flat.specs.Value.{Fields}
use Rattle.vx_array_tree.specs.Tree.{Tree}
use Rattle.vx_wire_tree.specs.Context.{Context}
use Rattle.vx_wire_tree.specs.Session.{SessionMeaning}
use Rattle.vx_wire_tree.specs.Written.{wire}
use Rattle.vx_encodings.specs.Messages.{codec}
use Rattle.vx_serialized.specs.declared.error.WireError.{WireError}
use Rattle.vx_serialized.specs.declared.error.WireError.TheVariants.{NotPermitted, WireLimit}
use Rattle.vx_serde.specs.declared.options.SerializeOptions.{SerializeOptions}
use Rattle.vx_serialized.specs.ArraySchema.{array_schema, node_fields}
use Rattle.vx_serde.specs.Causes.{RefusesWriting}
use Rattle.vx_serde.specs.MessageValue.{node_value}
use Rattle.vx_serde.specs.Numbered.{numbered}
use Rattle.vx_serde.specs.Spells.{ids_after}

-- The options whose limits hold where a call takes none.
abbrev pub plain_options : SerializeOptions
plain_options = record { offset = 0; include_padding = false; deep = false }

-- The value of an array's node under a context: identifiers by their places once the array's are taken in, buffers
-- numbered from 0 on.
abbrev pub array_value : SessionMeaning → Tree → Context → Fields
array_value s t c = node_value (numbered (ids_after s t c) 0 (wire codec s t))

-- The blocks of that value.
abbrev pub array_pieces : SessionMeaning → Tree → Context → List Piece
array_pieces s t c = table_pieces array_schema node_fields (array_value s t c)

-- Why the blocks of a tree that is written do not come after those that a builder has, and what becomes of the builder:
-- by the refusal. The context does not take one of the tree's identifiers, or the tree passes a limit on writing, and
-- the builder is unchanged; or with its blocks the message is too long, and the builder has failed, and refuses from
-- then on. Allocation failure may leave blocks in it.
abbrev pub RefusesBlocks : SessionMeaning → Tree → Context → Built → Built → WireError → Type 0
RefusesBlocks s t c old new NotPermitted = (new ≡ old) × RefusesWriting s t c plain_options NotPermitted
RefusesBlocks s t c old new WireLimit = ((new ≡ old) × RefusesWriting s t c plain_options WireLimit) ⊎ ((new.failed ≡ true) × IsTooLong old (array_pieces s t c))
RefusesBlocks s t c old new e = RefusesWriting s t c plain_options e
