-- An array with other buffers at its root.
use Rattle.std.specs.Prelude.{List, Option, Some, option_map, IfSome, IsSomeAnd}
use Rattle.vx_buffer.specs.Buffer.{Buffer}
use Rattle.vx_trees.specs.Rose.{node, label, below}
use Rattle.vx_array_tree.specs.Body.{Body}
use Rattle.vx_array_tree.specs.Body as B
use Rattle.vx_array_tree.specs.Encodings.Bools as Bools
use Rattle.vx_array_tree.specs.Encodings.Primitives as Primitives
use Rattle.vx_array_tree.specs.Encodings.Decimals as Decimals
use Rattle.vx_array_tree.specs.Encodings.VarBins as VarBins
use Rattle.vx_array_tree.specs.Encodings.VarBinViews as VarBinViews
use Rattle.vx_array_tree.specs.Encodings.Foreigns as Foreigns
use Rattle.vx_array_tree.specs.Refused.{IsMisshaped, IsForeignControlled, HasBrokenContent}
use Rattle.vx_array_tree.specs.Table.{bufferless}
use Rattle.vx_array_tree.specs.Tree.{Tree}
use Rattle.vx_rows.specs.declared.error.ArrayError.{ArrayError}
use Rattle.vx_rows.specs.declared.error.ArrayError.TheVariants.{OutOfMemory, BadShape, BadContent, ForeignControl, ValueTooLarge, BadCast}

-- What a node holds with these buffers in place of its own, and all else as it was: none, where its encoding has
-- another number of buffers.
abbrev pub rebuffered : Body → List Buffer → Option Body
rebuffered (B.bool x) bs = option_map B.bool (Bools.body_of (Bools.metadata_of x) bs)
rebuffered (B.primitive x) bs = option_map B.primitive (Primitives.body_of bs)
rebuffered (B.decimal x) bs = option_map B.decimal (Decimals.body_of (Decimals.metadata_of x) bs)
rebuffered (B.varbin x) bs = option_map B.varbin (VarBins.body_of bs)
rebuffered (B.varbinview x) bs = option_map B.varbinview (VarBinViews.body_of bs)
rebuffered (B.foreign x) bs = Some (B.foreign (Foreigns.body_of (Foreigns.metadata_of x) bs))
rebuffered b bs = bufferless b bs

-- An array with these buffers at its root in place of its own: of the same type, length, statistics and children.
abbrev pub with_buffers : Tree → List Buffer → Option Tree
with_buffers (node h ts) bs = option_map (λ (b : Body). node (record { dtype = h.dtype; len = h.len; stats = h.stats; body = b }) ts) (rebuffered h.body bs)

-- With these buffers an array is refused for allocation failure, or as a constructor refuses the array that they make. Where
-- they make none, there are more or fewer than the encoding has, which is a wrong shape.
abbrev pub RefusesBuffers : ArrayError → Tree → List Buffer → Type 0
RefusesBuffers OutOfMemory t bs = Unit {0}
RefusesBuffers BadShape t bs = IfSome (with_buffers t bs) (λ u. IsMisshaped (label u) (below u))
RefusesBuffers BadContent t bs = IsSomeAnd (with_buffers t bs) (λ u. HasBrokenContent (label u) (below u))
RefusesBuffers ForeignControl t bs = IsSomeAnd (with_buffers t bs) (λ u. IsForeignControlled (label u) (below u))
RefusesBuffers ValueTooLarge t bs = ⊥
RefusesBuffers BadCast t bs = ⊥
