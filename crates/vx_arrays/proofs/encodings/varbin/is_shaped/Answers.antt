-- Parts are of the shape where offsets, a type of texts or of bytes, and a validity say so.
use Rattle.std.proofs.lemmas.Bool.{false≢true}
use Rattle.vx_types.specs.Seen.{typ}
use Rattle.vx_array_tree.specs.Tree.{option_trees}
use Rattle.vx_arrays.proofs.Split.{unshaped_offsets, unshaped_bytes, validity_decides}
use Rattle.vx_arrays.proofs.encodings.varbin.is_shaped.Goals as goal

pub returns-then-not-is_of_offsets-clause-shaped : goal.returns-then-not-is_of_offsets-clause-shaped
returns-then-not-is_of_offsets-clause-shaped c =
    λ b. unshaped_offsets (typ c.args.dtype.now) c.args.len b c.args.offsets.now (option_trees c.args.validity.now) c.is_of_offsets.result (typ c.dtype.result.now) c.is_of_offsets.ensures c.dtype.ensures.dtype
    c.if-not-is_of_offsets.true

pub returns-then-not-is_of_offsets-clause-sound : goal.returns-then-not-is_of_offsets-clause-sound
returns-then-not-is_of_offsets-clause-sound c = λ t. absurd (false≢true t)

pub returns-then-not-is_of_bytes-clause-shaped : goal.returns-then-not-is_of_bytes-clause-shaped
returns-then-not-is_of_bytes-clause-shaped c =
    λ b. unshaped_bytes (typ c.args.dtype.now) c.args.len b c.args.offsets.now (option_trees c.args.validity.now) c.is_of_bytes.result c.is_of_bytes.ensures c.if-not-is_of_bytes.true

pub returns-then-not-is_of_bytes-clause-sound : goal.returns-then-not-is_of_bytes-clause-sound
returns-then-not-is_of_bytes-clause-sound c = λ t. absurd (false≢true t)

pub returns-clause-shaped : goal.returns-clause-shaped
returns-clause-shaped c =
    λ b. validity_decides (typ c.args.dtype.now) c.args.len b c.args.offsets.now (option_trees c.args.validity.now) c.is_of_offsets.result c.is_of_bytes.result c.is_validity.result (typ c.dtype.result.now)
    c.nullability.result c.is_of_offsets.ensures c.dtype.ensures.dtype c.if-not-is_of_offsets.false c.is_of_bytes.ensures c.if-not-is_of_bytes.false c.requires.counted c.requires.few c.nullability.ensures
    c.is_validity.ensures.fits

pub returns-clause-sound : goal.returns-clause-sound
returns-clause-sound c = λ t. (c.dtype.ensures.sound, c.is_validity.ensures.sound)
