-- The children are offsets and what stands after them; a valid row is its bytes.
use Rattle.std.proofs.Common.{◌∙◌, ◌-◌, ap, sym, Bool, Some, length, take, drop}
use Rattle.vx_buffer.specs.Buffer.{Buffer}
use Rattle.vx_trees.specs.Rose.{roses_of}
use Rattle.vx_types.specs.Seen.{typ}
use Rattle.vx_types.specs.Value.{Mark, lone}
use Rattle.vx_array_tree.specs.Encodings.VarBins.{Data}
use Rattle.vx_arrays.proofs.Split.{first_and_after, sound_bytes, sound_counted, sound_planned, sound_offsets, sound_text, row_there, row_null, row_unknown}
use Rattle.vx_arrays.proofs.encodings.varbin.VarBinData.row_at.Goals as goal

pub validity_at-requires-clause-planned : goal.validity_at-requires-clause-planned
validity_at-requires-clause-planned c =
    sound_planned (typ c.args.dtype.now) c.args.len c.args.self.now (roses_of c.args.children.now) c.offsets-item.result
    (roses_of (take (length c.args.children.now - 1) (drop 1 c.args.children.now)))
    (first_and_after c.args.children.now c.offsets-item.result c.in-len1-up.len_at_least c.offsets-item.is) c.requires.sound

pub validity_at-requires-clause-inside : goal.validity_at-requires-clause-inside
validity_at-requires-clause-inside c =
    c.requires.inside

pub part_at-part-requires-clause-counted : goal.part_at-part-requires-clause-counted
part_at-part-requires-clause-counted c =
    sound_counted (typ c.args.dtype.now) c.args.len c.args.self.now (roses_of c.args.children.now) c.offsets-item.result
    (roses_of (take (length c.args.children.now - 1) (drop 1 c.args.children.now)))
    (first_and_after c.args.children.now c.offsets-item.result c.in-len1-up.len_at_least c.offsets-item.is) c.requires.sound

pub part_at-part-requires-clause-offsets : goal.part_at-part-requires-clause-offsets
part_at-part-requires-clause-offsets c =
    sound_offsets (typ c.args.dtype.now) c.args.len c.args.self.now (roses_of c.args.children.now) c.offsets-item.result
    (roses_of (take (length c.args.children.now - 1) (drop 1 c.args.children.now)))
    (first_and_after c.args.children.now c.offsets-item.result c.in-len1-up.len_at_least c.offsets-item.is) c.requires.sound
    c.as_slice-bytes.result.now
    (c.as_slice-bytes.ensures ∙ ap (λ (b : Buffer). b.bytes) c.as_host.ensures ∙ ap (λ (y : Data). y.bytes.bytes) c.self.view_is)

pub part_at-part-requires-clause-inside : goal.part_at-part-requires-clause-inside
part_at-part-requires-clause-inside c =
    c.requires.inside

pub lone_part-requires-clause-kind : goal.lone_part-requires-clause-kind
lone_part-requires-clause-kind c =
    sound_bytes (typ c.args.dtype.now) c.args.len c.args.self.now (roses_of c.args.children.now) c.requires.sound

pub lone_part-requires-clause-text : goal.lone_part-requires-clause-text
lone_part-requires-clause-text c =
    sound_text (typ c.args.dtype.now) c.args.len c.args.self.now (roses_of c.args.children.now) c.offsets-item.result
    (roses_of (take (length c.args.children.now - 1) (drop 1 c.args.children.now)))
    (first_and_after c.args.children.now c.offsets-item.result c.in-len1-up.len_at_least c.offsets-item.is) c.requires.sound
    c.as_slice-bytes.result.now c.part_at-part.result.now c.args.index
    (c.as_slice-bytes.ensures ∙ ap (λ (b : Buffer). b.bytes) c.as_host.ensures ∙ ap (λ (y : Data). y.bytes.bytes) c.self.view_is)
    c.requires.inside
    (sym c.validity_at.ensures ∙ c.in-Some-true.is ∙ ap (λ (b : Bool). Some b) c.in-Some-true.field-0-test)
    c.part_at-part.ensures

pub returns-in-Some-true : goal.returns-in-Some-true
returns-in-Some-true c =
    ap (λ (m : Mark). lone m) c.lone_part.ensures
    ∙ row_there (typ c.args.dtype.now) c.args.len c.args.self.now (roses_of c.args.children.now) c.offsets-item.result
    (roses_of (take (length c.args.children.now - 1) (drop 1 c.args.children.now)))
    (first_and_after c.args.children.now c.offsets-item.result c.in-len1-up.len_at_least c.offsets-item.is) c.requires.sound
    c.as_slice-bytes.result.now c.part_at-part.result.now c.args.index
    (c.as_slice-bytes.ensures ∙ ap (λ (b : Buffer). b.bytes) c.as_host.ensures ∙ ap (λ (y : Data). y.bytes.bytes) c.self.view_is)
    (sym c.validity_at.ensures ∙ c.in-Some-true.is ∙ ap (λ (b : Bool). Some b) c.in-Some-true.field-0-test)
    c.part_at-part.ensures

pub returns-in-None : goal.returns-in-None
returns-in-None c =
    row_unknown (typ c.args.dtype.now) c.args.len c.args.self.now (roses_of c.args.children.now) c.offsets-item.result
    (roses_of (take (length c.args.children.now - 1) (drop 1 c.args.children.now)))
    (first_and_after c.args.children.now c.offsets-item.result c.in-len1-up.len_at_least c.offsets-item.is) c.requires.sound
    c.args.index (sym c.validity_at.ensures ∙ c.in-None.is)

pub returns-in-Some-false : goal.returns-in-Some-false
returns-in-Some-false c =
    row_null (typ c.args.dtype.now) c.args.len c.args.self.now (roses_of c.args.children.now) c.offsets-item.result
    (roses_of (take (length c.args.children.now - 1) (drop 1 c.args.children.now)))
    (first_and_after c.args.children.now c.offsets-item.result c.in-len1-up.len_at_least c.offsets-item.is) c.requires.sound
    c.args.index (sym c.validity_at.ensures ∙ c.in-Some-false.is ∙ ap (λ (b : Bool). Some b) c.in-Some-false.field-0-test)
