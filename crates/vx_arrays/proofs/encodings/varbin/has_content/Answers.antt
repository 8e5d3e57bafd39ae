-- The content of parts is right where their offsets are and, under a type of texts, their texts.
use Rattle.std.proofs.Common.{◌∙◌, ap}
use Rattle.vx_buffer.specs.Buffer.{Buffer}
use Rattle.vx_trees.specs.Rose.{more}
use Rattle.vx_types.specs.Seen.{typ}
use Rattle.vx_array_tree.specs.Tree.{option_trees}
use Rattle.vx_arrays.proofs.Split.{shaped_counted, shaped_planned, shaped_bytes, of_bytes, no_offsets, texts_decide, bytes_decide}
use Rattle.vx_arrays.proofs.encodings.varbin.has_content.Goals as goal

pub are_offsets-requires : goal.are_offsets-requires
are_offsets-requires c = record { counted = shaped_counted (typ c.args.dtype.now) c.args.len c.args.bytes.now c.args.offsets.now (option_trees c.args.validity.now) c.requires }

pub returns-then-not-are_offsets : goal.returns-then-not-are_offsets
returns-then-not-are_offsets c =
    no_offsets c.args.dtype.now c.args.len (record { bytes = c.args.bytes.now }) c.args.offsets.now (option_trees c.args.validity.now) c.are_offsets.result c.as_slice-bytes.result.now
    (c.as_slice-bytes.ensures ∙ ap (λ (b : Buffer). b.bytes) c.as_host.ensures) c.are_offsets.ensures c.if-not-are_offsets.true

pub are_texts-requires-clause-counted : goal.are_texts-requires-clause-counted
are_texts-requires-clause-counted c = shaped_counted (typ c.args.dtype.now) c.args.len c.args.bytes.now c.args.offsets.now (option_trees c.args.validity.now) c.requires

pub are_texts-requires-clause-offsets : goal.are_texts-requires-clause-offsets
are_texts-requires-clause-offsets c = c.are_offsets.ensures.0 c.if-not-are_offsets.false

pub are_texts-requires-clause-planned : goal.are_texts-requires-clause-planned
are_texts-requires-clause-planned c = shaped_planned (typ c.args.dtype.now) c.args.len c.args.bytes.now c.args.offsets.now (option_trees c.args.validity.now) c.requires

pub unreachable-requires : goal.unreachable-requires
unreachable-requires c =
    of_bytes c.args.dtype.now (shaped_bytes (typ c.args.dtype.now) c.args.len c.args.bytes.now (more c.args.offsets.now (option_trees c.args.validity.now)) c.requires) c.in_default.not-Utf8 c.in_default.not-Binary

pub returns-in-Utf8 : goal.returns-in-Utf8
returns-in-Utf8 c =
    texts_decide c.args.dtype.now c.args.len (record { bytes = c.args.bytes.now }) c.args.offsets.now (option_trees c.args.validity.now) c.in-Utf8.field-0 c.are_offsets.result c.are_texts.result
    c.as_slice-bytes.result.now c.in-Utf8.is (c.as_slice-bytes.ensures ∙ ap (λ (b : Buffer). b.bytes) c.as_host.ensures) c.are_offsets.ensures c.if-not-are_offsets.false c.are_texts.ensures

pub returns-in-Binary : goal.returns-in-Binary
returns-in-Binary c =
    bytes_decide c.args.dtype.now c.args.len (record { bytes = c.args.bytes.now }) c.args.offsets.now (option_trees c.args.validity.now) c.in-Binary.field-0 c.are_offsets.result c.as_slice-bytes.result.now
    c.in-Binary.is (c.as_slice-bytes.ensures ∙ ap (λ (b : Buffer). b.bytes) c.as_host.ensures) c.are_offsets.ensures c.if-not-are_offsets.false
