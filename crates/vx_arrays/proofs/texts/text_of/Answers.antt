-- Bytes that are a text are never refused as one.
use Rattle.std.proofs.lemmas.Str.{IsUtf8-from_is_utf8}
use Rattle.vx_arrays.proofs.texts.text_of.Goals as goal

pub unreachable-requires : goal.unreachable-requires
unreachable-requires c = c.in-Err.ensures (IsUtf8-from_is_utf8 c.args.bytes.now c.requires)
