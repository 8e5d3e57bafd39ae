-- A row's mark is that of its type.
use Rattle.vx_arrays.proofs.Split.{text_of_type, text_mark, bytes_mark, of_bytes}
use Rattle.vx_arrays.proofs.texts.lone_part.Goals as goal

pub text_of-requires : goal.text_of-requires
text_of-requires c = text_of_type c.args.dtype.now c.in-Utf8.field-0 c.args.bytes.now c.in-Utf8.is c.requires.text

pub unreachable-requires : goal.unreachable-requires
unreachable-requires c = of_bytes c.args.dtype.now c.requires.kind c.in_default.not-Utf8 c.in_default.not-Binary

pub returns-in-Utf8 : goal.returns-in-Utf8
returns-in-Utf8 c = text_mark c.args.dtype.now c.in-Utf8.field-0 c.args.bytes.now c.text_of.result.now c.in-Utf8.is c.text_of.ensures

pub returns-in-Binary : goal.returns-in-Binary
returns-in-Binary c = bytes_mark c.args.dtype.now c.in-Binary.field-0 c.args.bytes.now c.in-Binary.is
