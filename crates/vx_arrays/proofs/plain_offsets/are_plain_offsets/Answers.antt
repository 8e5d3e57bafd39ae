-- Numbers with a sign are judged without it.
use Rattle.std.proofs.Common.{suc}
use Rattle.vx_arrays.proofs.PlainOffsets.{decide_8, decide_16, decide_32, decide_64}
use Rattle.vx_arrays.proofs.plain_offsets.are_plain_offsets.Goals as goal

pub returns-in-I8 : goal.returns-in-I8
returns-in-I8 c = decide_8 c.args.kind (suc c.args.parts) c.args.bytes.now c.args.parts c.args.total c.min.result c.are_rising-in-I8.result c.in-I8.is c.min.ensures c.are_rising-in-I8.ensures

pub returns-in-I16 : goal.returns-in-I16
returns-in-I16 c = decide_16 c.args.kind (suc c.args.parts) c.args.bytes.now c.args.parts c.args.total c.min-in-I16.result c.are_rising-in-I16.result c.in-I16.is c.min-in-I16.ensures c.are_rising-in-I16.ensures

pub returns-in-I32 : goal.returns-in-I32
returns-in-I32 c = decide_32 c.args.kind (suc c.args.parts) c.args.bytes.now c.args.parts c.args.total c.min-in-I32.result c.are_rising-in-I32.result c.in-I32.is c.min-in-I32.ensures c.are_rising-in-I32.ensures

pub returns-in-I64 : goal.returns-in-I64
returns-in-I64 c = decide_64 c.args.kind (suc c.args.parts) c.args.bytes.now c.args.parts c.args.total c.min-in-I64.result c.are_rising-in-I64.result c.in-I64.is c.min-in-I64.ensures c.are_rising-in-I64.ensures
