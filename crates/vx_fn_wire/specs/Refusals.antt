-- The refusals of messages, as refusals of this crate.
use Rattle.vx_proto.specs.declared.error.ProtoError.{ProtoError}
use Rattle.vx_proto.specs.declared.error.ProtoError.TheVariants as proto
use Rattle.vx_fn_wire.specs.declared.error.FnWireError.{FnWireError}
use Rattle.vx_fn_wire.specs.declared.error.FnWireError.TheVariants.{OutOfMemory, BadMessage, TooDeep}

-- No message here holds a number, so no number is out of its range.
abbrev pub refusal_of_proto : ProtoError → FnWireError
refusal_of_proto proto.OutOfMemory = OutOfMemory
refusal_of_proto proto.BadMessage = BadMessage
refusal_of_proto proto.TooDeep = TooDeep
refusal_of_proto proto.OutOfRange = BadMessage
