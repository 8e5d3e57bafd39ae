-- The statuses of the program, and their numbers.
use Rattle.std.specs.Prelude.{ℕ}
use Rattle.vx_serialized.specs.Errors.{error_number}
use Rattle.vx_serialized.specs.Refusals.{wire_error}
use Rattle.vxcat_store.specs.declared.status.Status.{Status}
use Rattle.vxcat_store.specs.declared.status.Status.TheVariants.{Done, OutOfMemory, NoCommand, LoadFault, SaveFault, WriteFault, BadType, BadIds, BadExpression, Refused}

-- The process ends with 0 where all went well, 1 for allocation failure, 2 where the words match no command, 3, 4 or 5
-- where a load, a save or a write failed, 6, 7 or 8 for a bad type file, id file or expression file, and else with the blob's refusal.
abbrev pub status_number : Status → ℕ
status_number Done = 0
status_number OutOfMemory = 1
status_number NoCommand = 2
status_number LoadFault = 3
status_number SaveFault = 4
status_number WriteFault = 5
status_number BadType = 6
status_number BadIds = 7
status_number BadExpression = 8
status_number (Refused cause) = error_number (wire_error cause)
