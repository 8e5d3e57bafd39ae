-- The result of a caller's plugin, compared with what its meaning gives.
use Rattle.std.specs.Prelude.{◌≡◌, Option, Some, None, Result, Ok, Err}
use Rattle.vx_fn_wire.specs.declared.plugin.PluginError.{PluginError}
use Rattle.vx_fn_wire.specs.declared.plugin.PluginError.TheVariants.{OutOfMemory, Refused}

-- The result is what is given, or allocation failed; it is a refusal only where nothing is given.
abbrev pub IsAnswer : {X : Type 0} → Option X → Result X PluginError → Type 0
IsAnswer given (Ok x) = given ≡ Some x
IsAnswer given (Err OutOfMemory) = Unit {0}
IsAnswer given (Err Refused) = given ≡ None
