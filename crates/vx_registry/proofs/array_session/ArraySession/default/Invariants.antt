use Rattle.std.proofs.Common.{◌≡◌, take}
use Rattle.vx_registry.proofs.Shipped.{tables_of}
use Rattle.vx_registry.proofs.array_session.ArraySession.default.Given as goal

-- The encodings so far are put in, each under its own identifier.
abbrev pub invariant-loop-encoding : goal.invariant-loop-encoding
invariant-loop-encoding g l = l.tables ≡ tables_of (take l.encoding-index l.encoding-items)
