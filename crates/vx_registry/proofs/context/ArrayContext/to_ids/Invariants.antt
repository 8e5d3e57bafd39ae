use Rattle.std.proofs.Common.{◌≡◌, map}
use Rattle.vx_registry.proofs.context.ArrayContext.to_ids.Given as goal

-- The copies so far are the identifiers so far.
abbrev pub invariant-loop-id : goal.invariant-loop-id
invariant-loop-id l = l.ids ≡ map (λ id. id.now) l.yielded
