use Rattle.std.proofs.Common.{ℕ, ◌≡◌, ◌+◌, ◌*◌, ◌/◌, ◌%◌, ◌^◌, ap}
use Rattle.std.proofs.Math.Nat.{mod-add-mod}
use Rattle.vx_generator.specs.Draws.{next, number_of}
use Rattle.vx_generator.proofs.draws.Draws.draw.Goals as goal

-- A step that wraps the product and then the sum is the step that wraps once, at its end.
stepped : (x : ℕ) → (x * 6364136223846793005 % 2 ^ 64 + 1442695040888963407) % 2 ^ 64 ≡ next x
unfolding next
stepped x = mod-add-mod (x * 6364136223846793005) (2 ^ 64) 1442695040888963407

pub returns-clause-state : goal.returns-clause-state
returns-clause-state c = let e = stepped c.self.inside.state in cc

pub returns-clause-number : goal.returns-clause-number
unfolding number_of
returns-clause-number c = let e = ap (λ x. x / 2 ^ 33) (stepped c.self.inside.state) in cc
