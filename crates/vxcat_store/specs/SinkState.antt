-- What contracts see of a sink.
use Rattle.std.specs.Prelude.{ℕ, Option, List}

-- A sink is seen as all the bytes that were written to it, where it tells them, and the number of its writes that
-- failed.
pub record SinkState : Type 0 where
  pub written : Option (List ℕ)
  pub faults : ℕ
