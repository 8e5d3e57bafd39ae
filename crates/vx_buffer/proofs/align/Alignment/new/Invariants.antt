use Rattle.std.proofs.Common.{◌≡◌, ◌^◌, ◌<◌, ℕ}
use Rattle.vx_buffer.proofs.align.Alignment.new.Given as goal

-- No smaller exponent gives the number.
abbrev pub invariant-loop-exponent : goal.invariant-loop-exponent
invariant-loop-exponent l = (k : ℕ) → k < l.exponent → l.bytes ≡ 2 ^ k → ⊥
