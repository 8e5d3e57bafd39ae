-- The worked message stands in the blob.
use Rattle.std.proofs.Common.{ℕ, List, ◌++◌, length, ap}
use Rattle.std.specs.Int.{w32, to_le_bytes}
use Rattle.vx_flat.specs.Layout.{shares}
use Rattle.vx_flat_tests.proofs.WorkedMessages.{array_laid_out}
use Rattle.vx_serde_tests.specs.Worked.{numbers}
use Rattle.vx_serde_tests.proofs.laws.worked_blob.Goals as goal

pub returns-clause-bytes : goal.returns-clause-bytes
returns-clause-bytes c =
    let blob_around : List ℕ → List ℕ = λ message. numbers ++ (message ++ to_le_bytes w32 (length message)) in
    λ s. ap blob_around (array_laid_out shares)
