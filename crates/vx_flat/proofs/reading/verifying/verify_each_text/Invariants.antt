use Rattle.std.proofs.Common.{◌≡◌, ◌+◌, ◌*◌, ℕ}
use Rattle.vx_flat.specs.Weight.{text_weight}
use Rattle.vx_flat.specs.Reading.{text_shown}
use Rattle.vx_flat.proofs.Each.{EachSoFar}
use Rattle.vx_flat.proofs.reading.verifying.verify_each_text.Given as goal

abbrev pub invariant-loop : goal.invariant-loop
invariant-loop l =
    (l.at ≡ l.place + 4 * l.counter)
    × ((levels : ℕ)
    → EachSoFar l.message (λ q. text_shown l.message q)
    (λ q. text_weight l.message q) l.fn.budget levels l.place l.n l.budget l.at l.counter)
    × (l.budget.tables ≡ l.fn.budget.tables)
