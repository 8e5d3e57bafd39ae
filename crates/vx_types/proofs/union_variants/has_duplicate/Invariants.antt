use Rattle.std.proofs.Common.{◌≡◌, ℕ, ◌<◌, slice_index_or}
use Rattle.vx_types.proofs.union_variants.has_duplicate.Given as goal

-- The tags below index i are distinct; in the inner loop, none below index j equals
-- the one at i.
abbrev pub invariant-loop-i : goal.invariant-loop-i
invariant-loop-i l = (a b d : ℕ) → a < b → b < l.i → slice_index_or l.ids a d ≡ slice_index_or l.ids b d → ⊥

abbrev pub invariant-loop-j : goal.invariant-loop-j
invariant-loop-j l =
    ((a b d : ℕ) → a < b → b < l.i → slice_index_or l.ids a d ≡ slice_index_or l.ids b d → ⊥)
    × ((a d : ℕ) → a < l.j → slice_index_or l.ids a d ≡ slice_index_or l.ids l.i d → ⊥)
