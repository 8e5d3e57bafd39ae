-- One child is planned, and no other number of children.
use Rattle.std.proofs.Common.{ℕ, zero, suc, ◌≡◌, ◌≢◌, List, [], ◌∷◌, ◌++◌, Some, None, refl}
use Rattle.vx_array_tree.specs.Place.{Place, exactly}

pub one_planned : (ps none : List Place) (p : Place) (k : ℕ) → k ≡ 1 → none ≡ [] → ps ≡ none ++ p ∷ [] → exactly (p ∷ []) k ≡ Some ps
one_planned ps none p k c e a = rw (c, a, e) refl

pub others_unplanned : (p : Place) (k : ℕ) → k ≢ 1 → exactly (p ∷ []) k ≡ None
others_unplanned p zero c = refl
others_unplanned p (suc zero) c = absurd (c refl)
others_unplanned p (suc (suc k)) c = refl

pub ruleset alone = (one_planned, others_unplanned)
