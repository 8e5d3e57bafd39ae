-- Bytes and texts in lists.
use Rattle.std.specs.Prelude.{ℕ, zero, suc, ◌<◌, List, [], ◌∷◌, ◌++◌, length}
use Rattle.std.proofs.Common.{arith, get_or}
use Rattle.vx_trees.specs.Bytes.{AreBytes}
use Rattle.vx_types.specs.Content.{IsText, AreTexts}

pub bytes_within : (bs : List ℕ) → ((i : ℕ) → i < length bs → get_or bs i 0 < 256) → AreBytes bs
bytes_within [] h = tt
bytes_within (b ∷ bs) h = (omega (arith, h zero (omega arith)), bytes_within bs (λ i l. h (suc i) (omega (arith, l))))

-- One text more at the end.
pub texts-push : (ss : List (List ℕ)) (s : List ℕ) → AreTexts ss → IsText s → AreTexts (ss ++ s ∷ [])
texts-push [] s h k = (k, tt)
texts-push (t ∷ ss) s h k = (h.0, texts-push ss s h.1 k)
