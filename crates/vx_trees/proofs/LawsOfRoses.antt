-- What two equal lists of trees have in common: the first tree, and those after it.
use Rattle.std.proofs.Common.{◌≡◌, ◌∙◌, List, [], ◌∷◌, ◌++◌, ap, sym}
use Rattle.vx_trees.specs.Rose.{Rose, Roses, end, more, roses_of, roses_list}
use Rattle.vx_trees.proofs.Lists.{roses_of-roses_list}

pub first_tree : {L : Type 0} (t u : Rose L) (ts us : Roses L) → more t ts ≡ more u us → t ≡ u
first_tree t u ts us e = cc

pub other_trees : {L : Type 0} (t u : Rose L) (ts us : Roses L) → more t ts ≡ more u us → ts ≡ us
other_trees t u ts us e = cc

pub never_end : {L : Type 0} (t : Rose L) (ts : Roses L) → more t ts ≡ end → ⊥
never_end t ts e = absurd (cc)

-- A tree that stands before no others still does where those others are exchanged for those of a tree that stands
-- alone.
pub alone_too : {L : Type 0} (t : Rose L) (ts : Roses L) (u : Rose L) → more t ts ≡ more u end → more t ts ≡ more t end
alone_too {L = L} t ts u e = ap (λ (us : Roses L). more t us) (other_trees t u ts end e)

-- One tree pushed onto an empty list stands alone.
pub only_pushed : {L : Type 0} (none ts : Roses L) (t : Rose L) → none ≡ end → roses_list ts ≡ roses_list none ++ t ∷ [] → ts ≡ more t end
only_pushed {L = L} none ts t e q = sym (roses_of-roses_list ts) ∙ ap (λ (us : List (Rose L)). roses_of us) (q ∙ ap (λ (us : Roses L). roses_list us ++ t ∷ []) e)
