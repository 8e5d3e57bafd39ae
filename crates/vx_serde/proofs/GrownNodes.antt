-- The identifiers of a node and of the trees below it, taken in preorder.
use Rattle.std.specs.Prelude.{ℕ, suc, ◌+◌, ◌≡◌, ◌<◌, ◌≤◌, List, ◌++◌, Some, None, length, take, drop}
use Rattle.std.proofs.Common.{sym, ◌∙◌, ap, subst, get_or}
use Rattle.vx_wire_tree.specs.Context.{Context, grown_by}
use Rattle.vx_trees.specs.Rose.{label, below, roses_of}
use Rattle.vx_trees.specs.Walks.{gathered_below}
use Rattle.vx_trees.proofs.Gathering.{gathered-is, gathered_below-take}
use Rattle.vx_serde.specs.KeptContext.{KeepsContext}
use Rattle.vx_wire_tree.specs.Wire.{id_in, ids_in, Wire}
use Rattle.vx_serde.proofs.Growing.{grown-both, refused-first, refused-second, kept-first, kept-both, kept-grown}
use Rattle.vx_serde.proofs.WalkedNodes.{gathered-front, gathered-child, gathered-whole}

-- ---- at the node itself

pub kept-own : (w : Wire) (a b : Context) → KeepsContext (id_in (label w)) a b → KeepsContext (ids_in w) a b
kept-own w a b k =
    let P : List (List ℕ) → Type 0 = λ ids. KeepsContext ids a b in
    subst P (sym (gathered-is (λ h. id_in h) w)) (kept-first (id_in (label w)) (gathered_below (λ h. id_in h) (below w)) a b k)

pub ungrown-own : (w : Wire) (a : Context) → grown_by (id_in (label w)) a ≡ None → grown_by (ids_in w) a ≡ None
ungrown-own w a h =
    ap (λ ids. grown_by ids a) (gathered-is (λ h. id_in h) w) ∙ refused-first (id_in (label w)) (gathered_below (λ h. id_in h) (below w)) a h

-- ---- at a tree below it

pub kept-child : (w : Wire) (ts : List Wire) (i : ℕ) (child : Wire) (a b c d : Context) → roses_of ts ≡ below w → i < length ts → child ≡ get_or ts i child
    → grown_by (id_in (label w)) a ≡ Some b → grown_by (gathered_below (λ h. id_in h) (roses_of (take i ts))) b ≡ Some c → KeepsContext (ids_in child) c d → KeepsContext (ids_in w) a d
kept-child w ts i child a b c d e h at p q k =
    let before = id_in (label w) ++ gathered_below (λ h. id_in h) (roses_of (take i ts)) in
    let rest = gathered_below (λ h. id_in h) (roses_of (drop (suc i) ts)) in
    let P : List (List ℕ) → Type 0 = λ ids. KeepsContext ids a d in
    let Q : Wire → Type 0 = λ t. KeepsContext (ids_in t) c d in
    subst P (sym (gathered-child (λ h. id_in h) w ts i child e h))
    (kept-first (before ++ ids_in (get_or ts i child)) rest a d
    (kept-both before (ids_in (get_or ts i child)) a c d
    (kept-grown before a c (grown-both (id_in (label w)) (gathered_below (λ h. id_in h) (roses_of (take i ts))) a b c p q)) (subst Q at k)))

pub ungrown-child : (w : Wire) (ts : List Wire) (i : ℕ) (child : Wire) (a b c : Context) → roses_of ts ≡ below w → i < length ts → child ≡ get_or ts i child
    → grown_by (id_in (label w)) a ≡ Some b → grown_by (gathered_below (λ h. id_in h) (roses_of (take i ts))) b ≡ Some c → grown_by (ids_in child) c ≡ None → grown_by (ids_in w) a ≡ None
ungrown-child w ts i child a b c e h at p q u =
    let before = id_in (label w) ++ gathered_below (λ h. id_in h) (roses_of (take i ts)) in
    let own = ids_in (get_or ts i child) in
    let rest = gathered_below (λ h. id_in h) (roses_of (drop (suc i) ts)) in
    ap (λ ids. grown_by ids a) (gathered-child (λ h. id_in h) w ts i child e h)
    ∙ refused-first (before ++ own) rest a
    (refused-second before own a c
    (grown-both (id_in (label w)) (gathered_below (λ h. id_in h) (roses_of (take i ts))) a b c p q) (ap (λ t. grown_by (ids_in t) c) (sym at) ∙ u))

pub grown-child : (ts : List Wire) (i : ℕ) (child : Wire) (b c d : Context) → i < length ts → child ≡ get_or ts i child
    → grown_by (gathered_below (λ h. id_in h) (roses_of (take i ts))) b ≡ Some c → grown_by (ids_in child) c ≡ Some d → grown_by (gathered_below (λ h. id_in h) (roses_of (take (i + 1) ts))) b ≡ Some d
grown-child ts i child b c d h at q g =
    ap (λ ids. grown_by ids b) (gathered_below-take (λ h. id_in h) ts i child h)
    ∙ grown-both (gathered_below (λ h. id_in h) (roses_of (take i ts))) (ids_in (get_or ts i child)) b c d q (ap (λ t. grown_by (ids_in t) c) (sym at) ∙ g)

-- ---- after all of them

pub grown-whole : (w : Wire) (ts : List Wire) (i : ℕ) (a b c : Context) → roses_of ts ≡ below w → length ts ≤ i
    → grown_by (id_in (label w)) a ≡ Some b → grown_by (gathered_below (λ h. id_in h) (roses_of (take i ts))) b ≡ Some c → grown_by (ids_in w) a ≡ Some c
grown-whole w ts i a b c e h p q =
    ap (λ ids. grown_by ids a) (gathered-whole (λ h. id_in h) w ts i e h)
    ∙ grown-both (id_in (label w)) (gathered_below (λ h. id_in h) (roses_of (take i ts))) a b c p q

pub kept-front : (w : Wire) (ts : List Wire) (i : ℕ) (a b c : Context) → roses_of ts ≡ below w
    → grown_by (id_in (label w)) a ≡ Some b → grown_by (gathered_below (λ h. id_in h) (roses_of (take i ts))) b ≡ Some c → KeepsContext (ids_in w) a c
kept-front w ts i a b c e p q =
    let before = id_in (label w) ++ gathered_below (λ h. id_in h) (roses_of (take i ts)) in
    let P : List (List ℕ) → Type 0 = λ ids. KeepsContext ids a c in
    subst P (sym (gathered-front (λ h. id_in h) w ts i e))
    (kept-first before (gathered_below (λ h. id_in h) (roses_of (drop i ts))) a c
    (kept-grown before a c (grown-both (id_in (label w)) (gathered_below (λ h. id_in h) (roses_of (take i ts))) a b c p q)))
