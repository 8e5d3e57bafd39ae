-- What keeping a node and its children gives, and why it does not.
use Rattle.std.proofs.Common.{ℕ, ◌≡◌, List, [], ◌∷◌, Some, None, sym, ◌∙◌, subst}
use Rattle.std.specs.Prelude.{slice_get}
use Rattle.vx_buffer.specs.Buffer.{Buffer}
use Rattle.vx_trees.specs.Rose.{node, label, below, roses_of, roses_list}
use Rattle.vx_types.specs.Seen.{typ}
use Rattle.vx_types.specs.Typ.{Typ}
use Rattle.vx_array_tree.specs.Sound.{IsSound}
use Rattle.vx_array_tree.specs.Tree.{Tree, Trees}
use Rattle.vx_wire_tree.specs.Kept.{IsKeptAs, AreKeptAs}
use Rattle.vx_wire_tree.specs.Wire.{Wire, Wires, all_present}
use Rattle.vx_wire_tree.proofs.Laws.{kept_node}
use Rattle.vx_arrays.specs.Foreigns.{foreign_tree}
use Rattle.vx_plans.specs.declared.head.ArrayHead.{ArrayHead}
use Rattle.vx_serialized.specs.declared.error.WireError.{WireError}
use Rattle.vx_serialized.specs.declared.error.WireError.TheVariants.{OutOfMemory, OutOfBounds, UnknownIndex}
use Rattle.vx_serialized.specs.Decoding.{IsHeadOf}
use Rattle.vx_serialized.specs.ReadingSteps.{RefusesNodeBuffers, RefusesKept}

-- A child's cause is its parent's.
pub kept_above : (x : WireError) (w : Wire) (i : ℕ) (v : Wire) → slice_get (roses_list (below w)) i ≡ Some v → RefusesKept x v → RefusesKept x w
kept_above OutOfMemory w i v child c = tt
kept_above OutOfBounds w i v child c = (i ∷ c.0, (v, child, c.1))
kept_above UnknownIndex w i v child c = (i ∷ c.0, (v, child, c.1))
kept_above _ w i v child c = absurd c

-- A missing buffer.
pub unkept_by_buffers : (x : WireError) (w : Wire) → RefusesNodeBuffers x (label w).buffers → RefusesKept x w
unkept_by_buffers OutOfMemory w c = tt
unkept_by_buffers OutOfBounds w c = ([], c)
unkept_by_buffers _ w c = absurd c

-- A missing identifier.
pub unkept_by_id : (w : Wire) → (label w).id ≡ None → RefusesKept UnknownIndex w
unkept_by_id w e = ([], e)

-- Allocation failure.
pub unkept_by_memory : (x : WireError) (w : Wire) → x ≡ OutOfMemory → RefusesKept x w
unkept_by_memory x w e = subst (λ z. RefusesKept z w) (sym e) tt

kept_at : (id : List ℕ) (w : Wire) (d : Typ) (n : ℕ) (metadata : List ℕ) (bs : List Buffer) (ts : Trees) → (label w).id ≡ Some id → metadata ≡ (label w).metadata → (label w).buffers ≡ all_present bs
    → AreKeptAs (below w) d n ts → IsSound (foreign_tree id d n metadata bs ts) → IsKeptAs w d n (foreign_tree id d n metadata bs ts)
kept_at id (node w ws) d n metadata bs ts i m b k sound = kept_node id w ws d n metadata bs ts i m b k sound

-- The foreign array of a node's parts, over children that are kept.
pub kept_of : (id : List ℕ) (w : Wire) (d : Typ) (n : ℕ) (h : ArrayHead) (bs : List Buffer) (ws : List Wire) (ts : Trees) (a : Tree) → (label w).id ≡ Some id → h.serialized_id ≡ id → IsHeadOf h w d n
    → (label w).buffers ≡ all_present bs → roses_of ws ≡ below w → AreKeptAs (roses_of ws) d n ts → a ≡ foreign_tree h.serialized_id (typ h.dtype) n h.metadata bs ts → IsSound a → IsKeptAs w d n a
kept_of id w d n h bs ws ts a i same is b own k e sound =
    let whole : a ≡ foreign_tree id d n h.metadata bs ts = e ∙ (λ j. foreign_tree (same j) (is.dtype j) n h.metadata bs ts) in
    let A : Wires → Type 0 = λ z. AreKeptAs z d n ts in
    let S : Tree → Type 0 = λ z. IsSound z in
    let K : Tree → Type 0 = λ z. IsKeptAs w d n z in
    subst K (sym whole) (kept_at id w d n h.metadata bs ts i is.metadata b (subst A own k) (subst S whole sound))
