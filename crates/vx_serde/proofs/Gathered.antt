-- The buffers and numbers of the nodes of a tree that is written, and why it is not taken.
use Rattle.std.proofs.Common.{ℕ, Bool, ◌≡◌, ◌+◌, ◌<◌, List, [], ◌∷◌, ◌++◌, Some, length, take, get_or, ap, ◌∙◌, subst, append_assoc}
use Rattle.std.proofs.lemmas.List.{take_more}
use Rattle.vx_trees.specs.Everywhere.{Everywhere, EverywhereBelow}
use Rattle.vx_trees.specs.Rose.{Rose, Roses, below, roses_of}
use Rattle.vx_trees.proofs.Holding.{everywhere_below-snoc}
use Rattle.vx_array_tree.specs.Tree.{Tree}
use Rattle.vx_wire_tree.specs.Context.{Context, grown_by}
use Rattle.vx_wire_tree.specs.Session.{SessionMeaning}
use Rattle.vx_wire_tree.specs.Wire.{id_in, ids_in}
use Rattle.vx_wire_tree.specs.Written.{writes_two, wire}
use Rattle.vx_encodings.specs.Messages.{codec}
use Rattle.vx_registry.specs.Serialization.{array_id}
use Rattle.vx_serialized.specs.declared.error.WireError.{WireError}
use Rattle.vx_serialized.specs.declared.error.WireError.TheVariants.{OutOfMemory, NotPermitted}
use Rattle.vx_serde.specs.declared.options.SerializeOptions.{SerializeOptions}
use Rattle.vx_serde.specs.WritingSteps.{RefusesIds, RefusesLayout}
use Rattle.vx_serde.proofs.GrownNodes.{ungrown-own, ungrown-child}
use Rattle.vx_serde.proofs.WiredNodes.{wired, wired-below, wired-at, wired-within, own-grown, own-ungrown, gathered_first}

-- ---- facts at each node

-- One tree more of a list.
pub everywhere-next : {L : Type 0} (F : L → Roses L → Type 0) (ts : List (Rose L)) (i : ℕ) (t : Rose L) → i < length ts → t ≡ get_or ts i t
    → EverywhereBelow F (roses_of (take i ts)) → Everywhere F t → EverywhereBelow F (roses_of (take (i + 1) ts))
everywhere-next F ts i t h e b x =
    let P : Rose _ → Type 0 = λ z. Everywhere F z in
    everywhere_below-snoc F (take i ts) (take (i + 1) ts) (get_or ts i t) b (subst P e x) (take_more ts i t h)

-- ---- why the identifiers of nodes are not taken

pub root-refused : (s : SessionMeaning) (two : Bool) → writes_two s ≡ two → (t : Tree) (c : Context) (e : WireError) → RefusesIds (array_id two t ∷ []) c e → RefusesIds (ids_in (wire codec s t)) c e
root-refused s two q t c OutOfMemory h = tt
root-refused s two q t c NotPermitted h = ungrown-own (wire codec s t) c (own-ungrown s two q t c h)
root-refused s two q t c _ h = absurd h

-- The buffers and numbers of a tree below come after the root's identifier and those of the first trees.
module _ (s : SessionMeaning) (two : Bool) (same : writes_two s ≡ two) (t : Tree) (ts : List Tree) (i : ℕ) (u : Tree) (a b c : Context) where
  pub child-ungathered : (e : WireError) → i < length ts → u ≡ get_or ts i u → roses_of ts ≡ below t
      → grown_by (array_id two t ∷ []) a ≡ Some b → grown_by (gathered_first s (λ h. id_in h) ts i) b ≡ Some c
      → RefusesIds (ids_in (wire codec s u)) c e → RefusesIds (ids_in (wire codec s t)) a e
  child-ungathered OutOfMemory h p q g k r = tt
  child-ungathered NotPermitted h p q g k r =
      ungrown-child (wire codec s t) (wired s ts) i (wire codec s u) a b c (wired-below s t ts q) (wired-within s ts i h) (wired-at s ts i u h p) (own-grown s two same t a b g) k r
  child-ungathered _ h p q g k r = absurd r

-- ---- an array whose identifiers are not taken is not laid out

pub unplaced_nodes : (s : SessionMeaning) (o : SerializeOptions) (t : Tree) (c : Context) (e : WireError) → RefusesIds (ids_in (wire codec s t)) c e → RefusesLayout s o t c e
unplaced_nodes s o t c OutOfMemory h = tt
unplaced_nodes s o t c NotPermitted h = h
unplaced_nodes s o t c _ h = absurd h

-- ---- numbers of encodings

-- Numbers in a list of identifiers stay, where more are appended.
pub longer-ids : (ids added others all : List (List ℕ)) → all ≡ ids ++ added → all ++ others ≡ ids ++ (added ++ others)
longer-ids ids added others all e = ap (λ z. z ++ others) e ∙ append_assoc ids added others
