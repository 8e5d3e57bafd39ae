-- Wire trees that are kept unchanged, node by node, and what they decode to.
use Rattle.std.proofs.Common.{ℕ, suc, ◌≡◌, ◌+◌, ◌<◌, ◌≤◌, arith, add-one, List, [], ◌∷◌, ◌++◌, Some, None, IsTrue, refl, sym, ap, ◌∙◌, subst, take, length, get_or, zero}
use Rattle.std.proofs.lemmas.List.{take_all}
use Rattle.vx_buffer.specs.Buffer.{Buffer}
use Rattle.vx_trees.specs.Rose.{node, label, roses_of, roses_list}
use Rattle.vx_trees.specs.Everywhere.{EverywhereBelow}
use Rattle.vx_trees.proofs.Holding.{everywhere_below-snoc}
use Rattle.vx_trees.proofs.Lists.{roses_of-roses_list}
use Rattle.vx_types.specs.Typ.{Typ}
use Rattle.vx_array_tree.specs.Body as B
use Rattle.vx_array_tree.specs.Normal.{IsForeignAt, AreForeignAt, IsNormalNode}
use Rattle.vx_array_tree.specs.Sound.{IsSound, IsSoundNode}
use Rattle.vx_array_tree.specs.Tree.{Tree, Trees, untold}
use Rattle.vx_wire_tree.specs.Codec.{Codec}
use Rattle.vx_wire_tree.specs.Kept.{IsKeptAs, AreKeptAs}
use Rattle.vx_wire_tree.specs.Matches.{IsRaw, AreRaw, IsNodeBy, AllMatch}
use Rattle.vx_wire_tree.specs.Session.{SessionMeaning}
use Rattle.vx_wire_tree.specs.DecodesTo.{DecodesTo}
use Rattle.vx_wire_tree.specs.Wire.{Wire, Wires, WireHead, all_present}

-- The foreign node of a node's parts, over children that are kept, is kept.
pub kept_node : (id : List ℕ) (w : WireHead) (ws : Wires) (d : Typ) (n : ℕ) (metadata : List ℕ) (bs : List Buffer) (ts : Trees) → w.id ≡ Some id → metadata ≡ w.metadata → w.buffers ≡ all_present bs
    → AreKeptAs ws d n ts → let t : Tree = node (untold d n (B.foreign (record { id = id; metadata = metadata; buffers = bs }))) ts in IsSound t → IsKeptAs (node w ws) d n t
kept_node id w ws d n metadata bs ts i m b k sound = record {
  raw = (record { kept = record { id = id; metadata = metadata; buffers = bs }; body = refl; id = i; metadata = sym m; buffers = b }, k.raw);
  place = record { encoding = refl; dtype = refl; len = refl };
  sound = sound;
  normal = (record { stats = refl; children = k.places }, k.normal);
}

-- ---- one child more

raw-snoc_suc : (ws : List Wire) (i : ℕ) (w : Wire) (ts : List Tree) (u : Tree) → i < length ws → AreRaw (roses_of (take i ws)) (roses_of ts) → IsRaw (get_or ws i w) u
    → AreRaw (roses_of (take (suc i) ws)) (roses_of (ts ++ u ∷ []))
raw-snoc_suc [] i w ts u h m n = absurd (omega (arith, h))
raw-snoc_suc (v ∷ ws) zero w [] u h m n = (n, refl)
raw-snoc_suc (v ∷ ws) zero w (t ∷ ts) u h m n = absurd (cc)
raw-snoc_suc (v ∷ ws) (suc i) w [] u h m n = absurd m
raw-snoc_suc (v ∷ ws) (suc i) w (t ∷ ts) u h m n = (m.0, raw-snoc_suc ws i w ts u (omega (arith, h)) m.1 n)

places-snoc : (d : Typ) (n : ℕ) (ts : List Tree) (u : Tree) → AreForeignAt d n (roses_of ts) → IsForeignAt d n (label u) → AreForeignAt d n (roses_of (ts ++ u ∷ []))
places-snoc d n [] u k x = (x, tt)
places-snoc d n (t ∷ ts) u k x = (k.0, places-snoc d n ts u k.1 x)

pub kept-snoc : (ws : List Wire) (d : Typ) (n : ℕ) (i : ℕ) (w : Wire) (us vs : Trees) (u : Tree) → i < length ws → AreKeptAs (roses_of (take i ws)) d n us → w ≡ get_or ws i w → IsKeptAs w d n u
    → roses_list vs ≡ roses_list us ++ u ∷ [] → AreKeptAs (roses_of (take (i + 1) ws)) d n vs
kept-snoc ws d n i w us vs u h k f x e =
    let ts = roses_list us in
    let back = sym (roses_of-roses_list us) in
    let next : vs ≡ roses_of (ts ++ u ∷ []) = sym (roses_of-roses_list vs) ∙ ap (λ z. roses_of z) e in
    let R : Trees → Type 0 = λ z. AreRaw (roses_of (take i ws)) z in
    let F : Trees → Type 0 = λ z. AreForeignAt d n z in
    let S : Trees → Type 0 = λ z. EverywhereBelow IsSoundNode z in
    let N : Trees → Type 0 = λ z. EverywhereBelow IsNormalNode z in
    rw (next, add-one i) (record {
      raw = raw-snoc_suc ws i w ts u h (subst R back k.raw) (subst (λ z. IsRaw z u) f x.raw);
      places = places-snoc d n ts u (subst F back k.places) x.place;
      sound = everywhere_below-snoc IsSoundNode ts (ts ++ u ∷ []) u (subst S back k.sound) x.sound refl;
      normal = everywhere_below-snoc IsNormalNode ts (ts ++ u ∷ []) u (subst N back k.normal) x.normal refl;
    })

pub all_kept : (ws : List Wire) (d : Typ) (n : ℕ) (i : ℕ) (us : Trees) → length ws ≤ i → AreKeptAs (roses_of (take i ws)) d n us → AreKeptAs (roses_of ws) d n us
all_kept ws d n i us h k = subst (λ z. AreKeptAs (roses_of z) d n us) (take_all i ws h) k

-- ---- what is kept is decoded

-- A wire tree whose root nothing reads, under a session that allows such nodes, decodes to the array that is kept of
-- it.
pub kept_decodes : (c : Codec) (s : SessionMeaning) (id : List ℕ) (w : Wire) (d : Typ) (n : ℕ) (t : Tree) → (label w).id ≡ Some id → s.reader id ≡ None → IsTrue s.ext.unknown → IsKeptAs w d n t → DecodesTo c s w d n t
kept_decodes c s id (node w ws) d n t i r allowed k = record {
  matched = (id, i, subst (λ z. IsNodeBy c s z w ws t (λ us. AllMatch c s ws us)) (sym r) (allowed, k.raw, k.normal));
  dtype = k.place.dtype;
  len = k.place.len;
  sound = k.sound;
}
