-- The wire tree of an array beside the array: its parts, its children and its size.
use Rattle.std.proofs.Common.{ℕ, Bool, true, false, if◌then◌else◌, zero, suc, ◌≡◌, ◌+◌, ◌<◌, ◌≤◌, append_assoc, List, [], ◌∷◌, ◌++◌, length, map, take, get_or, refl, sym, ap, subst, ◌∙◌, arith, Some, None, length-append}
use Rattle.std.specs.Prelude.{max}
use Rattle.vx_buffer.specs.Buffer.{Buffer}
use Rattle.vx_trees.specs.Rose.{node, end, more, label, below, roses_of}
use Rattle.vx_trees.specs.Walks.{nodes, nodes_of, levels, levels_below, gathered, gathered_below}
use Rattle.vx_trees.proofs.Gathering.{gathered-is, gathered-end, gathered_below-take}
use Rattle.vx_flat.specs.Value.{table}
use Rattle.vx_types.specs.Known.{no_readers}
use Rattle.vx_scalar_wire.specs.StatsTable.{stats_table}
use Rattle.vx_array_tree.specs.Sound.{metadata_in}
use Rattle.vx_array_tree.specs.Table.{buffers_of}
use Rattle.vx_array_tree.specs.Tree.{Tree, Trees}
use Rattle.vx_wire_tree.specs.Context.{Context, grown_by, index_of}
use Rattle.vx_wire_tree.specs.Codec.{metadata_bytes}
use Rattle.vx_wire_tree.specs.Fields.{Fields, told}
use Rattle.vx_wire_tree.specs.Fields as F
use Rattle.vx_wire_tree.specs.Session.{SessionMeaning, revised}
use Rattle.vx_wire_tree.specs.Wire.{Wire, WireHead, present, all_present, id_in, buffers_at_node, buffers_in}
use Rattle.vx_wire_tree.specs.Written.{writes_two, head_id, wire, wires}
use Rattle.vx_encodings.specs.Messages.{codec, message_bytes}
use Rattle.vx_registry.specs.Serialization.{array_id}
use Rattle.vx_serde.specs.KeptContext.{KeepsContext}
use Rattle.vx_serde.specs.Numbered.{encoding_index}

pub present-all : {A : Type 0} (xs : List A) → present (all_present xs) ≡ xs
present-all [] = refl
present-all (x ∷ xs) = ap (λ ys. x ∷ ys) (present-all xs)

-- ---- lists, element by element

module _ {A B : Type 0} (f : A → B) where
  pub map-length : (xs : List A) → length (map f xs) ≡ length xs
  map-length [] = refl
  map-length (x ∷ xs) = ap suc (map-length xs)

  pub map-at : (xs : List A) (i : ℕ) (x : A) → i < length xs → x ≡ get_or xs i x → f x ≡ get_or (map f xs) i (f x)
  map-at [] i x h e = absurd (omega (arith, h))
  map-at (y ∷ xs) zero x h e = ap f e
  map-at (y ∷ xs) (suc i) x h e = map-at xs i x (omega (arith, h)) e

-- A session that reads and writes nothing. The wire tree of an array does not depend on it.
abbrev pub no_session : SessionMeaning
no_session = record { reader = λ id. None; writer = λ id. None; ext = no_readers }

-- A session that reads nothing, and under which primitives have two identifiers or one.
abbrev pub some_session : Bool → SessionMeaning
some_session two = record { reader = λ id. None; writer = λ id. if two then Some revised else None; ext = no_readers }

pub writes_so : (two : Bool) → writes_two (some_session two) ≡ two
writes_so true = refl
writes_so false = refl

-- A foreign node's bytes are written unchanged, and others as their message.
written_bytes : (f : Fields) → metadata_bytes codec f ≡ message_bytes f
written_bytes (F.raw bytes) = refl
written_bytes _ = refl

module _ (s : SessionMeaning) where
  -- The wire trees of a list of arrays.
  abbrev pub wired : List Tree → List Wire
  wired ts = map (λ t. wire codec s t) ts

  pub wires-list : (ts : List Tree) → wires codec s (roses_of ts) ≡ roses_of (wired ts)
  wires-list [] = refl
  wires-list (t ∷ ts) = ap (λ us. more (wire codec s t) us) (wires-list ts)

  -- ---- a node's own parts

  pub own-buffers : (t : Tree) → buffers_at_node (label (wire codec s t)) ≡ buffers_of (label t).body
  own-buffers (node h ts) = present-all (buffers_of h.body)

  pub own-ids : (two : Bool) → writes_two s ≡ two → (t : Tree) → id_in (label (wire codec s t)) ≡ array_id two t ∷ []
  own-ids two q (node h ts) = ap (λ b. head_id b h ∷ []) q

  pub own-length : (t : Tree) → length (buffers_of (label t).body) ≡ length (buffers_at_node (label (wire codec s t)))
  own-length t = ap (λ z. length z) (sym (own-buffers t))

  pub own-room : (t : Tree) → length (buffers_of (label t).body) ≤ length (buffers_in (wire codec s t))
  own-room t =
      let f : WireHead → List Buffer = λ h. buffers_at_node h in
      omega (arith, own-length t, ap (λ z. length z) (gathered-is f (wire codec s t)), length-append (f (label (wire codec s t))) (gathered_below f (below (wire codec s t))))

  pub own-index : (two : Bool) → writes_two s ≡ two → (t : Tree) (ids : List (List ℕ)) → encoding_index (label (wire codec s t)).id ids ≡ index_of (array_id two t) ids
  own-index two q (node h ts) ids = ap (λ b. index_of (head_id b h) ids) q

  pub own-metadata : (t : Tree) → (label (wire codec s t)).metadata ≡ message_bytes (told (metadata_in (label t) (below t)))
  own-metadata (node h ts) = written_bytes (told (metadata_in h ts))

  pub own-stats : (t : Tree) → (label (wire codec s t)).stats ≡ table (stats_table (label t).stats)
  own-stats (node h ts) = refl

  pub own-grown : (two : Bool) → writes_two s ≡ two → (t : Tree) (a b : Context) → grown_by (array_id two t ∷ []) a ≡ Some b → grown_by (id_in (label (wire codec s t))) a ≡ Some b
  own-grown two q t a b g = ap (λ z. grown_by z a) (own-ids two q t) ∙ g

  pub own-kept : (two : Bool) → writes_two s ≡ two → (t : Tree) (a b : Context) → KeepsContext (array_id two t ∷ []) a b → KeepsContext (id_in (label (wire codec s t))) a b
  own-kept two q t a b k =
      let P : List (List ℕ) → Type 0 = λ z. KeepsContext z a b in
      subst P (sym (own-ids two q t)) k

  pub own-ungrown : (two : Bool) → writes_two s ≡ two → (t : Tree) (a : Context) → grown_by (array_id two t ∷ []) a ≡ None → grown_by (id_in (label (wire codec s t))) a ≡ None
  own-ungrown two q t a r = ap (λ z. grown_by z a) (own-ids two q t) ∙ r

  -- ---- what stands below it

  pub wired-below : (t : Tree) (ts : List Tree) → roses_of ts ≡ below t → roses_of (wired ts) ≡ below (wire codec s t)
  wired-below (node h us) ts e = sym (wires-list ts) ∙ ap (λ z. wires codec s z) e

  pub wired-length : (ts : List Tree) → length (wired ts) ≡ length ts
  wired-length ts = map-length (λ t. wire codec s t) ts

  pub wired-at : (ts : List Tree) (i : ℕ) (t : Tree) → i < length ts → t ≡ get_or ts i t → wire codec s t ≡ get_or (wired ts) i (wire codec s t)
  wired-at ts i t h e = map-at (λ t. wire codec s t) ts i t h e

  pub wired-within : (ts : List Tree) (i : ℕ) → i < length ts → i < length (wired ts)
  wired-within ts i h = omega (arith, h, wired-length ts)

  pub wired-past : (ts : List Tree) (i : ℕ) → length ts ≤ i → length (wired ts) ≤ i
  wired-past ts i h = omega (arith, h, wired-length ts)

  -- ---- its size

  mutual
    pub wired-levels : (t : Tree) → levels (wire codec s t) ≡ levels t
    wired-levels (node h ts) = ap suc (all-levels ts)

    all-levels : (ts : Trees) → levels_below (wires codec s ts) ≡ levels_below ts
    all-levels end = refl
    all-levels (more t ts) = λ i. max (wired-levels t i) (all-levels ts i)

  mutual
    pub wired-nodes : (t : Tree) → nodes (wire codec s t) ≡ nodes t
    wired-nodes (node h ts) = ap suc (all-nodes ts)

    all-nodes : (ts : Trees) → nodes_of (wires codec s ts) ≡ nodes_of ts
    all-nodes end = refl
    all-nodes (more t ts) = λ i. wired-nodes t i + all-nodes ts i

  -- ---- a walk over the children

  -- What is gathered of the first n of them.
  abbrev pub gathered_first : {A : Type 0} → (WireHead → List A) → List Tree → ℕ → List A
  gathered_first f ts i = gathered_below f (roses_of (take i (wired ts)))

  -- One more.
  pub gathered-next : {A : Type 0} (f : WireHead → List A) (start now next : List A) (ts : List Tree) (i : ℕ) (t : Tree) → i < length ts → t ≡ get_or ts i t
      → now ≡ start ++ gathered_first f ts i → next ≡ now ++ gathered f (wire codec s t) → next ≡ start ++ gathered_first f ts (i + 1)
  gathered-next f start now next ts i t h e p q =
      let below : i < length (wired ts) = omega (arith, h, wired-length ts) in
      q ∙ ap (λ r. r ++ gathered f (wire codec s t)) p
      ∙ append_assoc start (gathered_first f ts i) (gathered f (wire codec s t))
      ∙ ap (λ w. start ++ (gathered_first f ts i ++ gathered f w)) (wired-at ts i t h e)
      ∙ ap (λ r. start ++ r) (sym (gathered_below-take f (wired ts) i (wire codec s t) below))

  -- All of them, after the node's own.
  pub gathered-all : {A : Type 0} (f : WireHead → List A) (before start now : List A) (t : Tree) (ts : List Tree) (i : ℕ) → length ts ≤ i → roses_of ts ≡ below t
      → start ≡ before ++ f (label (wire codec s t)) → now ≡ start ++ gathered_first f ts i → now ≡ before ++ gathered f (wire codec s t)
  gathered-all f before start now t ts i h e p q =
      gathered-end f before start now (wire codec s t) (wired ts) i (omega (arith, h, wired-length ts)) (wired-below t ts e) p q
