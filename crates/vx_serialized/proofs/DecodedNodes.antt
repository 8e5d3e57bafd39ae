-- The wire tree of a serialized node, part by part, and of its children.
use Rattle.std.proofs.Common.{ℕ, zero, suc, ◌≡◌, ◌+◌, ◌<◌, List, [], ◌∷◌, ◌++◌, Option, Some, None, length, take, map, get_or, refl, sym, ap, ◌∙◌, subst, arith}
use Rattle.std.specs.Prelude.{slice_get, option_map, option_and_then}
use Rattle.std.proofs.lemmas.List.{take_more, map-append}
use Rattle.std.proofs.lemmas.Option.{slice_get-map, slice_get_within, get_or_from_slice_get}
use Rattle.vx_buffer.specs.Buffer.{Buffer}
use Rattle.vx_trees.specs.Rose.{Rose, Roses, node, end, more, label, below, roses_of, roses_list, count}
use Rattle.vx_trees.specs.Walks as walk
use Rattle.vx_trees.proofs.Counting.{nodes-is, nodes-at}
use Rattle.vx_trees.proofs.Lists.{length-roses_list, roses_of-roses_list}
use Rattle.vx_flat.specs.Value.{Field}
use Rattle.vx_types.specs.Typ.{Typ}
use Rattle.vx_array_tree.specs.Tree.{Tree}
use Rattle.vx_wire_tree.specs.Steps.{IsToldBy}
use Rattle.vx_encodings.specs.Messages.{codec}
use Rattle.vx_serialized.specs.Blob.{wire_of, wires_of}
use Rattle.vx_serialized.specs.Message.{NodeFields}
use Rattle.vx_serialized.specs.declared.error.WireError.{WireError}
use Rattle.vx_serialized.specs.ReadingSteps.{RefusesStats}
use Rattle.vx_serialized.specs.Serialized.{Serialized, wire_in, named_buffer, IsChildOf}

module _ (ids : List (List ℕ)) (bs : List Buffer) where
  wire_of-id : (t : Rose NodeFields) → (label (wire_of ids bs t)).id ≡ slice_get ids (label t).encoding
  wire_of-id (node f ts) = refl

  wire_of-metadata : (t : Rose NodeFields) → (label (wire_of ids bs t)).metadata ≡ (label t).metadata
  wire_of-metadata (node f ts) = refl

  wire_of-buffers : (t : Rose NodeFields) → (label (wire_of ids bs t)).buffers ≡ map (λ i. slice_get bs i) (label t).buffers
  wire_of-buffers (node f ts) = refl

  wire_of-stats : (t : Rose NodeFields) → (label (wire_of ids bs t)).stats ≡ (label t).stats
  wire_of-stats (node f ts) = refl

  wire_of-below : (t : Rose NodeFields) → below (wire_of ids bs t) ≡ wires_of ids bs (below t)
  wire_of-below (node f ts) = refl

  wires_of-count : (ts : Roses NodeFields) → count (wires_of ids bs ts) ≡ count ts
  wires_of-count end = refl
  wires_of-count (more t ts) = ap (λ n. suc n) (wires_of-count ts)

  wires_of-at : (ts : Roses NodeFields) (i : ℕ) (t : Rose NodeFields) → slice_get (roses_list ts) i ≡ Some t → slice_get (roses_list (wires_of ids bs ts)) i ≡ Some (wire_of ids bs t)
  wires_of-at end i t e = absurd (cc)
  wires_of-at (more u ts) zero t e = ap (λ o. option_map (λ z. wire_of ids bs z) o) e
  wires_of-at (more u ts) (suc i) t e = wires_of-at ts i t e

module _ (ids : List (List ℕ)) (a : Serialized) where
  pub wire-id : (label (wire_in ids a)).id ≡ slice_get ids (label a.root).encoding
  wire-id = wire_of-id ids a.buffers a.root

  -- The identifier that a node's number stands for.
  pub wire-named : (k : ℕ) (id : List ℕ) → k ≡ (label a.root).encoding → Some id ≡ slice_get ids k → (label (wire_in ids a)).id ≡ Some id
  wire-named k id e there = wire-id ∙ ap (λ i. slice_get ids i) (sym e) ∙ sym there

  pub wire-metadata : (label (wire_in ids a)).metadata ≡ (label a.root).metadata
  wire-metadata = wire_of-metadata ids a.buffers a.root

  pub wire-buffers : (label (wire_in ids a)).buffers ≡ map (λ i. slice_get a.buffers i) (label a.root).buffers
  wire-buffers = wire_of-buffers ids a.buffers a.root

  pub wire-stats : (label (wire_in ids a)).stats ≡ (label a.root).stats
  wire-stats = wire_of-stats ids a.buffers a.root

  pub wire-count : count (below (wire_in ids a)) ≡ count (below a.root)
  wire-count = ap (λ z. count z) (wire_of-below ids a.buffers a.root) ∙ wires_of-count ids a.buffers (below a.root)

  -- A child of a node is the child of its wire tree.
  pub wire-child : (i : ℕ) (b : Serialized) → IsChildOf a i b → slice_get (roses_list (below (wire_in ids a))) i ≡ Some (wire_in ids b)
  wire-child i b h =
      ap (λ z. slice_get (roses_list z) i) (wire_of-below ids a.buffers a.root) ∙ wires_of-at ids a.buffers (below a.root) i b.root h.root
      ∙ ap (λ z. Some (wire_of ids z b.root)) (sym h.buffers)

  pub wire-length : length (roses_list (below (wire_in ids a))) ≡ count (below a.root)
  wire-length = length-roses_list (below (wire_in ids a)) ∙ wire-count

-- A child has fewer nodes.
pub child-smaller : (a : Serialized) (i : ℕ) (b : Serialized) → IsChildOf a i b → walk.nodes b.root < walk.nodes a.root
child-smaller a i b h =
    let ts = roses_list (below a.root) in
    let at : walk.nodes (get_or ts i b.root) ≡ walk.nodes b.root = ap (λ t. walk.nodes t) (get_or_from_slice_get ts i b.root b.root h.root) in
    let all : walk.nodes_of (roses_of ts) ≡ walk.nodes_of (below a.root) = ap (λ z. walk.nodes_of z) (roses_of-roses_list (below a.root)) in
    omega (arith, at, all, nodes-at ts i b.root (slice_get_within ts i b.root h.root), nodes-is a.root)

-- ---- a node's buffers

named_there : (o : Option ℕ) (bs : List Buffer) (b : Buffer) → option_and_then (λ k. slice_get bs k) o ≡ Some b → option_map (λ k. slice_get bs k) o ≡ Some (Some b)
named_there None bs b e = absurd (cc)
named_there (Some k) bs b e = ap (λ z. Some z) e

module _ (a : Serialized) (i : ℕ) where
  -- What the numbers of a node's buffers stand for, where they stand for one.
  abbrev named : List (Option Buffer)
  named = map (λ k. slice_get a.buffers k) (label a.root).buffers

  pub buffer-there : (b : Buffer) → named_buffer a i ≡ Some b → slice_get named i ≡ Some (Some b)
  buffer-there b e = slice_get-map (λ k. slice_get a.buffers k) (label a.root).buffers i ∙ named_there (slice_get (label a.root).buffers i) a.buffers b e

  -- One buffer more.
  pub buffers-next : (own next : List Buffer) (b taken : Buffer) → take i named ≡ map (λ b. Some b) own → named_buffer a i ≡ Some b → taken ≡ b → next ≡ own ++ taken ∷ []
      → take (i + 1) named ≡ map (λ b. Some b) next
  buffers-next own next b taken inv there is e =
      let at = buffer-there b there in
      take_more named i (Some b) (slice_get_within named i (Some b) at)
      ∙ (λ j. inv j ++ (get_or_from_slice_get named i (Some b) (Some b) at ∙ ap (λ z. Some z) (sym is)) j ∷ [])
      ∙ sym (ap (λ z. map (λ b. Some b) z) e ∙ map-append (λ b. Some b) own (taken ∷ []))

-- ---- statistics

-- What a node's field shows, or why it shows nothing, holds of its wire tree.
pub shown_at : (ids : List (List ℕ)) (a : Serialized) (d : Typ) (t u : Tree) → IsToldBy codec d (label a.root).stats t u → IsToldBy codec d (label (wire_in ids a)).stats t u
shown_at ids a d t u h = subst (λ (f : Field). IsToldBy codec d f t u) (sym (wire-stats ids a)) h

pub refused_at : (ids : List (List ℕ)) (a : Serialized) (d : Typ) (e : WireError) → RefusesStats e d (label a.root).stats → RefusesStats e d (label (wire_in ids a)).stats
refused_at ids a d e h = subst (λ (f : Field). RefusesStats e d f) (sym (wire-stats ids a)) h
