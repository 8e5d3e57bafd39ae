-- What a hash is fed of arrays, step by step.
use Rattle.std.proofs.Common.{ℕ, zero, suc, ◌≡◌, ◌<◌, ◌≤◌, ◌+◌, List, [], ◌∷◌, ◌++◌, length, take, get_or, map, Some, refl, sym, ap, ◌∙◌, add-one}
use Rattle.std.proofs.lemmas.List.{map-append, length-map, take_all, append-nil}
use Rattle.std.proofs.lemmas.List.Concat.{flat_map-append}
use Rattle.std.specs.Hash as fed
use Rattle.std.specs.Hash.{fed_then, fed_along}
use Rattle.std.specs.List.{flat_map, fold}
use Rattle.std.specs.Prelude.{slice_get}
use Rattle.vx_buffer.specs.Buffer.{Buffer}
use Rattle.vx_trees.specs.Rose.{node, end, more, label, below, roses_of}
use Rattle.vx_trees.specs.Walks.{gathered_below}
use Rattle.vx_trees.proofs.Gathering.{gathered-is, gathered_below-take}
use Rattle.vx_array_tree.specs.Body.{Body}
use Rattle.vx_array_tree.specs.Body as B
use Rattle.vx_array_tree.specs.Table.{own_id, buffers_of}
use Rattle.vx_array_tree.specs.Tree.{Tree, Trees, Head}
use Rattle.vx_arrays.specs.Compared.{bare, compared_body, compared_head, compared, each_compared, fed_buffer, fed_head, fed_array}

-- ---- what is not compared is not fed

flat_bare : (bs : List Buffer) → flat_map fed_buffer (map bare bs) ≡ flat_map fed_buffer bs
flat_bare [] = refl
flat_bare (b ∷ bs) = ap (λ z. fed_buffer b ++ z) (flat_bare bs)

fed_bare : (bs : List Buffer) → fed.slice fed_buffer (map bare bs) ≡ fed.slice fed_buffer bs
fed_bare bs = ap (λ n. fed.usize n ++ flat_map fed_buffer (map bare bs)) (length-map bs bare) ∙ ap (λ z. fed.usize (length bs) ++ z) (flat_bare bs)

-- The buffers of what is compared are those of the body, without their alignments.
pub bare_buffers : (b : Body) → buffers_of (compared_body b) ≡ map bare (buffers_of b)
bare_buffers (B.bool x) = refl
bare_buffers (B.primitive x) = refl
bare_buffers (B.decimal x) = refl
bare_buffers (B.varbin x) = refl
bare_buffers (B.varbinview x) = sym (map-append bare x.buffers (x.views ∷ []))
bare_buffers B.null = refl
bare_buffers B.list = refl
bare_buffers (B.listview x) = refl
bare_buffers B.fixed_size_list = refl
bare_buffers B.map = refl
bare_buffers B.struct = refl
bare_buffers B.union = refl
bare_buffers B.variant = refl
bare_buffers B.ext = refl
bare_buffers (B.dict x) = refl
bare_buffers (B.foreign x) = refl

same_id : (b : Body) → own_id (compared_body b) ≡ own_id b
same_id (B.bool x) = refl
same_id (B.primitive x) = refl
same_id (B.decimal x) = refl
same_id (B.varbin x) = refl
same_id (B.varbinview x) = refl
same_id B.null = refl
same_id B.list = refl
same_id (B.listview x) = refl
same_id B.fixed_size_list = refl
same_id B.map = refl
same_id B.struct = refl
same_id B.union = refl
same_id B.variant = refl
same_id B.ext = refl
same_id (B.dict x) = refl
same_id (B.foreign x) = refl

fed_same : (h : Head) → fed_head (compared_head h) ≡ fed_head h
fed_same h =
    let bs = buffers_of (compared_body h.body) in
    ap (λ id. fed.str id ++ (fed.usize h.len ++ fed.slice fed_buffer bs)) (same_id h.body)
    ∙ ap (λ w. fed.str (own_id h.body) ++ (fed.usize h.len ++ w)) (ap (fed.slice fed_buffer) (bare_buffers h.body) ∙ fed_bare (buffers_of h.body))

mutual
  -- What is fed of an array is fed of what is compared of it.
  pub fed_compared : (t : Tree) → fed_array (compared t) ≡ fed_array t
  fed_compared (node h ts) = λ i. fed_same h i ++ fed_each ts i

  fed_each : (ts : Trees) → gathered_below fed_head (each_compared ts) ≡ gathered_below fed_head ts
  fed_each end = refl
  fed_each (more t ts) = λ i. fed_compared t i ++ fed_each ts i

-- ---- step by step

take_suc : (xs : List Buffer) (i : ℕ) (b : Buffer) → slice_get xs i ≡ Some b → take (suc i) xs ≡ take i xs ++ b ∷ []
take_suc [] i b e = absurd (cc)
take_suc (x ∷ xs) zero b e = let same : x ≡ b = cc in ap (λ z. z ∷ []) same
take_suc (x ∷ xs) (suc i) b e = ap (λ zs. x ∷ zs) (take_suc xs i b e)

fed_more : (xs : List Buffer) (i : ℕ) (b : Buffer) → slice_get xs i ≡ Some b → flat_map fed_buffer (take (i + 1) xs) ≡ flat_map fed_buffer (take i xs) ++ fed_buffer b
fed_more xs i b e =
    ap (λ k. flat_map fed_buffer (take k xs)) (add-one i) ∙ ap (flat_map fed_buffer) (take_suc xs i b e) ∙ flat_map-append fed_buffer (take i xs) (b ∷ [])
    ∙ ap (λ z. flat_map fed_buffer (take i xs) ++ z) (append-nil (fed_buffer b))

module _ {S : Type 0} (write : S → List ℕ → S) where
  -- One buffer more.
  pub buffer_fed : (s t u : S) (bs : List Buffer) (i : ℕ) (b : Buffer) → slice_get bs i ≡ Some b → t ≡ fold write s (flat_map fed_buffer (take i bs)) → u ≡ fold write t (fed_buffer b)
      → u ≡ fold write s (flat_map fed_buffer (take (i + 1) bs))
  buffer_fed s t u bs i b e p q = fed_along write s u (sym (fed_more bs i b e)) (fed_then write s t u (flat_map fed_buffer (take i bs)) (fed_buffer b) p q)

  -- One child more.
  pub child_fed : (s t u : S) (ts : List Tree) (i : ℕ) (d : Tree) → i < length ts → d ≡ get_or ts i d → t ≡ fold write s (gathered_below fed_head (roses_of (take i ts))) → u ≡ fold write t (fed_array (compared d))
      → u ≡ fold write s (gathered_below fed_head (roses_of (take (i + 1) ts)))
  child_fed s t u ts i d h is p q =
      fed_along write s u (sym (gathered_below-take fed_head ts i d h))
      (fed_then write s t u (gathered_below fed_head (roses_of (take i ts))) (fed_array (get_or ts i d)) p (q ∙ ap (fold write t) (fed_compared d ∙ ap fed_array is)))

  -- An array is fed by its root and its children.
  pub array_fed : (s a e : S) (t : Tree) (ts : List Tree) (i : ℕ) → length ts ≤ i → roses_of ts ≡ below t → a ≡ fold write s (fed_head (label t)) → e ≡ fold write a (gathered_below fed_head (roses_of (take i ts)))
      → e ≡ fold write s (fed_array (compared t))
  array_fed s a e t ts i h q p r =
      fed_along write s e
      (ap (λ z. fed_head (label t) ++ gathered_below fed_head (roses_of z)) (take_all i ts h) ∙ ap (λ z. fed_head (label t) ++ gathered_below fed_head z) q ∙ sym (gathered-is fed_head t) ∙ sym (fed_compared t))
      (fed_then write s a e (fed_head (label t)) (gathered_below fed_head (roses_of (take i ts))) p r)
