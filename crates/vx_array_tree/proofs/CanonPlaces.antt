-- Where the children stand of a node that is read back at a type.
use Rattle.std.proofs.Common.{suc, ◌≡◌, List, [], ◌∷◌, Some, refl, sym, ap, ◌∙◌}
use Rattle.vx_trees.specs.Rose.{node, end, more, label, count}
use Rattle.vx_types.specs.Typ.{Typ}
use Rattle.vx_array_tree.specs.Body.{Body}
use Rattle.vx_array_tree.specs.Body as B
use Rattle.vx_array_tree.specs.Canon.{types_in, planned_types, child_types, Spelling, foreign_head, all_foreign, canon_head, canon_by, canon_at, canon_all}
use Rattle.vx_array_tree.specs.Encoding as E
use Rattle.vx_array_tree.specs.Encodings.Foreigns as Foreigns
use Rattle.vx_array_tree.specs.Place.{Place}
use Rattle.vx_array_tree.specs.Sound.{IsSoundNode, metadata_in}
use Rattle.vx_array_tree.specs.Table.{encoding_of, metadata_of, buffers_of, plan_of, lifted, cleared, IsNative}
use Rattle.vx_array_tree.specs.Tree.{Head, Tree, Trees, places, encodings}
use Rattle.vx_array_tree.proofs.Bodies.{body_again, cleared_encoding}
use Rattle.vx_array_tree.proofs.Plans.{metadata_again}
use Rattle.vx_array_tree.proofs.Retyped.{IsRetyped, AreRetyped, replanned, lifted_retyped, are_retyped_then}

-- What is read back by what a node is.
pub either : (P : Tree → Type 0) (b : Body) (x y : Tree) → P x → P y → P (canon_by b x y)
either P (B.foreign z) x y p q = q
either P _ x y p q = p

pub known : (b : Body) (x y : Tree) → IsNative b → canon_by b x y ≡ x
known (B.foreign z) x y k = absurd k
known _ x y k = refl

pub unknown : (b : Body) (x y : Tree) (z : Foreigns.Data) → b ≡ B.foreign z → canon_by b x y ≡ y
unknown b x y z e = ap (λ c. canon_by c x y) e

by_encoding : (b : Body) (x y : Tree) → encoding_of (label x).body ≡ encoding_of b → encoding_of (label y).body ≡ E.foreign → encoding_of (label (canon_by b x y)).body ≡ encoding_of b
by_encoding (B.foreign z) x y p q = q
by_encoding _ x y p q = p

module _ (sp : Spelling) where
  -- A node of a known encoding as it is read back at a type, and a foreign one.
  abbrev pub known_node : Typ → Head → Trees → Tree
  known_node d h ts = node (canon_head d h) (canon_all sp (child_types d h ts) ts)

  abbrev pub foreign_node : Typ → Head → Trees → Tree
  foreign_node d h ts = node (foreign_head sp d h.len h ts) (all_foreign sp d h.len ts)

  -- An array is read back at the type that is asked for, with its rows and of its encoding.
  pub canon_dtype : (d : Typ) (t : Tree) → (label (canon_at sp d t)).dtype ≡ d
  canon_dtype d (node h ts) = either (λ t. (label t).dtype ≡ d) h.body (known_node d h ts) (foreign_node d h ts) refl refl

  pub canon_len : (d : Typ) (t : Tree) → (label (canon_at sp d t)).len ≡ (label t).len
  canon_len d (node h ts) = either (λ t. (label t).len ≡ h.len) h.body (known_node d h ts) (foreign_node d h ts) refl refl

  pub canon_encoding : (d : Typ) (t : Tree) → encoding_of (label (canon_at sp d t)).body ≡ encoding_of (label t).body
  canon_encoding d (node h ts) = by_encoding h.body (known_node d h ts) (foreign_node d h ts) (cleared_encoding h.body) refl

  -- Arrays that are read back at places' types stand at these places.
  pub canon_places : (ts : Trees) (qs : List Place) → AreRetyped (places ts) qs → places (canon_all sp (types_in qs) ts) ≡ qs
  canon_places end qs r = sym r
  canon_places (more t ts) [] r = absurd r
  canon_places (more t ts) (q ∷ qs) r =
      let a = canon_dtype q.dtype t in
      let b = canon_len q.dtype t ∙ r.1 in
      let c = canon_places ts qs r.2 in
      λ i. record { dtype = a i; len = b i } ∷ c i

  pub canon_count : (ds : List Typ) (ts : Trees) → count (canon_all sp ds ts) ≡ count ts
  canon_count ds end = refl
  canon_count [] (more t ts) = ap (λ n. suc n) (canon_count [] ts)
  canon_count (d ∷ ds) (more t ts) = ap (λ n. suc n) (canon_count ds ts)

  pub canon_encodings : (ds : List Typ) (ts : Trees) → encodings (canon_all sp ds ts) ≡ encodings ts
  canon_encodings ds end = refl
  canon_encodings [] (more t ts) = let a = canon_encoding (label t).dtype t in let b = canon_encodings [] ts in λ i. a i ∷ b i
  canon_encodings (d ∷ ds) (more t ts) = let a = canon_encoding d t in let b = canon_encodings ds ts in λ i. a i ∷ b i

-- What is planned for a sound node of a known encoding that is read back at a type.
pub record Planned (d : Typ) (h : Head) (ts : Trees) : Type 0 where
  pub at : List Place
  pub plan : plan_of (encoding_of h.body) d h.len (metadata_in h ts) (count ts) ≡ Some at
  pub retyped : AreRetyped (places ts) at

pub planned_at : (d : Typ) (h : Head) (ts : Trees) → IsNative h.body → IsSoundNode h ts → IsRetyped h.dtype d → Planned d h ts
planned_at d h ts k s r =
    let ps = lifted h.dtype h.len h.body (places ts) in
    let x = replanned (encoding_of h.body) r.nullability_is h.dtype r.raises h.len (metadata_in h ts) (count ts) ps s.planned in
    record {
      at = x.others;
      plan = ap (λ z. plan_of (encoding_of h.body) z h.len (metadata_in h ts) (count ts)) (sym r.retyped) ∙ x.planned;
      retyped = are_retyped_then (places ts) ps x.others (lifted_retyped h.dtype h.len h.body (places ts) k) x.retyped;
    }

-- Its children take the planned types and places, and its metadata stays.
pub types_at : (d : Typ) (h : Head) (ts : Trees) (p : Planned d h ts) → child_types d h ts ≡ types_in p.at
types_at d h ts p = ap (λ o. planned_types o ts) p.plan

pub kids_places : (sp : Spelling) (d : Typ) (h : Head) (ts : Trees) (p : Planned d h ts) → places (canon_all sp (child_types d h ts) ts) ≡ p.at
kids_places sp d h ts p = ap (λ ds. places (canon_all sp ds ts)) (types_at d h ts p) ∙ canon_places sp ts p.at p.retyped

pub metadata_at : (d : Typ) (h : Head) (ts : Trees) (p : Planned d h ts) → metadata_of (cleared h.body) p.at ≡ metadata_in h ts
metadata_at d h ts p = metadata_again (encoding_of h.body) d h.len (metadata_in h ts) (count ts) (buffers_of h.body) (cleared h.body) p.at (body_again h.body (places ts)) p.plan

pub kids_metadata : (sp : Spelling) (d : Typ) (h : Head) (ts : Trees) (p : Planned d h ts) → metadata_in (canon_head d h) (canon_all sp (child_types d h ts) ts) ≡ metadata_in h ts
kids_metadata sp d h ts p = ap (λ ps. metadata_of (cleared h.body) ps) (kids_places sp d h ts p) ∙ metadata_at d h ts p
