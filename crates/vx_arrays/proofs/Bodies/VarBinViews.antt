-- What nodes of texts and bytes by views hold, as it is compared and with other buffers.
use Rattle.std.proofs.Common.{ℕ, ◌≡◌, List, [], ◌∷◌, ◌++◌, Option, Some, option_map, refl, sym, ap, ◌∙◌, map}
use Rattle.std.proofs.lemmas.Option.{same_Some}
use Rattle.vx_buffer.specs.Buffer.{Buffer}
use Rattle.vx_trees.specs.Rose.{node}
use Rattle.vx_types.specs.Typ.{Typ}
use Rattle.vx_array_tree.specs.Body.{Body}
use Rattle.vx_array_tree.specs.Body as B
use Rattle.vx_array_tree.specs.Encodings.VarBinViews as VarBinViews
use Rattle.vx_array_tree.specs.Tree.{Tree, Trees, option_trees, untold}
use Rattle.vx_arrays.specs.NewBuffers.{with_buffers}
use Rattle.vx_arrays.specs.VarBinViews.{varbinview_tree}
use Rattle.vx_arrays.specs.Compared.{bare, compared_body}
use Rattle.vx_arrays.proofs.Comparing.{bare-same}

-- ---- as it is compared

module _ (x y : VarBinViews.Data) where
  pub views-same : x.views.bytes ≡ y.views.bytes → map bare x.buffers ≡ map bare y.buffers → compared_body (B.varbinview x) ≡ compared_body (B.varbinview y)
  views-same p q = λ i. B.varbinview (record { buffers = q i; views = bare-same x.views y.views p i })

  views_in : Body → VarBinViews.Data
  views_in (B.varbinview z) = z
  views_in _ = x

  pub same-views_bytes : compared_body (B.varbinview x) ≡ compared_body (B.varbinview y) → x.views.bytes ≡ y.views.bytes
  unfolding views_in
  same-views_bytes e = ap (λ b. (views_in b).views.bytes) e

  pub same-views_buffers : compared_body (B.varbinview x) ≡ compared_body (B.varbinview y) → map bare x.buffers ≡ map bare y.buffers
  unfolding views_in
  same-views_buffers e = ap (λ b. (views_in b).buffers) e

pub ruleset varbinview_bodies = (views-same, same-views_bytes, same-views_buffers)

-- ---- with other buffers

-- The last of the buffers are the views.
pub views_last : (front : List Buffer) (views : Buffer) → VarBinViews.body_of (front ++ views ∷ []) ≡ Some (record { buffers = front; views = views })
views_last [] v = refl
views_last (b ∷ bs) v = last (bs ++ v ∷ []) (views_last bs v)
  where
    last : (cs : List Buffer) → VarBinViews.body_of cs ≡ Some (record { buffers = bs; views = v }) → VarBinViews.body_of (b ∷ cs) ≡ Some (record { buffers = b ∷ bs; views = v })
    last [] e = absurd (cc)
    last (c ∷ cs) e = ap (λ (x : VarBinViews.Data). let y : VarBinViews.Data = record { buffers = b ∷ x.buffers; views = x.views } in Some y) (same_Some (VarBinViews.data_of c cs) (record { buffers = bs; views = v }) e)

pub views_made : (d c : Typ) (n : ℕ) (x : VarBinViews.Data) (ts : Trees) (bs front : List Buffer) (views : Buffer) (v : Option Tree) → c ≡ d → option_trees v ≡ ts → bs ≡ front ++ views ∷ []
    → with_buffers (node (untold d n (B.varbinview x)) ts) bs ≡ Some (varbinview_tree c n front views v)
views_made d c n x ts bs front views v p q e =
    ap (λ (o : Option VarBinViews.Data). option_map (λ (b : Body). node (untold d n b) ts) (option_map B.varbinview o)) (ap VarBinViews.body_of e ∙ views_last front views)
    ∙ (λ i. Some (node (untold (sym p i) n (B.varbinview (record { buffers = front; views = views }))) (sym q i)))
