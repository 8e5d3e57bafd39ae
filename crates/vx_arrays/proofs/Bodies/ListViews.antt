-- What nodes of list views hold, as it is compared.
use Rattle.std.proofs.Common.{◌≡◌, ap}
use Rattle.vx_array_tree.specs.Body.{Body}
use Rattle.vx_array_tree.specs.Body as B
use Rattle.vx_array_tree.specs.Encodings.ListViews as ListViews
use Rattle.vx_arrays.specs.Compared.{compared_body}

-- ---- as it is compared

module _ (x y : ListViews.Data) where
  pub list_views-same : x.zero_copy ≡ y.zero_copy → compared_body (B.listview x) ≡ compared_body (B.listview y)
  list_views-same p = λ i. B.listview (record { zero_copy = p i })

  list_views_in : Body → ListViews.Data
  list_views_in (B.listview z) = z
  list_views_in _ = x

  pub same-list_views : compared_body (B.listview x) ≡ compared_body (B.listview y) → x.zero_copy ≡ y.zero_copy
  unfolding list_views_in
  same-list_views e = ap (λ b. (list_views_in b).zero_copy) e

pub ruleset list_view_bodies = (list_views-same, same-list_views)
