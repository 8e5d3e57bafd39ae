-- A sound array has as many rows as it says, and they fit its type where nothing in them is opaque.
use Rattle.std.proofs.Common.{ℕ, ◌≡◌, List, [], ◌∷◌, Some, None, refl, subst, arith, inr}
use Rattle.vx_trees.specs.Rose.{node, end, more, label, count}
use Rattle.vx_trees.specs.Everywhere.{EverywhereBelow}
use Rattle.vx_types.specs.Typ.{Typ}
use Rattle.vx_scalars.specs.Stats.{Stats}
use Rattle.vx_array_tree.specs.Body.{Body}
use Rattle.vx_array_tree.specs.Body as B
use Rattle.vx_array_tree.specs.Encodings.VarBins as VarBins
use Rattle.vx_array_tree.specs.Encodings.Lists as Lists
use Rattle.vx_array_tree.specs.Encodings.ListViews as ListViews
use Rattle.vx_array_tree.specs.Encodings.Variants as Variants
use Rattle.vx_array_tree.specs.FitRows.{FitRows}
use Rattle.vx_array_tree.specs.Place.{Place, first_place}
use Rattle.vx_array_tree.specs.Rows.{Rows, first, second}
use Rattle.vx_array_tree.specs.Sound.{IsSound, IsSoundNode}
use Rattle.vx_array_tree.specs.Table.{node_rows}
use Rattle.vx_array_tree.specs.Tree.{Tree, Trees, places, rows_of, rows_below}
use Rattle.vx_array_tree.proofs.RowsFit.{FitAll, second_len, nulls_fit, bools_fit, primitives_fit, decimals_fit, varbins_fit, varbinviews_fit, lists_fit, listviews_fit, fixed_fit, maps_fit, structs_fit, unions_fit, exts_fit, dicts_fit}
use Rattle.vx_array_tree.proofs.VariantsFit.{variants_fit}

-- An array has as many rows as it says.
variant_len : (n : ℕ) (v : Variants.Metadata) (rs : List Rows) → (Variants.rows n v rs).len ≡ n
variant_len n None rs = refl
variant_len n (Some e) [] = refl
variant_len n (Some e) (c ∷ []) = refl
variant_len n (Some e) (c ∷ s ∷ rs) = refl

node_len : (d : Typ) (n : ℕ) (b : Body) (ps : List Place) (rs : List Rows) → (node_rows d n b ps rs).len ≡ n
node_len d n B.variant ps rs = variant_len n (Variants.metadata_of ps) rs
node_len d n _ ps rs = refl

pub rows_len : (t : Tree) → (rows_of t).len ≡ (label t).len
rows_len (node h ts) = node_len h.dtype h.len h.body (places ts) (rows_below ts)

first_len : (ts : Trees) → (first (rows_below ts)).len ≡ (first_place (places ts)).len
first_len end = refl
first_len (more t ts) = rows_len t

second_rows : (ts : Trees) → (second (rows_below ts)).len ≡ second_len ts
second_rows end = refl
second_rows (more t end) = refl
second_rows (more t (more u ts)) = rows_len u

body_fits : (d : Typ) (n : ℕ) (z : Stats) (b : Body) (ts : Trees) → IsSoundNode (record { dtype = d; len = n; stats = z; body = b }) ts → FitAll ts → FitRows d n (node_rows d n b (places ts) (rows_below ts))
body_fits d n z B.null ts s f = nulls_fit d n (count ts) (places ts) s.planned
body_fits d n z (B.bool x) ts s f = bools_fit d n x ts s.planned s.allows
body_fits d n z (B.primitive x) ts s f = primitives_fit d n x ts s.planned s.allows
body_fits d n z (B.decimal x) ts s f = decimals_fit d n x ts s.planned s.allows
body_fits d n z (B.varbin x) ts s f = varbins_fit d n (VarBins.metadata_of (places ts)) x ts s.planned s.allows
body_fits d n z (B.varbinview x) ts s f = varbinviews_fit d n x ts s.planned s.allows
body_fits d n z B.list ts s f =
    lists_fit d n (Lists.metadata_of (places ts)) ts s.planned s.allows (subst (λ (k : ℕ). VarBins.AreOffsets (second (rows_below ts)) n k) (first_len ts) s.content) f
body_fits d n z (B.listview x) ts s f =
    listviews_fit d n (ListViews.metadata_of (places ts)) ts s.planned s.allows (λ i l v. let w = (s.content i l v).within in let k = first_len ts in omega arith) f
body_fits d n z B.fixed_size_list ts s f = fixed_fit d n ts s.planned s.allows f
body_fits d n z B.map ts s f = maps_fit d n ts s.planned f
body_fits d n z B.struct ts s f = structs_fit d n ts s.planned s.allows f
body_fits d n z B.union ts s f = unions_fit d n ts s.planned s.content f
body_fits d n z (B.foreign x) ts s f = record { fits = λ i l h. absurd (cc); missing = λ i l v. absurd (cc); whole = λ k i l. inr refl }
body_fits d n z B.variant ts s f = variants_fit d n ts s.planned f
body_fits d n z B.ext ts s f = exts_fit d n ts s.planned f
body_fits d n z (B.dict x) ts s f = dicts_fit d n x ts s.planned s.allows (λ i l v. let w = (s.content i l v).within in let k = second_rows ts in omega arith) f

mutual
  pub rows_fit : (t : Tree) → IsSound t → FitRows (label t).dtype (label t).len (rows_of t)
  rows_fit (node h ts) s = body_fits h.dtype h.len h.stats h.body ts s.0 (all_fit ts s.1)

  all_fit : (ts : Trees) → EverywhereBelow IsSoundNode ts → FitAll ts
  all_fit end s = tt
  all_fit (more t ts) s = (rows_fit t s.0, all_fit ts s.1)
