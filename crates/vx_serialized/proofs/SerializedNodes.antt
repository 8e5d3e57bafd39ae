-- What a node's view sees, part by part.
use Rattle.std.proofs.Common.{ℕ, zero, suc, ◌≡◌, ◌+◌, ◌*◌, ◌-◌, ◌/◌, ◌<◌, List, [], ◌∷◌, length, get_or, Option, Some, None, refl, sym, ap, ◌∙◌, subst, arith}
use Rattle.std.specs.Prelude.{IfSome, IfNone, MatchOption, slice_get, option_map, option_and_then}
use Rattle.std.specs.Int.{w16, from_le_bytes}
use Rattle.vx_flat.specs.declared.reading.places.FieldTable.{FieldTable}
use Rattle.vx_flat.specs.declared.schema.FieldKind.TheVariants.{Number, Vector, Table, Tables}
use Rattle.vx_flat.specs.declared.schema.Width.TheVariants.{One, Two}
use Rattle.vx_flat.specs.declared.viewing.View.{View}
use Rattle.vx_flat.specs.declared.viewing.VectorView.{VectorView}
use Rattle.vx_flat.specs.Entries.{part_at}
use Rattle.vx_flat.specs.Parts.{HasElements, row_at, table_in}
use Rattle.vx_flat.specs.Places.{u16_at, place_of, table_at}
use Rattle.vx_flat.specs.Reading.{table_shown, shown_within, found_shown, fields_shown, plain_shown}
use Rattle.vx_flat.specs.Schema.{fields_of}
use Rattle.vx_flat.specs.Seen.{seen, part_in, kind_in, kinds_in, IsBelow, fields_or_none, table_seen, vector_seen, kind_seen, size_seen, IsViewOf, IsVectorOf, IsVectorBelow}
use Rattle.vx_flat.specs.Value.{Field, Fields, Rows, absent, number, table, tables, no_rows, row, rows_length}
use Rattle.vx_flat.specs.View.{fields_from, rows_from}
use Rattle.vx_flat.proofs.LawsOfViews.{seen-of, kind-of, kinds-of, table-of, vector-of, tables-whole, tables_in}
use Rattle.vx_trees.specs.Rose.{Rose, node, label, below, roses_list, count}
use Rattle.vx_serialized.specs.ArraySchema.{array_schema, node_fields, stats_fields}
use Rattle.vx_serialized.specs.Message.{NodeFields, node_of, nodes_of, nodes_in, number_of_field, bytes_of_field, indices_of}

-- A node is what its fields show.
pub node_seen : (v : View) → IsViewOf array_schema 1 v
    → node_of (seen v) ≡ node (record { encoding = number_of_field (part_in v 0); metadata = bytes_of_field (part_in v 1); buffers = indices_of (bytes_of_field (part_in v 3)); stats = part_in v 4 }) (nodes_in (part_in v 2))
node_seen v h = ap (λ vs. node_of vs) (seen-of array_schema 1 v h)

module _ (v : View) (h : IsViewOf array_schema 1 v) (t : Rose NodeFields) (own : node_of (seen v) ≡ t) where
  told : t ≡ node (record { encoding = number_of_field (part_in v 0); metadata = bytes_of_field (part_in v 1); buffers = indices_of (bytes_of_field (part_in v 3)); stats = part_in v 4 }) (nodes_in (part_in v 2))
  told = sym own ∙ node_seen v h

  pub encoding_told : (label t).encoding ≡ number_of_field (part_in v 0)
  encoding_told = ap (λ (z : Rose NodeFields). let f : NodeFields = label z in f.encoding) told

  pub metadata_told : (label t).metadata ≡ bytes_of_field (part_in v 1)
  metadata_told = ap (λ (z : Rose NodeFields). let f : NodeFields = label z in f.metadata) told

  pub buffers_told : (label t).buffers ≡ indices_of (bytes_of_field (part_in v 3))
  buffers_told = ap (λ (z : Rose NodeFields). let f : NodeFields = label z in f.buffers) told

  pub stats_told : (label t).stats ≡ part_in v 4
  stats_told = ap (λ (z : Rose NodeFields). let f : NodeFields = label z in f.stats) told

  pub below_told : below t ≡ nodes_in (part_in v 2)
  below_told = ap (λ (z : Rose NodeFields). below z) told

  -- The table of its statistics, if it has one.
  pub table_fields : (r : Option View) → IfSome r (λ w. IsBelow v w) → IfSome r (λ w. kind_in v 4 ≡ Some (Table (table_seen w))) → IfSome r (λ w. kinds_in w ≡ stats_fields)
  table_fields None b k = tt
  table_fields (Some w) b k = kinds-of array_schema 2 w (table-of array_schema v w 4 2 h.schema (kind-of array_schema 1 v h 4) b k)

  pub table_some : (r : Option View) → MatchOption r (part_in v 4 ≡ absent) (λ w. part_in v 4 ≡ table (seen w)) → IfSome r (λ w. (label t).stats ≡ table (seen w))
  table_some None p = tt
  table_some (Some w) p = stats_told ∙ p

  pub table_none : (r : Option View) → MatchOption r (part_in v 4 ≡ absent) (λ w. part_in v 4 ≡ table (seen w)) → IfNone r ((label t).stats ≡ absent)
  table_none None p = stats_told ∙ p
  table_none (Some w) p = tt

-- ---- indices, two bytes at a time

pub length-indices_of : (bs : List ℕ) → length (indices_of bs) ≡ length bs / 2
length-indices_of [] = refl
length-indices_of (a ∷ []) = refl
length-indices_of (a ∷ b ∷ rest) = omega (arith, length-indices_of rest)

pub indices_of-at : (bs : List ℕ) (i : ℕ) → 2 * i + 1 < length bs
    → slice_get (indices_of bs) i ≡ Some (from_le_bytes w16 (get_or bs (2 * i) 0 ∷ get_or bs (2 * i + 1) 0 ∷ []))
indices_of-at [] i h = absurd (omega (arith, h))
indices_of-at (a ∷ []) i h = absurd (omega (arith, h))
indices_of-at (a ∷ b ∷ rest) zero h = refl
indices_of-at (a ∷ b ∷ rest) (suc i) h =
    let even : 2 * suc i ≡ suc (suc (2 * i)) = omega arith in
    let odd : 2 * suc i + 1 ≡ suc (suc (2 * i + 1)) = omega arith in
    rw (odd, even) (indices_of-at rest i (omega (arith, h)))

-- An index's bytes lie within those of all indices.
pub index-within : (bs is : List ℕ) (i : ℕ) → indices_of bs ≡ is → i < length is → 2 * i + 1 < length bs
index-within bs is i e h = omega (arith, h, ap (λ xs. length xs) e, length-indices_of bs)

-- ---- children

count-nodes_of : (rs : Rows) → count (nodes_of rs) ≡ rows_length rs
count-nodes_of no_rows = refl
count-nodes_of (row vs rs) = omega (arith, count-nodes_of rs)

nodes_of-at : (rs : Rows) (i : ℕ) (vs : Fields) → row_at rs i ≡ Some vs → slice_get (roses_list (nodes_of rs)) i ≡ Some (node_of vs)
nodes_of-at no_rows i vs e = absurd (cc)
nodes_of-at (row us rs) zero vs e = ap (λ o. option_map (λ z. node_of z) o) e
nodes_of-at (row us rs) (suc i) vs e = nodes_of-at rs i vs e

-- The nodes of a vector of tables are as many as it counts, and each is its table's.
pub children-count : (f : Field) (rs : Rows) (size n : ℕ) → tables rs ≡ f → HasElements size f n → count (nodes_in f) ≡ n
children-count f rs size n is h =
    let P : Field → Type 0 = λ z. HasElements size z n in
    ap (λ z. count (nodes_in z)) (sym is) ∙ count-nodes_of rs ∙ subst P (sym is) h

pub children-at : (f : Field) (rs : Rows) (i : ℕ) (vs : Fields) → tables rs ≡ f → table_in f i ≡ Some vs → slice_get (roses_list (nodes_in f)) i ≡ Some (node_of vs)
children-at f rs i vs is h =
    ap (λ z. slice_get (roses_list (nodes_in z)) i) (sym is) ∙ nodes_of-at rs i vs (ap (λ z. table_in z i) is ∙ h)

-- ---- a node names its encoding by a number of two bytes

module _ (m : List ℕ) (bytes : (p : ℕ) → u16_at m p < 65536) where
  small_first : (first : Option Field) (rest : Option (List Field)) → ((v : Field) → first ≡ Some v → number_of_field v < 65536)
      → number_of_field (part_at node_fields (fields_or_none (option_map fields_from (option_and_then (λ v. option_map (λ vs. v ∷ vs) rest) first))) 0) < 65536
  small_first None rest h = omega arith
  small_first (Some v) None h = omega arith
  small_first (Some v) (Some vs) h = h v refl

  small_plain : (below : ℕ → ℕ → Option Fields) (p : Option ℕ) (v : Field) → plain_shown array_schema below m (Number Two) p ≡ Some v → number_of_field v < 65536
  small_plain below None v e =
      let P : Field → Type 0 = λ z. number_of_field z < 65536 in
      let same : number 0 ≡ v = cc in
      subst P same (omega arith)
  small_plain below (Some p) v e =
      let P : Field → Type 0 = λ z. number_of_field z < 65536 in
      let same : number (u16_at m p) ≡ v = cc in
      subst P same (bytes p)

  small_found : (below : ℕ → ℕ → Option Fields) (t : ℕ) (f : Option FieldTable) → number_of_field (part_at node_fields (fields_or_none (found_shown array_schema below m t node_fields f)) 0) < 65536
  small_found below t None = omega arith
  small_found below t (Some f) =
      small_first (plain_shown array_schema below m (Number Two) (place_of m t f 0))
      (fields_shown array_schema below m t f (Vector One ∷ Tables 1 ∷ Vector Two ∷ Table 2 ∷ []) 1) (λ v e. small_plain below (place_of m t f 0) v e)

  small_within : (n t : ℕ) → number_of_field (part_at node_fields (fields_or_none (shown_within n array_schema m t 1)) 0) < 65536
  unfolding shown_within
  small_within zero t = omega arith
  small_within (suc n) t = small_found (λ q U. shown_within n array_schema m q U) t (table_at m t node_fields)

  small_shown : (t : ℕ) → number_of_field (part_at node_fields (fields_or_none (table_shown array_schema m t 1)) 0) < 65536
  unfolding table_shown
  small_shown t = small_within (length m - t) t

two_bytes : (m : List ℕ) → ((p : ℕ) → get_or m p 0 < 256) → (p : ℕ) → u16_at m p < 65536
unfolding u16_at
two_bytes m bytes p = omega (arith, bytes p, bytes (p + 1))

pub encoding_small : (v : View) → IsViewOf array_schema 1 v → ((p : ℕ) → get_or v.message.now p 0 < 256) → number_of_field (part_in v 0) < 65536
encoding_small v h bytes =
    let P : Field → Type 0 = λ f. number_of_field f < 65536 in
    let is : part_in v 0 ≡ part_at node_fields (fields_or_none (table_shown array_schema v.message.now v.place 1)) 0 =
    λ j. part_at (fields_of (h.schema j) (h.table j)) (fields_or_none (table_shown (h.schema j) v.message.now v.place (h.table j))) 0 in
    subst P (sym is) (small_shown v.message.now (two_bytes v.message.now bytes) v.place)

-- ---- the vector of children

module _ (v : View) (h : IsViewOf array_schema 1 v) (w : VectorView) (part : part_in v 2 ≡ vector_seen w) (lies : IsVectorBelow v w) (kind : kind_in v 2 ≡ Some (kind_seen w)) where
  pub children_of : IsVectorOf array_schema (Tables 1) w
  children_of = vector-of array_schema v w 2 (Tables 1) h.schema (kind-of array_schema 1 v h 2) lies kind

  whole : tables (rows_from (tables_in (vector_seen w))) ≡ vector_seen w
  whole = (tables-whole w 1 children_of.kind).0

  pub children-counted : (t : Rose NodeFields) (n : ℕ) → node_of (seen v) ≡ t → HasElements (size_seen w) (vector_seen w) n → n ≡ count (below t)
  children-counted t n own elements =
      sym (ap (λ z. count z) (below_told v h t own) ∙ ap (λ f. count (nodes_in f)) part ∙ children-count (vector_seen w) (rows_from (tables_in (vector_seen w))) (size_seen w) n whole elements)

  pub child-told : (t : Rose NodeFields) (i : ℕ) (vs : Fields) → node_of (seen v) ≡ t → table_in (vector_seen w) i ≡ Some vs → slice_get (roses_list (below t)) i ≡ Some (node_of vs)
  child-told t i vs own e =
      ap (λ z. slice_get (roses_list z) i) (below_told v h t own ∙ ap (λ f. nodes_in f) part) ∙ children-at (vector_seen w) (rows_from (tables_in (vector_seen w))) i vs whole e

pub none-counted : (v : View) → IsViewOf array_schema 1 v → (t : Rose NodeFields) → node_of (seen v) ≡ t → part_in v 2 ≡ absent → 0 ≡ count (below t)
none-counted v h t own part = sym (ap (λ z. count z) (below_told v h t own) ∙ ap (λ f. count (nodes_in f)) part)
