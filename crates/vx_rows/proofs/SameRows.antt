-- Lists of rows' values and of their trees, element by element.
use Rattle.std.specs.Prelude.{ℕ, ◌+◌, ◌<◌, ◌≡◌, List, [], ◌∷◌, ◌++◌, length, take}
use Rattle.std.proofs.Common.{arith, get_or}
use Rattle.std.proofs.lemmas.List.{length-map, map-append}
use Rattle.vx_trees.proofs.LawsOfMapped.{mapped-at, mapped-more, mapped-same, mapped-nodes, roses_of-injective}
use Rattle.vx_scalars.specs.Measures.{value_size, slice_size}
use Rattle.vx_rows.specs.Plain.{plain_value, plain_values}
use Rattle.vx_rows.specs.declared.row.RowValue.{RowValue}

pub values-length : (vs : List RowValue) → length (plain_values vs) ≡ length vs
values-length vs = length-map vs plain_value

pub values-at : (vs : List RowValue) (i : ℕ) (v : RowValue) → get_or (plain_values vs) i (plain_value v) ≡ plain_value (get_or vs i v)
values-at vs i v = mapped-at plain_value vs i v

pub values-push : (vs : List RowValue) (v : RowValue) → plain_values (vs ++ v ∷ []) ≡ plain_values vs ++ plain_value v ∷ []
values-push vs v = map-append plain_value vs (v ∷ [])

-- An element is smaller than the list.
pub size-at : (vs : List RowValue) (i : ℕ) (v : RowValue) → i < length vs → value_size (plain_value (get_or vs i v)) < slice_size (plain_values vs)
size-at vs i v h = omega (arith, mapped-nodes plain_value vs i v h)

-- Lists that agree below index i and at i agree below i + 1.
pub same-more : (vs ws : List RowValue) (i : ℕ) (v w : RowValue) → i < length vs → i < length ws → plain_values (take i vs) ≡ plain_values (take i ws)
    → plain_value (get_or vs i v) ≡ plain_value (get_or ws i w) → plain_values (take (i + 1) vs) ≡ plain_values (take (i + 1) ws)
same-more vs ws i v w h k p q = mapped-more plain_value vs ws i v w h k p q

pub same-at : (vs ws : List RowValue) (i : ℕ) (v w : RowValue) → i < length vs → i < length ws → plain_values vs ≡ plain_values ws → plain_value (get_or vs i v) ≡ plain_value (get_or ws i w)
same-at vs ws i v w h k p = mapped-same plain_value vs ws i v w h k p

-- For loops over lists of values.
pub ruleset same_rows = (size-at, values-length, values-at, roses_of-injective, same-more, same-at)
