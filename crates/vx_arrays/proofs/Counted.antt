-- Rows that are built of other rows: one value more, its cells, and what is left to spend.
use Rattle.std.proofs.Common.{ℕ, zero, suc, ◌≡◌, ◌≤◌, ◌<◌, ◌+◌, ◌-◌, List, [], ◌∷◌, ◌++◌, refl, sym, ap, ◌∙◌, subst, length, take, get_or, arith, add-one, add-zero}
use Rattle.std.proofs.lemmas.List.{take_all}
use Rattle.vx_trees.specs.Rose.{end, more, label, roses_of}
use Rattle.vx_trees.specs.Walks.{nodes, nodes_of}
use Rattle.vx_trees.proofs.Counting.{nodes-at}
use Rattle.vx_trees.proofs.LawsOfRoses.{first_tree, other_trees, never_end}
use Rattle.vx_types.specs.Value.{Value, Values}
use Rattle.vx_array_tree.specs.Rows.{Rows, values_from, cells_from, values_at, cells_at}
use Rattle.vx_array_tree.specs.Tree.{Tree, rows_of, rows_below}
use Rattle.vx_rows.proofs.LawsOfCells.{same_row, same_spent, same_refused, cells_fit, refused_more, refused_after}
use Rattle.vx_arrays.specs.Parts.{HaveRow}

-- ---- one value more

both : (v w : Value) (vs ws : Values) → v ≡ w → vs ≡ ws → more v vs ≡ more w ws
both v w vs ws e f = λ i. more (e i) (f i)

-- Of the rows of an array from one on.
values_next : (r : Rows) (start k : ℕ) (vs : List Value) (v : Value) → roses_of vs ≡ values_from r start k → v ≡ r.row (start + k) → roses_of (vs ++ v ∷ []) ≡ values_from r start (suc k)
values_next r start zero [] v e f = both v (r.row start) end end (f ∙ ap (λ j. r.row j) (add-zero start)) refl
values_next r start zero (w ∷ vs) v e f = absurd (never_end w (roses_of vs) e)
values_next r start (suc k) [] v e f = absurd (never_end (r.row start) (values_from r (suc start) k) (sym e))
values_next r start (suc k) (w ∷ vs) v e f =
    both w (r.row start) (roses_of (vs ++ v ∷ [])) (values_from r (suc start) (suc k)) (first_tree w (r.row start) (roses_of vs) (values_from r (suc start) k) e)
    (values_next r (suc start) k vs v (other_trees w (r.row start) (roses_of vs) (values_from r (suc start) k) e) (f ∙ ap (λ j. r.row j) (moved start k)))
  where
    moved : (j n : ℕ) → j + suc n ≡ suc j + n
    moved j n = omega arith

pub values_more : (r : Rows) (start k : ℕ) (vs : List Value) (v : Value) → roses_of vs ≡ values_from r start k → v ≡ r.row (start + k) → roses_of (vs ++ v ∷ []) ≡ values_from r start (k + 1)
values_more r start k vs v e f = rw (add-one k) (values_next r start k vs v e f)

cells_next : (r : Rows) (start k : ℕ) → cells_from r start (suc k) ≡ cells_from r start k + r.cells (start + k)
cells_next r start zero = let e : r.cells (start + 0) ≡ r.cells start = ap (λ j. r.cells j) (add-zero start) in omega (arith, e)
cells_next r start (suc k) =
    let e : r.cells (start + suc k) ≡ r.cells (suc start + k) = ap (λ j. r.cells j) (moved start k) in
    omega (arith, e, cells_next r (suc start) k)
  where
    moved : (j n : ℕ) → j + suc n ≡ suc j + n
    moved j n = omega arith

pub cells_more : (r : Rows) (start k : ℕ) → cells_from r start (k + 1) ≡ cells_from r start k + r.cells (start + k)
cells_more r start k = rw (add-one k) (cells_next r start k)

-- n rows take no fewer cells than the first of them.
cells_grow : (r : Rows) (start k more_rows : ℕ) → cells_from r start k ≤ cells_from r start (k + more_rows)
cells_grow r start zero m = omega arith
cells_grow r start (suc k) m =
    let e : suc k + m ≡ suc (k + m) = omega arith in
    let f : cells_from r start (suc k + m) ≡ r.cells start + cells_from r (suc start) (k + m) = ap (λ j. cells_from r start j) e in
    omega (arith, f, cells_grow r (suc start) k m)

pub cells_within : (r : Rows) (start k count : ℕ) → k < count → cells_from r start k + r.cells (start + k) ≤ cells_from r start count
cells_within r start k count h =
    let e : k + 1 + (count - (k + 1)) ≡ count = omega (arith, h) in
    let g : cells_from r start (k + 1) ≤ cells_from r start count = subst (λ j. cells_from r start (k + 1) ≤ cells_from r start j) e (cells_grow r start (k + 1) (count - (k + 1))) in
    omega (arith, g, cells_more r start k)

-- Of each array's row.
across_next : (ts : List Tree) (i k : ℕ) (vs : List Value) (t : Tree) (v : Value) → k < length ts → t ≡ get_or ts k t → roses_of vs ≡ values_at (rows_below (roses_of (take k ts))) i → v ≡ (rows_of t).row i
    → roses_of (vs ++ v ∷ []) ≡ values_at (rows_below (roses_of (take (suc k) ts))) i
across_next [] i k vs t v h q e f = absurd (omega (arith, h))
across_next (u ∷ ts) i zero [] t v h q e f = both v ((rows_of u).row i) end end (f ∙ ap (λ (w : Tree). (rows_of w).row i) q) refl
across_next (u ∷ ts) i zero (w ∷ vs) t v h q e f = absurd (never_end w (roses_of vs) e)
across_next (u ∷ ts) i (suc k) [] t v h q e f = absurd (never_end _ _ (sym e))
across_next (u ∷ ts) i (suc k) (w ∷ vs) t v h q e f =
    both w ((rows_of u).row i) _ _ (first_tree w ((rows_of u).row i) (roses_of vs) _ e)
    (across_next ts i k vs t v (omega (arith, h)) q (other_trees w ((rows_of u).row i) (roses_of vs) _ e) f)

pub across_more : (ts : List Tree) (i k : ℕ) (vs : List Value) (t : Tree) (v : Value) → k < length ts → t ≡ get_or ts k t → roses_of vs ≡ values_at (rows_below (roses_of (take k ts))) i → v ≡ (rows_of t).row i
    → roses_of (vs ++ v ∷ []) ≡ values_at (rows_below (roses_of (take (k + 1) ts))) i
across_more ts i k vs t v h q e f = rw (add-one k) (across_next ts i k vs t v h q e f)

across_cells_next : (ts : List Tree) (i k : ℕ) (t : Tree) → k < length ts → t ≡ get_or ts k t → cells_at (rows_below (roses_of (take (suc k) ts))) i ≡ cells_at (rows_below (roses_of (take k ts))) i + (rows_of t).cells i
across_cells_next [] i k t h q = absurd (omega (arith, h))
across_cells_next (u ∷ ts) i zero t h q = let e : (rows_of t).cells i ≡ (rows_of u).cells i = ap (λ (w : Tree). (rows_of w).cells i) q in omega (arith, e)
across_cells_next (u ∷ ts) i (suc k) t h q = omega (arith, across_cells_next ts i k t (omega (arith, h)) q)

pub across_cells : (ts : List Tree) (i k : ℕ) (t : Tree) → k < length ts → t ≡ get_or ts k t → cells_at (rows_below (roses_of (take (k + 1) ts))) i ≡ cells_at (rows_below (roses_of (take k ts))) i + (rows_of t).cells i
across_cells ts i k t h q = rw (add-one k) (across_cells_next ts i k t h q)

across_grow : (ts : List Tree) (i k : ℕ) → cells_at (rows_below (roses_of (take k ts))) i ≤ cells_at (rows_below (roses_of ts)) i
across_grow [] i zero = omega arith
across_grow [] i (suc k) = omega arith
across_grow (u ∷ ts) i zero = omega arith
across_grow (u ∷ ts) i (suc k) = omega (arith, across_grow ts i k)

pub across_within : (ts : List Tree) (i k : ℕ) (t : Tree) → k < length ts → t ≡ get_or ts k t → cells_at (rows_below (roses_of (take k ts))) i + (rows_of t).cells i ≤ cells_at (rows_below (roses_of ts)) i
across_within ts i k t h q = omega (arith, across_cells ts i k t h q, across_grow ts i (k + 1))

-- The first arrays are all, where there are no more.
pub across_all : (ts : List Tree) (i k : ℕ) → length ts ≤ k → values_at (rows_below (roses_of (take k ts))) i ≡ values_at (rows_below (roses_of ts)) i
across_all ts i k h = ap (λ (us : List Tree). values_at (rows_below (roses_of us)) i) (take_all k ts h)

pub across_all_cells : (ts : List Tree) (i k : ℕ) → length ts ≤ k → cells_at (rows_below (roses_of (take k ts))) i ≡ cells_at (rows_below (roses_of ts)) i
across_all_cells ts i k h = ap (λ (us : List Tree). cells_at (rows_below (roses_of us)) i) (take_all k ts h)

-- Each array has the row.
pub row_inside : (ts : List Tree) (i k : ℕ) (t : Tree) → k < length ts → t ≡ get_or ts k t → HaveRow i (roses_of ts) → i < (label t).len
row_inside [] i k t h q r = absurd (omega (arith, h))
row_inside (u ∷ ts) i zero t h q r = subst (λ (w : Tree). i < (label w).len) (sym q) r.0
row_inside (u ∷ ts) i (suc k) t h q r = row_inside ts i k t (omega (arith, h)) q r.1

-- ---- what recursions go down by

pub smaller_at : (ts : List Tree) (k : ℕ) (t : Tree) → k < length ts → t ≡ get_or ts k t → nodes t ≤ nodes_of (roses_of ts)
smaller_at ts k t h q = subst (λ (w : Tree). nodes w ≤ nodes_of (roses_of ts)) (sym q) (nodes-at ts k t h)

-- What loops over rows rest on.
pub ruleset counted = (same_row, same_spent, same_refused, cells_fit, refused_more, refused_after, values_more, cells_more, cells_within, across_more, across_cells, across_within, across_all, across_all_cells, row_inside, smaller_at)
