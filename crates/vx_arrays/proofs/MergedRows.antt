-- Rows of variants, and what a typed child's row over a core's takes.
use Rattle.std.proofs.Common.{ℕ, ◌≡◌, ◌<◌, ◌+◌, Result, Ok, Err, IfErr, OnOk, false, sym, ap, ◌∙◌, subst, arith, inl, inr}
use Rattle.std.specs.Prelude.{◌⊎◌, max, min}
use Rattle.vx_trees.specs.Rose.{node, label}
use Rattle.vx_types.specs.Fits.{Fits, IsVariant}
use Rattle.vx_types.specs.Kind as K
use Rattle.vx_types.specs.Typ.{Typ}
use Rattle.vx_types.specs.Value.{Value, null, opaque, tuple, union, variant, lone, has_opaque}
use Rattle.vx_array_tree.specs.Encodings.Variants.{row_over}
use Rattle.vx_array_tree.specs.Sound.{IsSound}
use Rattle.vx_array_tree.specs.Tree.{Tree, row_at}
use Rattle.vx_array_tree.proofs.RowsOfSound.{rows_fit}
use Rattle.vx_rows.specs.Refused.{RefusesCells}
use Rattle.vx_rows.specs.RowScalars.{IsVariantRow}
use Rattle.vx_rows.specs.declared.error.ArrayError.{ArrayError}
use Rattle.vx_rows.specs.declared.row.RowValue.{RowValue}
use Rattle.vx_rows.proofs.LawsOfCells.{refused_more}
use Rattle.vx_arrays.specs.Variants.{merged_row}

-- ---- rows of variants

-- A value that fits a type of variants is one, or null.
pub fit_row : (d : Typ) (v : Value) → IsVariant d → Fits v d → IsVariantRow v
fit_row (node (K.variant m) ts) (node null vs) i f = tt
fit_row (node (K.variant m) ts) (node opaque vs) i f = tt
fit_row (node (K.variant m) ts) (node (variant e) vs) i f = tt
fit_row (node (K.variant m) ts) (node tuple vs) i f = absurd f
fit_row (node (K.variant m) ts) (node (union tag) vs) i f = absurd f
fit_row (node (K.variant m) ts) (node _ vs) i f = absurd f.0
fit_row _ v i f = absurd i

whole_row : (d : Typ) (v : Value) → IsVariant d → (has_opaque v ≡ false → Fits v d) → (has_opaque v ≡ false) ⊎ (v ≡ lone opaque) → IsVariantRow v
whole_row d v i f (inl p) = fit_row d v i (f p)
whole_row d v i f (inr p) = subst (λ (z : Value). IsVariantRow z) (sym p) tt

-- The rows of a sound array of variants are such.
pub variant_row : (t : Tree) (i : ℕ) → IsSound t → IsVariant (label t).dtype → i < (label t).len → IsVariantRow (row_at t i)
variant_row t i s v h =
    let f = rows_fit t s in
    whole_row (label t).dtype (row_at t i) v (f.fits i h) (f.whole v i h)

pub variant_row_is : (t : Tree) (i : ℕ) (w : Value) → IsSound t → IsVariant (label t).dtype → i < (label t).len → w ≡ row_at t i → IsVariantRow w
variant_row_is t i w s v h e = subst (λ (z : Value). IsVariantRow z) (sym e) (variant_row t i s v h)

-- A row of a sound array fits its type where nothing in it is opaque.
pub row_fits : (t : Tree) (i : ℕ) (w : Value) (d : Typ) → IsSound t → i < (label t).len → w ≡ row_at t i → d ≡ (label t).dtype → has_opaque w ≡ false → Fits w d
row_fits t i w d s h e q p = subst (λ (z : Typ). Fits w z) (sym q) (subst (λ (z : Value). Fits z (label t).dtype) (sym e) ((rows_fit t s).fits i h (ap (λ (z : Value). has_opaque z) (sym e) ∙ p)))

-- ---- the greatest of three

-- The row of a typed child over a core's, of the rows that were built of both.
pub merged_is : (core shredded : Tree) (i : ℕ) (d : Typ) (over under : Value) → d ≡ (label shredded).dtype → over ≡ row_at shredded i → under ≡ row_at core i → row_over d over under ≡ merged_row core shredded i
merged_is core shredded i d over under p q r = λ j. row_over (p j) (q j) (r j)

-- What is left of a budget once three have spent of it, each its own, is what the greatest leaves.
pub least_left : (r : Result RowValue ArrayError) (budget own core typed a b e m left : ℕ) → OnOk r (budget ≡ own + a) → budget ≡ core + b → budget ≡ typed + e → m ≡ min b e → left ≡ min m a → OnOk r (budget ≡ max own (max core typed) + left)
least_left (Ok row) budget own core typed a b e m left p q h k l = omega (arith, p, q, h, k, l)
least_left (Err x) budget own core typed a b e m left p q h k l = tt

-- What is refused for the cells of one of three is refused for the greatest.
pub own_refused : (r : Result RowValue ArrayError) (budget own others : ℕ) → IfErr r (λ e. RefusesCells e own budget) → IfErr r (λ e. RefusesCells e (max own others) budget)
own_refused (Ok row) budget own others h = tt
own_refused (Err e) budget own others h = refused_more e own (max own others) budget (omega arith) h

pub core_refused : (e : ArrayError) (budget own core typed : ℕ) → RefusesCells e core budget → RefusesCells e (max own (max core typed)) budget
core_refused e budget own core typed h = refused_more e core (max own (max core typed)) budget (omega arith) h

pub typed_refused : (e : ArrayError) (budget own core typed : ℕ) → RefusesCells e typed budget → RefusesCells e (max own (max core typed)) budget
typed_refused e budget own core typed h = refused_more e typed (max own (max core typed)) budget (omega arith) h
