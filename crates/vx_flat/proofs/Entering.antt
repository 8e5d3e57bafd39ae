-- The cells of entries whose links are still to be set.
use Rattle.std.proofs.Common.{◌≡◌, ℕ, zero, suc, List, [], ◌∷◌, length, get_or, refl, ap, ◌∙◌}
use Rattle.vx_flat.specs.declared.builder.piece.BlockField.{BlockField}
use Rattle.vx_flat.specs.declared.builder.piece.BlockField.TheVariants as entry
use Rattle.vx_flat.specs.Blocks.{gap}
use Rattle.vx_flat.specs.Linking.{cells_of, cell_at, left_by}

none_left : (e : BlockField) → left_by e [] ≡ []
none_left (entry.Link k) = refl
none_left entry.Absent = refl
none_left (entry.Number w v) = refl
none_left entry.UnknownMember = refl

pub length_cells : (es : List BlockField) → length (cells_of es []) ≡ length es
length_cells [] = refl
length_cells (e ∷ es) = ap (λ ns. suc (length (cells_of es ns))) (none_left e) ∙ ap suc (length_cells es)

pub cell_of : (es : List BlockField) (i : ℕ) → get_or (cells_of es []) i gap ≡ cell_at (get_or es i entry.Absent) 0
cell_of [] zero = refl
cell_of [] (suc i) = refl
cell_of (e ∷ es) zero = refl
cell_of (e ∷ es) (suc i) = ap (λ ns. get_or (cells_of es ns) i gap) (none_left e) ∙ cell_of es i
