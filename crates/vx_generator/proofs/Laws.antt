-- What crates above need of the table of a seed.
use Rattle.std.proofs.Common.{ℕ, ◌≡◌, ◌≤◌, refl, [], ◌∷◌, arith}
use Rattle.vx_trees.specs.Rose.{label}
use Rattle.vx_trees.specs.Walks.{levels}
use Rattle.vx_array_tree.specs.Canon.{KeepsStats}
use Rattle.vx_array_tree.specs.Normal.{IsNormal}
use Rattle.vx_array_tree.specs.Sound.{IsSound}
use Rattle.vx_array_tree.specs.Encodings.Bools as Bools
use Rattle.vx_array_tree.specs.Encodings.Dicts as Dicts
use Rattle.vx_array_tree.specs.Encodings.Lists as Lists
use Rattle.vx_array_tree.specs.Encodings.Primitives as Primitives
use Rattle.vx_array_tree.specs.Encodings.Structs as Structs
use Rattle.vx_array_tree.specs.Encodings.VarBinViews as VarBinViews
use Rattle.vx_array_tree.specs.Tree.{encoding_ids}
use Rattle.vx_generator.specs.Columns.{columns}
use Rattle.vx_generator.specs.Made.{data_len, made, made_type}
use Rattle.vx_generator.specs.Summary.{line_of, summary}
use Rattle.vx_generator.proofs.Fitting.{fit}
use Rattle.vx_generator.proofs.Grown.{validity_len}
use Rattle.vx_generator.proofs.Sound.{table_sound}
use Rattle.vx_generator.proofs.Tabled.{long_len, views_len}
-- The total of its numbers, validity, codes, elements and offsets is small, and its dictionary has few values.
pub use Rattle.vx_generator.proofs.Fitting.{small}
pub use Rattle.vx_generator.proofs.Grown.{few}

-- It is sound.
pub made_sound : (seed rows : ℕ) → rows ≤ 1000000 → IsSound (made seed rows)
unfolding made
made_sound seed rows h = table_sound (columns seed rows rows) rows (fit seed rows h)

-- It has the type of tables, and as many rows as were asked for.
pub made_dtype : (seed rows : ℕ) → (label (made seed rows)).dtype ≡ made_type
unfolding made
made_dtype seed rows = refl

pub made_len : (seed rows : ℕ) → (label (made seed rows)).len ≡ rows
unfolding made
made_len seed rows = refl

-- It is in the normal form, in which it is read.
pub made_normal : (seed rows : ℕ) → IsNormal (made seed rows)
unfolding made
made_normal seed rows = (tt, ((tt, ((tt, tt), tt)), ((refl, ((tt, tt), ((tt, tt), tt))), ((tt, ((tt, tt), ((tt, tt), tt))), tt))))

-- It has no statistics, and none are written.
pub made_stats : (seed rows : ℕ) → KeepsStats (made seed rows)
unfolding made
made_stats seed rows = (refl, ((refl, ((refl, tt), tt)), ((refl, ((refl, tt), ((refl, tt), tt))), ((refl, ((refl, tt), ((refl, tt), tt))), tt))))

-- It has three levels.
pub made_levels : (seed rows : ℕ) → levels (made seed rows) ≡ 3
unfolding made
made_levels seed rows = refl

-- It has nine nodes and seven buffers.
pub made_summary : (seed rows : ℕ) → summary (made seed rows) ≡ line_of rows 9 7 (data_len (made seed rows))
unfolding made
made_summary seed rows = refl

-- Its buffers are small, so that it can be written.
pub made_small : (seed rows : ℕ) → rows ≤ 1000000 → data_len (made seed rows) ≤ 19125105
unfolding made
made_small seed rows h =
    let f = fit seed rows h in
    omega (arith, f.numbers, f.codes, f.elements, f.offsets, validity_len seed rows rows, few seed rows rows, long_len, views_len)

-- The identifiers of its nodes, in their order.
pub made_ids : (seed rows : ℕ) → encoding_ids (made seed rows)
    ≡ Structs.id ∷ Primitives.id ∷ Bools.id ∷ Dicts.id ∷ Primitives.id ∷ VarBinViews.id ∷ Lists.id ∷ Primitives.id ∷ Primitives.id ∷ []
unfolding made
made_ids seed rows = refl
