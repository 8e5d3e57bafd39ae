-- The first row of the seed 0.
use Rattle.std.proofs.Common.{◌≡◌, [], ◌∷◌, codes, negsuc, refl}
use Rattle.vx_trees.specs.Rose.{node, end, more}
use Rattle.vx_types.specs.Value as V
use Rattle.vx_types.specs.Value.{Value, lone}
use Rattle.vx_numbers.specs.declared.value.PValue.TheVariants as N
use Rattle.vx_array_tree.specs.Tree.{row_at}
use Rattle.vx_generator.specs.Columns.{stored}
use Rattle.vx_generator.specs.Draws.{drawn, next, number_of}
use Rattle.vx_generator.specs.Made.{data_len, long_text, made, views}

draws_are : drawn 0 0 ∷ drawn 0 1 ∷ drawn 0 2 ∷ drawn 0 3 ∷ [] ≡ 167951807 ∷ 218396424 ∷ 1299921937 ∷ 861605236 ∷ []
unfolding next number_of
draws_are = refl

-- It is {-905790017, "a long name of a tree", [3444]}.
row_is : row_at (made 0 1) 0
    ≡ node V.tuple (more (lone (V.number (N.I64 (negsuc 905790016)))) (more (lone (V.utf8 (codes "a long name of a tree"))) (more (node V.tuple (more (lone (V.number (N.U16 3444))) end)) end)))
unfolding made stored next number_of long_text views
row_is = refl

-- The buffers of a table of this row have 121 bytes.
data_is : data_len (made 0 1) ≡ 121
unfolding made stored next number_of long_text views
data_is = refl
