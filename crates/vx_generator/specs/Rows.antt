-- The rows of the table of a seed, as values.
use Rattle.std.specs.Prelude.{ℕ, zero, suc, ◌%◌, List, codes, if◌then◌else◌}
use Rattle.vx_trees.specs.Rose.{node, end, more}
use Rattle.vx_types.specs.Value.{Value, Values, lone, null, number, tuple, utf8}
use Rattle.vx_numbers.specs.declared.value.PValue.TheVariants.{I64, U16}
use Rattle.vx_generator.specs.Columns.{count_of, is_null, stored}
use Rattle.vx_generator.specs.Draws.{after, drawn}
use Rattle.vx_generator.specs.Made.{long_text}

-- The five texts, by their codes.
abbrev pub text_of : ℕ → List ℕ
text_of zero = codes "ash"
text_of (suc zero) = codes "birch"
text_of (suc (suc zero)) = codes "cedar"
text_of (suc (suc (suc zero))) = codes "oak"
text_of (suc (suc (suc (suc n)))) = long_text

-- The number of a row, by the state before it: null where its first draw is a multiple of 8, and else the draw less
-- 2^30.
abbrev pub number_value : ℕ → Value
number_value x = if is_null (drawn x 0) then lone null else lone (number (I64 (stored (drawn x 0))))

-- The values of n draws from one of them on, modulo 65,536.
abbrev pub element_values : ℕ → ℕ → ℕ → Values
element_values x j zero = end
element_values x j (suc n) = more (lone (number (U16 (drawn x j % 65536)))) (element_values x (suc j) n)

-- A row: its number, its text and its list.
abbrev pub row_value : ℕ → Value
row_value x =
    node tuple (more (number_value x) (more (lone (utf8 (text_of (drawn x 1 % 5)))) (more (node tuple (element_values (after x 3) 0 (count_of x))) end)))
