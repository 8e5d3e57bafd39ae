-- The texts of functions' options, and of expressions.
use Rattle.std.specs.Prelude.{ℕ, List, ◌++◌, codes, decimal, length, slice_get, unwrap_or}

-- The options of a foreign function: the number of its calls' children, and the number of its metadata's bytes.
abbrev pub foreign_text : ℕ → List ℕ → List ℕ
foreign_text arity metadata = codes "foreign(arity=" ++ (decimal arity ++ (codes ", metadata=" ++ (decimal (length metadata) ++ codes "B)")))

-- The options of a foreign aggregate function: the number of its metadata's bytes.
abbrev pub foreign_aggregate_text : List ℕ → List ℕ
foreign_aggregate_text metadata = codes "foreign(metadata=" ++ (decimal (length metadata) ++ codes "B)")

-- The name of a child that the function does not name: `arg` and its number.
abbrev pub argument_name : ℕ → List ℕ
argument_name i = codes "arg" ++ decimal i

-- The name of a child, by its index from 0: the function's, or else `arg` and the index.
abbrev pub child_name_of : List (List ℕ) → ℕ → List ℕ
child_name_of names i = unwrap_or (slice_get names i) (argument_name i)
