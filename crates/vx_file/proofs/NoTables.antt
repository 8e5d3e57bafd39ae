-- No type of tables is read, whatever the number of columns is called.
use Rattle.std.proofs.Common.{ℕ, ◌≡◌, List, subst}
use Rattle.vx_types.specs.Known.{ExtMeaning}
use Rattle.vx_file.specs.Shows.{ReadsNoTable}

pub no_table_as : (x : ExtMeaning) (message : List ℕ) (m n : ℕ) → m ≡ n → ReadsNoTable x message m → ReadsNoTable x message n
no_table_as x message m n e h = subst (λ k. ReadsNoTable x message k) e h
