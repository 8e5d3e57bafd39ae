use Rattle.std.proofs.Common.{◌≡◌, ◌+◌, arith, subst}
use Rattle.vx_generator.specs.Made.{data_len, table_tree}
use Rattle.vx_generator.proofs.Tabled.{long_len, views_len}
use Rattle.vx_generator.proofs.columns.Columns.data_len.Goals as goal

pub returns : goal.returns
returns c = λ n.
    subst (λ k. c.len.result + c.len-2.result + c.len-3.result + 101 + (c.len-4.result + c.len-5.result) ≡ data_len (table_tree k n)) c.self.view_is
    (omega (arith, long_len, views_len))
