use Rattle.std.proofs.Common.{◌≡◌, ◌<◌, ◌+◌, ◌^◌, length, sym, ap, ◌∙◌, subst}
use Rattle.vx_array_tree.specs.Sound.{IsSound}
use Rattle.vx_array_tree.specs.Tree.{row_at}
use Rattle.vx_generator.specs.Columns.{columns}
use Rattle.vx_generator.specs.Made.{data_len, made, table_tree}
use Rattle.vx_generator.proofs.Fitting.{fit, small}
use Rattle.vx_generator.proofs.Rows.{rows_are}
use Rattle.vx_generator.proofs.Sound.{table_sound}
use Rattle.vx_generator.proofs.table.generate.Goals as goal

pub data_len-data_len-requires : goal.data_len-data_len-requires
data_len-data_len-requires c =
    subst (λ k. length k.numbers + length k.validity + length k.codes + length k.elements + length k.offsets < 2 ^ 32) (sym c.in_ok-columns.ensures)
    (small c.args.seed c.args.rows c.requires)

pub table_of-requires-clause-sound : goal.table_of-requires-clause-sound
table_of-requires-clause-sound c =
    subst (λ k. IsSound (table_tree k c.args.rows)) (sym c.in_ok-columns.ensures) (table_sound (columns c.args.seed c.args.rows c.args.rows) c.args.rows (fit c.args.seed c.args.rows c.requires))

pub returns-in-Ok-clause-array : goal.returns-in-Ok-clause-array
unfolding made
returns-in-Ok-clause-array c = c.in-Ok.ensures.ok ∙ ap (λ k. table_tree k c.args.rows) c.in_ok-columns.ensures

pub returns-in-Ok-clause-data : goal.returns-in-Ok-clause-data
unfolding made
returns-in-Ok-clause-data c = c.data_len-data_len.ensures c.args.rows ∙ ap (λ k. data_len (table_tree k c.args.rows)) c.in_ok-columns.ensures

pub returns-in-Ok-clause-rows : goal.returns-in-Ok-clause-rows
unfolding made
returns-in-Ok-clause-rows c = λ i h.
    let e : c.in-Ok.array ≡ made c.args.seed c.args.rows = c.in-Ok.ensures.ok ∙ ap (λ k. table_tree k c.args.rows) c.in_ok-columns.ensures in
    ap (λ t. row_at t i) e ∙ rows_are c.args.seed c.args.rows i c.requires h
