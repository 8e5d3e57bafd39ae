-- A code that is a number is to be below the values.
use Rattle.std.proofs.Common.{sym, ◌∙◌}
use Rattle.std.proofs.lemmas.Bool.{ltb-true, lt-ltb}
use Rattle.std.specs.Prelude.{nat_lt}
use Rattle.vx_arrays.proofs.Dictionaries.{number_decides}
use Rattle.vx_arrays.proofs.encodings.dict.is_code.Goals as goal

pub returns-in-Some : goal.returns-in-Some
returns-in-Some c =
    number_decides c.args.codes.now c.args.values.now c.args.index c.in-Some.code c.len.result (nat_lt c.in-Some.code c.len.result) (sym c.in-Some.is ∙ c.natural_at.ensures) c.len.ensures.len
    (ltb-true c.in-Some.code c.len.result, lt-ltb c.in-Some.code c.len.result)
