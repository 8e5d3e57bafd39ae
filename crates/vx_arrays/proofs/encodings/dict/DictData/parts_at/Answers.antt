-- A row whose code is a number is that of the values which it names.
use Rattle.std.proofs.Common.{sym, ◌∙◌}
use Rattle.vx_trees.specs.Rose.{roses_of}
use Rattle.vx_types.specs.Seen.{typ}
use Rattle.vx_arrays.proofs.Dictionaries.{named_cells, named_value, sound_within}
use Rattle.vx_arrays.proofs.encodings.dict.DictData.parts_at.Goals as goal

pub returns-in-Some-clause-value : goal.returns-in-Some-clause-value
returns-in-Some-clause-value c =
    named_value c.args.len (roses_of c.args.children.now) c.pair_in.result.0.now c.pair_in.result.1.now c.args.index c.pair_in.ensures.pair c.in-Some.code (sym c.in-Some.is ∙ c.natural_at.ensures)

pub returns-in-Some-clause-cells : goal.returns-in-Some-clause-cells
returns-in-Some-clause-cells c =
    named_cells c.args.len (roses_of c.args.children.now) c.pair_in.result.0.now c.pair_in.result.1.now c.args.index c.pair_in.ensures.pair c.in-Some.code (sym c.in-Some.is ∙ c.natural_at.ensures)

pub returns-in-Some-clause-there : goal.returns-in-Some-clause-there
returns-in-Some-clause-there c =
    sound_within (typ c.args.dtype.now) c.args.len c.args.self.now (roses_of c.args.children.now) c.requires.sound c.pair_in.result.0.now c.pair_in.result.1.now c.pair_in.ensures.pair c.args.index c.in-Some.code
    c.requires.inside (sym c.in-Some.is ∙ c.natural_at.ensures)
