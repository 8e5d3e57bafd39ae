use Rattle.std.proofs.Common.{true, false, sym, ◌∙◌}
use Rattle.std.proofs.lemmas.Result.{IfOk-at_ok}
use Rattle.vxcat_blobs.proofs.Sessions.{arrays_asked, readers_asked}
use Rattle.vxcat_blobs.proofs.recode.steps.recode_inputs.Goals.{then-words, else-words}
use Rattle.vxcat_blobs.proofs.recode.steps.recode_inputs.Goals as goal

pub recode_by-requires-clause-arrays : goal.recode_by-requires-clause-arrays
recode_by-requires-clause-arrays c = elim c.if-words.branch [
  | then-words w ↦ arrays_asked _ _ _ c.args.words.now.options.revised true c.new-2.ensures.arrays w.if-words.true (IfOk-at_ok _ (sym w.made-is ∙ c.in-Ok.is) w.revised-made.ensures.revised)
  | else-words w ↦ arrays_asked _ _ _ c.args.words.now.options.revised false c.new-2.ensures.arrays w.if-words.false (IfOk-at_ok _ (sym w.made-is ∙ c.in-Ok.is) w.default-made.ensures.shipped)
]

pub recode_by-requires-clause-readers : goal.recode_by-requires-clause-readers
recode_by-requires-clause-readers c = readers_asked _ _ _ _ c.new-2.ensures.ext c.new.ensures
