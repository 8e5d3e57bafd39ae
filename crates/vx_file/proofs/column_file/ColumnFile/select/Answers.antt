-- The file's own bytes are all.
use Rattle.vx_file.proofs.Parts.{stand_whole}
use Rattle.vx_file.proofs.column_file.ColumnFile.select.Goals as goal

pub returns-clause-picked : goal.returns-clause-picked
returns-clause-picked g c = λ ok bytes t tells shows spells. c.select_within.ensures.picked ok bytes bytes t tells (stand_whole bytes) shows spells

pub returns-clause-complete : goal.returns-clause-complete
returns-clause-complete g c = λ ok bytes t tells shows spells within. c.select_within.ensures.complete ok bytes bytes t tells (stand_whole bytes) shows spells within
