use Rattle.std.proofs.Common.{rules}
use Rattle.vx_forms.proofs.FramesFound.{file_found, no_file}
use Rattle.vx_forms.proofs.frame.cut_frame.Goals as goal

pub returns-clause-found : goal.returns-clause-found
returns-clause-found c = file_found c.args.word.now c.args.bytes.now (search rules) c.find_footer.result (search rules)

pub returns-clause-no_file : goal.returns-clause-no_file
returns-clause-no_file c = no_file c.args.word.now c.args.bytes.now (search rules) c.find_footer.result (search rules)
