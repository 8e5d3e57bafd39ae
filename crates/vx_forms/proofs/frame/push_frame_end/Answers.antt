use Rattle.vx_forms.proofs.LawsOfFrames.{file_ended}
use Rattle.vx_forms.proofs.frame.push_frame_end.Goals as goal

pub returns-in-Ok-clause-file : goal.returns-in-Ok-clause-file
returns-in-Ok-clause-file c = λ body e.
    file_ended c.args.word.now c.args.out.now.items c.push_parts.new.out.items body c.args.footer.now c.requires e
    c.in-Ok.ensures.written
