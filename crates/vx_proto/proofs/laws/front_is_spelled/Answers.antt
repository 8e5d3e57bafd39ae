use Rattle.vx_proto.proofs.CutAll.{begins, begins_again, cut_again, cut_sound}
use Rattle.vx_proto.proofs.laws.front_is_spelled.Goals as goal

pub returns-clause-cut : goal.returns-clause-cut
returns-clause-cut c = begins

pub returns-clause-again : goal.returns-clause-again
returns-clause-again c = begins_again

pub returns-clause-whole : goal.returns-clause-whole
returns-clause-whole c = cut_sound

pub returns-clause-all : goal.returns-clause-all
returns-clause-all c = λ bytes fs s. cut_again fs bytes s
