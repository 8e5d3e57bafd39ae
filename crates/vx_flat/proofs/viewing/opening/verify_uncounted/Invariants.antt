use Rattle.vx_flat.proofs.viewing.opening.verify_uncounted.Given as goal

abbrev pub ghosts-verify_by : goal.ghosts-verify_by
ghosts-verify_by g a = record { name = a.blank.name; parts = a.blank.parts }
