use Rattle.vx_flat_tests.proofs.viewing.steps_are_counted.Given as goal

abbrev pub ghosts-weight_by : goal.ghosts-weight_by
ghosts-weight_by g a = record { name = a.blank.name; parts = a.blank.parts }
