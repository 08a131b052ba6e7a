use Rattle.stage_tests.proofs.rows.rows_are_read_back_and_expressions_have_values.Given as goal

abbrev pub ghosts-expect_rows : goal.ghosts-expect_rows
ghosts-expect_rows g a = record { name = a.blank.name; parts = a.blank.parts }
