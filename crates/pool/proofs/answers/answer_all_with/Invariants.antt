use Rattle.pool.proofs.answers.answer_all_with.Given as goal

abbrev pub ghosts-start : goal.ghosts-start
ghosts-start g a = record { packages = a.work.registry.now.packages; asked = a.work.asked.now }
