use Rattle.pool.proofs.in_order.answer_in_order.Given as goal

abbrev pub ghosts-start : goal.ghosts-start
ghosts-start g a = record { packages = a.work.registry.now.packages; asked = a.work.asked.now }
