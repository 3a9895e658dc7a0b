use Rattle.answers.specs.Lawful.{LearnsSome}
use Rattle.answers.proofs.backend.learn_all.Given as goal

abbrev pub invariant-loop-learnt : goal.invariant-loop-learnt
invariant-loop-learnt g l = LearnsSome g.L.Backend.ways l.initial.backend l.backend
