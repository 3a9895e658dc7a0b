use Rattle.search.proofs.Decided.{IsPartial-upto}
use Rattle.search.proofs.solution.Partial.back_to.Goals as goal

pub invariant_of-self : goal.invariant_of-self
invariant_of-self c = (rw c.go_back.ensures.made (IsPartial-upto c.args.level c.self.inside.trail.made.items c.self.invariant.0), c.go_back.ensures.kept)
