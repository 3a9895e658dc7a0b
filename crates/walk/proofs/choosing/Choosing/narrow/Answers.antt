use Rattle.std.proofs.Common.{ℕ, List, subst}
use Rattle.terms.specs.declared.term.Term.TheVariants.{In}
use Rattle.walk.specs.Best.{Narrows}
use Rattle.walk.proofs.choosing.Choosing.narrow.Goals as goal

pub returns-in_ok-narrow_low-in-Some : goal.returns-in_ok-narrow_low-in-Some
returns-in_ok-narrow_low-in-Some c = subst (λ (s : List ℕ). Narrows (In s) c.args.pkg c.args.self.now c.narrow_low.new.self) c.in-Some.ensures.some c.in_ok-narrow_low-in-Some.ensures
