use Rattle.std.proofs.Common.{refl, subst}
use Rattle.terms.specs.declared.term.Term.{Term}
use Rattle.terms.specs.declared.term.Term.TheVariants.{In}
use Rattle.walk.specs.Best.{Pushes}
use Rattle.walk.specs.declared.choosing.Choosing.{Choosing}
use Rattle.walk.proofs.Bests.{narrows_again, narrows_both, narrows_pushed}
use Rattle.walk.proofs.choosing.Choosing.add_needed.Goals as goal

pub returns : goal.returns
returns c = λ set same.
    let pkg = c.args.pkg in
    let old = c.args.self.now in
    let mid = c.push_left.new.self in
    let new : Choosing = record { found = mid.found; asked = mid.asked; needed = mid.needed; numbers = mid.numbers; fresh = c.push.new.self; taken = mid.taken; ruled_out = mid.ruled_out; dependents = mid.dependents } in
    let pushes = subst (λ (term : Term). Pushes term pkg old mid) same c.in_ok-push_left.ensures in
    narrows_both (In set) pkg old mid new (narrows_pushed (In set) (In set) pkg old mid pushes (λ packages wanted each h. each)) (narrows_again set pkg mid new refl refl refl c.in_ok-push.ensures.items)
