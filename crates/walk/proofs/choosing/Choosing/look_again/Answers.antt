use Rattle.std.proofs.Common.{refl}
use Rattle.terms.specs.declared.term.Term.TheVariants.{In}
use Rattle.walk.proofs.Bests.{narrows_again, narrows_same}
use Rattle.walk.proofs.choosing.Choosing.look_again.Goals as goal

pub returns-then-not-is_wanted : goal.returns-then-not-is_wanted
returns-then-not-is_wanted c = λ set. narrows_same (In set) c.args.pkg c.args.self.now

pub returns : goal.returns
returns c = λ set.
    let old = c.args.self.now in
    narrows_again set c.args.pkg old (record { found = old.found; asked = old.asked; needed = old.needed; numbers = old.numbers; fresh = c.push.new.self; taken = old.taken; ruled_out = old.ruled_out; dependents = old.dependents }) refl refl refl c.in_ok-push.ensures.items
