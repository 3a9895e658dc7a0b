use Rattle.terms.specs.declared.term.Term.TheVariants.{In}
use Rattle.walk.proofs.Bests.{narrows_both, narrows_same}
use Rattle.walk.proofs.choosing.Choosing.narrow_low.Goals as goal

pub returns-then-is_within : goal.returns-then-is_within
returns-then-is_within c = narrows_same (In c.args.set.now) c.args.pkg c.args.self.now

pub returns-in_ok-look_again-in-Some : goal.returns-in_ok-look_again-in-Some
returns-in_ok-look_again-in-Some c =
    narrows_both (In c.args.set.now) c.args.pkg c.args.self.now c.lessen_low.new.self c.look_again.new.self c.in_ok-some-in-Some.ensures (c.in_ok-look_again-in-Some.ensures c.args.set.now)
