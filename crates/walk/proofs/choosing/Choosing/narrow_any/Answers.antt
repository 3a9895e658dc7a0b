use Rattle.std.proofs.Common.{ℕ, List, subst}
use Rattle.releases.specs.Matching.{ordinals_of}
use Rattle.terms.specs.declared.term.Term.TheVariants.{In}
use Rattle.walk.specs.Best.{Narrows}
use Rattle.walk.proofs.Bests.{narrows_both, narrows_same}
use Rattle.walk.proofs.choosing.Choosing.narrow_any.Goals as goal

pub returns-then-is_in : goal.returns-then-is_in
returns-then-is_in c = narrows_same (In (ordinals_of c.args.matching.now)) c.args.pkg c.args.self.now

pub returns-in_ok-look_again-in-Some : goal.returns-in_ok-look_again-in-Some
returns-in_ok-look_again-in-Some c =
    let set = ordinals_of c.args.matching.now in
    let less = subst (λ (s : List ℕ). Narrows (In s) c.args.pkg c.args.self.now c.lessen.new.self) c.in_ok-set-in-Some.ensures.same c.in_ok-some-in-Some.ensures in
    narrows_both (In set) c.args.pkg c.args.self.now c.lessen.new.self c.look_again.new.self less (c.in_ok-look_again-in-Some.ensures set)
