use Rattle.std.proofs.Common.{◌≡◌, ◌∙◌, ◌++◌, [], ◌∷◌, ap, refl}
use Rattle.walk.specs.declared.choosing.Choosing.{Choosing}
use Rattle.walk.proofs.Bests.{chosen_holds, grown_both, grown_of, narrows_same}
use Rattle.walk.proofs.choosing.Choosing.add_version.Goals as goal

pub returns-clause-found : goal.returns-clause-found
returns-clause-found c =
    ap (λ m. m.entries) c.in_ok-meet.ensures.meets.found ∙ c.in_ok-push.ensures

pub returns-clause-grown : goal.returns-clause-grown
returns-clause-grown c =
    let old = c.args.self.now in
    let mid : Choosing = record { found = c.push.new.self; asked = old.asked; needed = old.needed; numbers = old.numbers; fresh = old.fresh; taken = old.taken; ruled_out = old.ruled_out; dependents = old.dependents } in
    grown_both old mid c.meet.new.self (grown_of old mid refl refl) c.in_ok-meet.ensures.grown

pub returns-clause-holds : goal.returns-clause-holds
returns-clause-holds c = λ wanted h.
    let old = c.args.self.now in
    let mid : Choosing = record { found = c.push.new.self; asked = old.asked; needed = old.needed; numbers = old.numbers; fresh = old.fresh; taken = old.taken; ruled_out = old.ruled_out; dependents = old.dependents } in
    let found : mid.found.entries ≡ old.found.entries ++ (c.args.version.0, c.args.version.1) ∷ [] = c.in_ok-push.ensures in
    chosen_holds c.args.registry.now.packages wanted old mid mid c.meet.new.self c.args.version.0 c.args.version.1 c.requires.new found refl refl (narrows_same _ c.args.version.0 mid) c.in_ok-meet.ensures.meets h
