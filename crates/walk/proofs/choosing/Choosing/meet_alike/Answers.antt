use Rattle.std.proofs.Common.{◌∙◌, refl, rules}
use Rattle.walk.specs.declared.choosing.Choosing.{Choosing}
use Rattle.walk.proofs.Bests.{grown_both, grown_of, holds_popped, popped_needed}
use Rattle.walk.proofs.choosing.Choosing.meet_alike.Goals as goal

pub returns-in_default-clause-holds : goal.returns-in_default-clause-holds
returns-in_default-clause-holds c = λ wanted h.
    holds_popped c.args.registry.now.packages wanted c.loop.self _ _ refl refl c.pop.ensures.items (c.loop.invariant.holds wanted h)

pub returns-then-not-branch-clause-holds : goal.returns-then-not-branch-clause-holds
returns-then-not-branch-clause-holds c = λ wanted h.
    let packages = c.args.registry.now.packages in
    let old = c.loop.self in
    let mid : Choosing = record { found = old.found; asked = old.asked; needed = old.needed; numbers = old.numbers; fresh = c.pop.new.self; taken = old.taken; ruled_out = old.ruled_out; dependents = old.dependents } in
    let here = c.loop.invariant.holds wanted h in
    c.in_ok-meet_if_alike.ensures.holds wanted (popped_needed packages wanted old c.pop.new.self.items c.in-Some.pkg (rw c.in-Some.is at c.pop.ensures.items) here) (holds_popped packages wanted old mid _ refl refl c.pop.ensures.items here)

pub loop-preserved : goal.loop-preserved
loop-preserved c =
    let packages = c.args.registry.now.packages in
    let old = c.loop.self in
    let mid : Choosing = record { found = old.found; asked = old.asked; needed = old.needed; numbers = old.numbers; fresh = c.pop.new.self; taken = old.taken; ruled_out = old.ruled_out; dependents = old.dependents } in
    record {
      found = c.in_ok-meet_if_alike.ensures.found ∙ c.loop.invariant.found;
      asked = c.in_ok-meet_if_alike.ensures.asked (search rules) ∙ c.loop.invariant.asked;
      grown = grown_both c.args.self.now mid c.meet_if_alike.new.self (grown_both c.args.self.now old mid c.loop.invariant.grown (grown_of old mid refl refl)) c.in_ok-meet_if_alike.ensures.grown;
      holds = λ wanted h.
          let here = c.loop.invariant.holds wanted h in
          c.in_ok-meet_if_alike.ensures.holds wanted (popped_needed packages wanted old c.pop.new.self.items c.in-Some.pkg (rw c.in-Some.is at c.pop.ensures.items) here) (holds_popped packages wanted old mid _ refl refl c.pop.ensures.items here);
    }

pub loop-init : goal.loop-init
loop-init c = record {
  found = refl;
  asked = refl;
  grown = grown_of c.args.self.now c.args.self.now refl refl;
  holds = λ wanted h. h;
}

pub returns-in_default-clause-grown : goal.returns-in_default-clause-grown
returns-in_default-clause-grown c =
    let old = c.loop.self in
    let mid : Choosing = record { found = old.found; asked = old.asked; needed = old.needed; numbers = old.numbers; fresh = c.pop.new.self; taken = old.taken; ruled_out = old.ruled_out; dependents = old.dependents } in
    grown_both c.args.self.now old mid c.loop.invariant.grown (grown_of old mid refl refl)

pub returns-then-not-branch-clause-grown : goal.returns-then-not-branch-clause-grown
returns-then-not-branch-clause-grown c =
    let old = c.loop.self in
    let mid : Choosing = record { found = old.found; asked = old.asked; needed = old.needed; numbers = old.numbers; fresh = c.pop.new.self; taken = old.taken; ruled_out = old.ruled_out; dependents = old.dependents } in
    grown_both c.args.self.now mid c.meet_if_alike.new.self (grown_both c.args.self.now old mid c.loop.invariant.grown (grown_of old mid refl refl)) c.in_ok-meet_if_alike.ensures.grown
