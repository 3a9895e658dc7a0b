use Rattle.std.proofs.Common.{List, subst}
use Rattle.derivations.specs.CausedIncompatibilities.{FollowsFrom}
use Rattle.derivations.specs.declared.known.CausedIncompatibility.{CausedIncompatibility}
use Rattle.checker.proofs.Moving.{Grows-none, Grows-one}
use Rattle.checker.proofs.pairing.push_both.Goals as goal

pub returns-in_default : goal.returns-in_default
returns-in_default c = Grows-none c.args.lines.now.items

pub returns : goal.returns
returns c =
    Grows-one c.args.lines.now.items c.in-Some.conclusion c.args.places.0 c.args.places.1 c.args.pivot c.push.new.self.items
    (subst (λ (all : List CausedIncompatibility). FollowsFrom all c.in-Some.conclusion c.args.places.0 c.args.places.1 c.args.pivot) c.deref.ensures.value (rw c.in-Some.is at c.in_ok-conclusion.ensures))
    c.in_ok-push.ensures.items
