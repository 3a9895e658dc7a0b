use Rattle.std.proofs.Common.{List, subst}
use Rattle.derivations.specs.CausedIncompatibilities.{FollowsFrom}
use Rattle.derivations.specs.declared.known.CausedIncompatibility.{CausedIncompatibility}
use Rattle.checker.proofs.Moving.{Grows-none}
use Rattle.checker.proofs.pairing.paired_ends.Goals as goal

pub returns-in_default-clause-grows : goal.returns-in_default-clause-grows
returns-in_default-clause-grows c = Grows-none c.args.lines.now.items

pub returns-clause-follows : goal.returns-clause-follows
returns-clause-follows c =
    subst (λ (all : List CausedIncompatibility). FollowsFrom all c.args.conclusion.now c.in-Some-2.all c.in-Some.last c.args.pivot) c.deref.ensures.value
    (subst (λ terms. FollowsFrom c.deref.result.now terms c.in-Some-2.all c.in-Some.last c.args.pivot) (c.is_same.ensures.0 c.if-not-is_same.false) (rw c.in-Some-3.is at c.in_ok-said.ensures))
