use Rattle.std.proofs.Common.{◌<◌, length, subst, sym}
use Rattle.std.specs.Prelude.{Option}
use Rattle.registry.specs.Registry.{Publication, needs_or_none}
use Rattle.facts.specs.Pushing.{same_lines}
use Rattle.checker.proofs.replaying.push_dependency_at.Goals as goal

pub returns-in_default : goal.returns-in_default
returns-in_default c = same_lines

pub returns-then-index-facts : goal.returns-then-index-facts
returns-then-index-facts c = same_lines

pub push_shared-requires : goal.push_shared-requires
push_shared-requires c = subst (λ (o : Option Publication). c.args.index < length (needs_or_none o)) (sym c.in-Some.ensures.some) c.if-index-facts.false
