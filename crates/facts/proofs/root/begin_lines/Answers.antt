use Rattle.std.proofs.Common.{refl}
use Rattle.facts.proofs.Rooted.{root_lines}
use Rattle.facts.proofs.root.begin_lines.Goals as goal

pub returns-clause-root : goal.returns-clause-root
returns-clause-root c = rw (c.in_ok-push.ensures.items, c.in_ok-known.ensures.items, c.in_ok-line.ensures) refl

pub returns-clause-lines : goal.returns-clause-lines
returns-clause-lines c =
    rw (c.in_ok-push.ensures.items, c.in_ok-known.ensures.items, c.in_ok-line.ensures) (root_lines c.args.task.now.registry.now.packages c.args.task.now.request.now)
