use Rattle.std.proofs.Common.{refl}
use Rattle.std.specs.Prelude.{Some}
use Rattle.search.proofs.Beginning.{start_search}
use Rattle.search.proofs.starting.put_root.Goals as goal

pub derive-requires : goal.derive-requires
derive-requires c = rw (c.requires.partial, c.in_ok-single.ensures) (Some 0, refl, refl)

pub returns : goal.returns
returns c =
    rw (c.in_ok-decide.ensures.ok, c.in_ok-derive.ensures.ok, c.requires.partial, c.in_ok-single.ensures, c.requires.known)
    (start_search c.args.task.now.registry.now.packages c.args.task.now.request.now (rw c.requires.known at c.requires.lines))
