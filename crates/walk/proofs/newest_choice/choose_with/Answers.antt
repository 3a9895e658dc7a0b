use Rattle.std.proofs.Common.{rules}
use Rattle.walk.proofs.Checked.{checked_newest}
use Rattle.walk.proofs.newest_choice.choose_with.Goals as goal

pub returns-clause-newest : goal.returns-clause-newest
returns-clause-newest c =
    let packages = c.args.registry.now.packages in
    let wanted = c.args.request.now in
    let found = c.choose_from_needs-whole.new.choosing.found.entries in
    rw c.into_list-list.ensures.list (checked_newest packages wanted found (c.in_ok-whole.ensures (search rules)) c.allowed_is_published.ensures (c.in_ok-is_met_by.ensures (search rules)))
