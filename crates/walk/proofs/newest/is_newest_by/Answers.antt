use Rattle.std.proofs.Common.{rules}
use Rattle.walk.specs.Choosing.{choice_of}
use Rattle.walk.proofs.Bests.{best_newest}
use Rattle.walk.proofs.newest.is_newest_by.Goals as goal

pub returns : goal.returns
returns g c = λ yes meets.
    let packages = c.args.registry.now.packages in
    let wanted = c.args.request.now in
    let found = c.choose_selection.new.choosing.found.entries in
    best_newest packages wanted found (choice_of c.args.selection.now) (c.in_ok-choose_selection.ensures (search rules)) (c.are_chosen.ensures yes) meets
