use Rattle.std.proofs.Common.{refl, rules}
use Rattle.walk.proofs.Bests.{choosing_first}
use Rattle.walk.proofs.newest.choose_selection.Goals as goal

pub choose_all_selected-requires-clause-choosing : goal.choose_all_selected-requires-clause-choosing
choose_all_selected-requires-clause-choosing g c =
    let met = c.meet_needs.new.self in
    choosing_first c.args.registry.now.packages c.args.request.now c.args.choosing.now met met c.requires.found c.in_ok-meet_needs.ensures.found refl (c.in_ok-meet_needs.ensures.targets (search rules)) refl c.in_ok-meet_needs.ensures.holds
