use Rattle.std.proofs.Common.{rules}
use Rattle.walk.proofs.Bests.{choosing_first}
use Rattle.walk.proofs.newest_choice.choose_from_needs.Goals as goal

pub choose_all-requires : goal.choose_all-requires
choose_all-requires c = record {
  choosing =
      choosing_first c.args.registry.now.packages c.args.request.now c.args.choosing.now c.meet_needs.new.self c.settle.new.self c.requires.found c.in_ok-meet_needs.ensures.found c.in_ok-settle.ensures.found
      (c.in_ok-meet_needs.ensures.targets (search rules)) (c.in_ok-settle.ensures.asked (search rules)) (c.in_ok-settle.ensures.holds c.args.request.now c.in_ok-meet_needs.ensures.holds);
}
