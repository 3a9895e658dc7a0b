use Rattle.std.proofs.Common.{◌∙◌}
use Rattle.store.specs.Slots.{concludes}
use Rattle.store.specs.Stored.{has_conclusion}
use Rattle.store.proofs.Thinning.{any_slots}
use Rattle.store.proofs.slots.has_concluded.Goals as goal

pub returns-else-is_whole : goal.returns-else-is_whole
unfolding has_conclusion
returns-else-is_whole c = c.any_concludes.ensures ∙ any_slots (concludes c.args.conclusion.now) c.args.slots.now
