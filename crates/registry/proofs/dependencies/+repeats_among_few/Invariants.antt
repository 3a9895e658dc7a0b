use Rattle.std.proofs.Common.{length}
use Rattle.registry.proofs.dependencies.+repeats_among_few.Given as goal

abbrev pub decreases-repeats_among_few : goal.decreases-repeats_among_few
decreases-repeats_among_few l = length l.needs.now
