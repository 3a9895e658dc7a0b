use Rattle.walk.proofs.Better.{ahead_cases}
use Rattle.walk.proofs.laws.ahead_is_locked_or_higher.Goals as goal

pub returns : goal.returns
returns c = ahead_cases
