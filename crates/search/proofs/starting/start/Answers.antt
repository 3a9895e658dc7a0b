use Rattle.search.proofs.Kept.{extends_search}
use Rattle.search.proofs.starting.start.Goals as goal

pub returns-in-Ok : goal.returns-in-Ok
returns-in-Ok c = extends_search c.in-Ok.ensures c.in_ok-search.ensures
