use Rattle.lines.proofs.LineLemmas.{StandsFor-more}
use Rattle.lines.proofs.laws.reading_goes_on.Goals as goal

pub returns : goal.returns
returns c = StandsFor-more
