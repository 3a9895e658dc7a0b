use Rattle.search.proofs.Choices.{each_choice}
use Rattle.search.proofs.laws.package_by_package.Goals as goal

pub returns : goal.returns
returns c = each_choice
