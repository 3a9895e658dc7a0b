use Rattle.registry.proofs.RegistryLaws.{number_of-need, publication-lawful}
use Rattle.registry.proofs.laws.publications_are_lawful.Goals as goal

pub returns-clause-lawful : goal.returns-clause-lawful
returns-clause-lawful c = publication-lawful

pub returns-clause-numbered : goal.returns-clause-numbered
returns-clause-numbered c = number_of-need
