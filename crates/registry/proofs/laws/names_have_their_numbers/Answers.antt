use Rattle.registry.proofs.RegistryLaws.{number_of-name}
use Rattle.registry.proofs.laws.names_have_their_numbers.Goals as goal

pub returns : goal.returns
returns c = number_of-name
