use Rattle.by_name.proofs.DerivedNames.{derived_names}
use Rattle.by_name.proofs.laws.derived_packages_have_names.Goals as goal

pub returns : goal.returns
returns c = derived_names
