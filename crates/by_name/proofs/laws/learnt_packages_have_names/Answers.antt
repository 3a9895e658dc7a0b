use Rattle.by_name.proofs.DerivedNames.{learnt_names}
use Rattle.by_name.proofs.laws.learnt_packages_have_names.Goals as goal

pub returns : goal.returns
returns c = learnt_names
