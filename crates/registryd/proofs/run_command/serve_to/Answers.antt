use Rattle.registryd.proofs.EndLemmas.{unmade}
use Rattle.registryd.proofs.run_command.serve_to.Goals as goal

pub returns-in-Err : goal.returns-in-Err
returns-in-Err g c = unmade _ _ _ _ _ c.end_of_making.ensures.unmade
