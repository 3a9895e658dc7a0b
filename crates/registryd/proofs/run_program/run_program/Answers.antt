use Rattle.registryd.proofs.EndLemmas.{tells}
use Rattle.registryd.proofs.run_program.run_program.Goals as goal

pub returns : goal.returns
returns g c = record {
  end = _;
  behaves = c.run_command-end.ensures;
  tells = tells _ _ _ _ c.advise.ensures c.ending-status.ensures.told;
  status_is = c.ending-status.ensures.status;
}
