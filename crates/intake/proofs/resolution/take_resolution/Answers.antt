use Rattle.intake.proofs.ResolutionLemmas.{request_told, request_wanted}
use Rattle.intake.proofs.resolution.take_resolution.Goals as goal

pub returns-in_err-needs : goal.returns-in_err-needs
returns-in_err-needs c = rw c.from_residual.ensures record { told = tt; wanted = tt }

pub returns : goal.returns
returns c =
    let listed = c.in_ok-needs in
    let made = rw c.new.ensures.items at c.new-2.ensures in
    rw c.ok.ensures.value record {
      told = request_told c.args.reader.now listed.needs.items c.new-2.result listed.ensures.told made;
      wanted = request_wanted listed.needs.items c.new-2.result listed.ensures.needs made;
    }
