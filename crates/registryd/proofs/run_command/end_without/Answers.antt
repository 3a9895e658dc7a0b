use Rattle.std.proofs.Common.{◌≡◌, ◌∙◌, ap, refl}
use Rattle.registryd.specs.declared.fault.Failure.{Failure}
use Rattle.registryd.specs.declared.recovered.Unbegun.TheVariants as unbegun
use Rattle.registryd.proofs.run_command.end_without.Goals as goal

pub returns-in-Failed-clause-failed : goal.returns-in-Failed-clause-failed
returns-in-Failed-clause-failed c failure is =
    let same : unbegun.Failed c.in-Failed.failure ≡ unbegun.Failed failure = rw c.in-Failed.is at is in
    let one : c.in-Failed.failure ≡ failure = cc in
    (c.told.result, refl, c.told.ensures.what ∙ ap (λ (f : Failure). f.what) one)
