use Rattle.std.proofs.Common.{ap, ◌≡◌, ◌∙◌}
use Rattle.std.proofs.lemmas.Result.{IfOk-weaker}
use Rattle.clap.specs.Simple.{App, shape_of}
use Rattle.clap.specs.Words.{app_of, with_subcommand}
use Rattle.command_line.specs.CommandLine.{race_app}
use Rattle.command_line.proofs.command_line.with_race.Goals as goal

pub returns-in-Ok : goal.returns-in-Ok
returns-in-Ok c =
    let own : shape_of c.in-Ok.race ≡ race_app.top = ap (λ (a : App). a.top) c.in-Ok.ensures.app in
    IfOk-weaker c.subcommand.result _ _ (λ whole adds. adds.shape c.in-Ok.ensures.local ∙ ap (with_subcommand (app_of c.args.program)) own) c.subcommand.ensures
