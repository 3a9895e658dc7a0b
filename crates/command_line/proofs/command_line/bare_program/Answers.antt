use Rattle.std.proofs.Common.{ap, codes, true, ◌≡◌, ◌∙◌}
use Rattle.clap.specs.Simple.{App, app_of_fields, on_top}
use Rattle.clap.specs.Words.{app_of, new_app}
use Rattle.command_line.proofs.command_line.bare_program.Goals as goal

abbrev unnamed : App → App
unnamed = on_top (λ s. record s { no_binary_name = true })

abbrev demanding : App → App
demanding = on_top (λ s. record s { subcommand_required = true })

pub returns : goal.returns
returns c =
    let about : app_of c.about.result ≡ new_app (codes "registryd") = ap app_of_fields c.about.ensures ∙ ap app_of_fields c.in_ok-named.ensures.0 ∙ c.new.ensures.app in
    let first : app_of c.no_binary_name.result ≡ unnamed (new_app (codes "registryd")) = ap app_of_fields c.no_binary_name.ensures ∙ ap unnamed about in
    ap app_of_fields c.subcommand_required.ensures ∙ ap demanding first
