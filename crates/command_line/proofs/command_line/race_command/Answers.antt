use Rattle.std.proofs.Common.{ap, ap₂, codes, false, ◌≡◌, ◌∙◌, ◌||◌}
use Rattle.std.proofs.lemmas.Result.{IfOk-from_err, IfOk-weaker}
use Rattle.clap.specs.Simple.{app_of_fields}
use Rattle.clap.specs.Words.{app_of, new_app, with_rule}
use Rattle.clap.specs.declared.Command.{Command}
use Rattle.clap.specs.declared.Command.TheOpen.{Command-F}
use Rattle.clap.specs.declared.Command.TheViews.{out-Command as fields_of}
use Rattle.command_line.proofs.command_line.race_command.Goals as goal

pub returns-clause-app : goal.returns-clause-app
returns-clause-app c =
    let bare : app_of c.after_help-bare.result ≡ new_app (codes "race") = ap app_of_fields c.after_help-bare.ensures ∙ ap app_of_fields c.about.ensures ∙ c.new.ensures.app in
    let files = c.in_ok-with_files.ensures.shape c.files_argument.ensures.local ∙ ap₂ with_rule bare c.files_argument.ensures.rule in
    IfOk-weaker c.arg-2.result _ _ (λ whole adds. adds.shape c.newest_flag.ensures.local ∙ ap₂ with_rule files c.newest_flag.ensures.rule) c.arg-2.ensures

-- no argument is global
pub returns-clause-local : goal.returns-clause-local
returns-clause-local c =
    let bare : (fields_of c.after_help-bare.result).has_globals ≡ false =
    ap (λ (f : Command-F Command). f.has_globals) c.after_help-bare.ensures ∙ ap (λ (f : Command-F Command). f.has_globals) c.about.ensures ∙ c.new.ensures.local in
    let files : (fields_of c.in_ok-with_files.with_files).has_globals ≡ false = c.in_ok-with_files.ensures.globals ∙ ap₂ ◌||◌ bare c.files_argument.ensures.local in
    IfOk-weaker c.arg-2.result _ _ (λ whole adds. adds.globals ∙ ap₂ ◌||◌ files c.newest_flag.ensures.local) c.arg-2.ensures

pub returns-in_err-with_files : goal.returns-in_err-with_files
returns-in_err-with_files c = let failed = c.from_residual in record { app = IfOk-from_err failed.result _ failed.ensures.0; local = IfOk-from_err failed.result _ failed.ensures.0 }
