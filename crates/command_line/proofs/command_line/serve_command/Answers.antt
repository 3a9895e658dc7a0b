use Rattle.std.proofs.Common.{ap, ap₂, codes, false, ◌≡◌, ◌∙◌, ◌||◌}
use Rattle.std.proofs.lemmas.Result.{IfOk-from_err, IfOk-weaker}
use Rattle.clap.specs.Simple.{app_of_fields}
use Rattle.clap.specs.Words.{app_of, new_app, with_rule}
use Rattle.clap.specs.declared.Command.{Command}
use Rattle.clap.specs.declared.Command.TheOpen.{Command-F}
use Rattle.clap.specs.declared.Command.TheViews.{out-Command as fields_of}
use Rattle.command_line.proofs.command_line.serve_command.Goals as goal

pub returns-clause-app : goal.returns-clause-app
returns-clause-app c =
    let bare : app_of c.after_help-bare.result ≡ new_app (codes "serve") = ap app_of_fields c.after_help-bare.ensures ∙ ap app_of_fields c.about.ensures ∙ c.new.ensures.app in
    let budget = c.in_ok-with_budget.ensures.shape c.budget_option.ensures.local ∙ ap₂ with_rule (c.in_ok-with_save.ensures.shape c.file_option-3.ensures.local
    ∙ ap₂ with_rule (c.in_ok-with_load.ensures.shape c.file_option-2.ensures.local
    ∙ ap₂ with_rule (c.in_ok-with_journal.ensures.shape c.file_option.ensures.local
    ∙ ap₂ with_rule (c.in_ok-with_workers.ensures.shape c.workers_option.ensures.local
    ∙ ap₂ with_rule bare c.workers_option.ensures.rule) c.file_option.ensures.rule) c.file_option-2.ensures.rule) c.file_option-3.ensures.rule) c.budget_option.ensures.rule in
    IfOk-weaker c.arg-6.result _ _ (λ whole adds. adds.shape c.newest_flag.ensures.local ∙ ap₂ with_rule budget c.newest_flag.ensures.rule) c.arg-6.ensures

-- no argument is global
pub returns-clause-local : goal.returns-clause-local
returns-clause-local c =
    let bare : (fields_of c.after_help-bare.result).has_globals ≡ false =
    ap (λ (f : Command-F Command). f.has_globals) c.after_help-bare.ensures ∙ ap (λ (f : Command-F Command). f.has_globals) c.about.ensures ∙ c.new.ensures.local in
    let workers : (fields_of c.in_ok-with_workers.with_workers).has_globals ≡ false = c.in_ok-with_workers.ensures.globals ∙ ap₂ ◌||◌ bare c.workers_option.ensures.local in
    let journal : (fields_of c.in_ok-with_journal.with_journal).has_globals ≡ false = c.in_ok-with_journal.ensures.globals ∙ ap₂ ◌||◌ workers c.file_option.ensures.local in
    let load : (fields_of c.in_ok-with_load.with_load).has_globals ≡ false = c.in_ok-with_load.ensures.globals ∙ ap₂ ◌||◌ journal c.file_option-2.ensures.local in
    let save : (fields_of c.in_ok-with_save.with_save).has_globals ≡ false = c.in_ok-with_save.ensures.globals ∙ ap₂ ◌||◌ load c.file_option-3.ensures.local in
    let budget : (fields_of c.in_ok-with_budget.with_budget).has_globals ≡ false = c.in_ok-with_budget.ensures.globals ∙ ap₂ ◌||◌ save c.budget_option.ensures.local in
    IfOk-weaker c.arg-6.result _ _ (λ whole adds. adds.globals ∙ ap₂ ◌||◌ budget c.newest_flag.ensures.local) c.arg-6.ensures

pub returns-in_err-with_workers : goal.returns-in_err-with_workers
returns-in_err-with_workers c = let failed = c.from_residual in record { app = IfOk-from_err failed.result _ failed.ensures.0; local = IfOk-from_err failed.result _ failed.ensures.0 }

pub returns-in_err-with_journal : goal.returns-in_err-with_journal
returns-in_err-with_journal c = let failed = c.from_residual-in_err-with_journal in record { app = IfOk-from_err failed.result _ failed.ensures.0; local = IfOk-from_err failed.result _ failed.ensures.0 }

pub returns-in_err-with_load : goal.returns-in_err-with_load
returns-in_err-with_load c = let failed = c.from_residual-in_err-with_load in record { app = IfOk-from_err failed.result _ failed.ensures.0; local = IfOk-from_err failed.result _ failed.ensures.0 }

pub returns-in_err-with_save : goal.returns-in_err-with_save
returns-in_err-with_save c = let failed = c.from_residual-in_err-with_save in record { app = IfOk-from_err failed.result _ failed.ensures.0; local = IfOk-from_err failed.result _ failed.ensures.0 }

pub returns-in_err-with_budget : goal.returns-in_err-with_budget
returns-in_err-with_budget c = let failed = c.from_residual-in_err-with_budget in record { app = IfOk-from_err failed.result _ failed.ensures.0; local = IfOk-from_err failed.result _ failed.ensures.0 }
