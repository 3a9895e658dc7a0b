-- The command line, as clap is told of it.
use Rattle.std.specs.Prelude.{Some, true, codes}
use Rattle.clap.specs.Words.{App, Rule, Text, new_app, new_rule, with_rule, with_subcommand}
use Rattle.clap.specs.declared.builder.action.ArgAction.TheVariants.{Set, SetTrue, Append}
use Rattle.clap.specs.declared.builder.ValueParser.TheVariants.{Unsigned}
use Rattle.command_line.specs.declared.words.TheConstants.{MOST_CONFLICTS, MOST_WORKERS}

-- `--name VALUE`, which may be left out
abbrev pub option_rule : Text → Rule
option_rule name = record (new_rule name) { long = Some name; action = Some Set; value_names = 1 }

-- `--newest`, which has no value, and may be left out
abbrev pub newest_rule : Rule
newest_rule = record (new_rule (codes "newest")) { long = Some (codes "newest"); action = Some SetTrue }

-- `--workers N`, which has to be there, N from 1 to MOST_WORKERS
abbrev pub workers_rule : Rule
workers_rule = record (option_rule (codes "workers")) { required = true; parser = Some (Unsigned 1 MOST_WORKERS) }

-- `--budget N`, which may be left out, N up to MOST_CONFLICTS
abbrev pub budget_rule : Rule
budget_rule = record (option_rule (codes "budget")) { parser = Some (Unsigned 0 MOST_CONFLICTS) }

-- one file or more
abbrev pub files_rule : Rule
files_rule = record (new_rule (codes "files")) {
  required = true;
  action = Some Append;
  range = Some (record { start_inclusive = 1; end_inclusive = 18446744073709551615 });
  value_names = 1;
}

-- `serve --workers N [--journal FILE] [--load FILE] [--save FILE] [--budget N] [--newest]`
abbrev pub serve_app : App
serve_app =
    with_rule (with_rule (with_rule (with_rule (with_rule (with_rule (new_app (codes "serve")) workers_rule) (option_rule (codes "journal"))) (option_rule (codes "load"))) (option_rule (codes "save"))) budget_rule) newest_rule

-- `race [--newest] FILE...`
abbrev pub race_app : App
race_app = with_rule (with_rule (new_app (codes "race")) files_rule) newest_rule

-- with no word for the program itself, and one of those that are to be its subcommands
abbrev pub bare_app : App
bare_app = let a = new_app (codes "registryd") in
    record a {
      top = record a.top {
        no_binary_name = true;
        subcommand_required = true;
      };
    }

-- one of the two
abbrev pub program_app : App
program_app = with_subcommand (with_subcommand bare_app serve_app.top) race_app.top
