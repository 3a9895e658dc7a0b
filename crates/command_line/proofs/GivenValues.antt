-- Which values the words give where clap finds no fault in them.
use Rattle.std.proofs.Common.{◌≡◌, ◌||◌, Bool, true, false, not, cond, List, [], ◌∷◌, ◌++◌, Option, Some, None, refl, sym, subst, ◌∙◌, ap, is_some, find, length, fold, codes, inl, inr, arith, option_and_then, option_map, slice_get, true≢false}
use Rattle.std.proofs.lemmas.Slice.Eq.{bytes_eq-Decides}
use Rattle.std.specs.List.{AllByRecursion}
use Rattle.std.specs.Option.{option_map_or}
use Rattle.std.specs.Str.{bytes_eq}
use Rattle.clap.specs.Values.{read_as}
use Rattle.clap.specs.ValueTests.{accepts}
use Rattle.clap.specs.Facts.{explicit_source}
use Rattle.clap.proofs.ValueTestLemmas.{accepts-Accepts}
use Rattle.clap.specs.Kinds.{Kinds, check_kinds, or_else, range_kinds}
use Rattle.clap.specs.Simple.{Shape, built, built_leaf, filled, help_rule, help_shape, inherited, marked_built, with_index, with_leaf_noted, entered, label_of, names_of, rows_at, subcommand_of}
use Rattle.clap.specs.Takes.{is_given}
use Rattle.clap.specs.Walk.{Row, Rule, Text, action_of, all_of, at_row, answers_to, finished, has_row, more_values, nothing_held, one_of, reading_by, row_text, settled, used_as, values_or_missing, walk, walk_from, with_default, default_rows, with_values, without}
use Rattle.clap.specs.Faults.{check_fault, entered_fault, fault_of, level_fault, repeat_fault, set_fault, values_fault}
use Rattle.clap.specs.declared.builder.action.ArgAction.{ArgAction}
use Rattle.clap.specs.declared.builder.action.ArgAction.TheVariants as action
use Rattle.clap.specs.declared.builder.ValueParser.TheVariants.{Unsigned}
use Rattle.clap.specs.declared.builder.value_parser.Reading.{Reading}
use Rattle.clap.specs.declared.builder.value_parser.Reading.TheVariants.{AsWritten}
use Rattle.clap.specs.declared.error.ErrorKind.{ErrorKind}
use Rattle.clap.specs.declared.error.ErrorKind.TheVariants as kind
use Rattle.clap.specs.declared.parser.matches.ValueSource.{ValueSource}
use Rattle.clap.specs.declared.parser.matches.ValueSource.TheVariants.{DefaultValue}
use Rattle.command_line.specs.CommandLine.{program_app, serve_app, race_app, workers_rule, budget_rule, files_rule, newest_rule, option_rule}
use Rattle.command_line.specs.declared.words.TheConstants.{MOST_CONFLICTS, MOST_WORKERS}
use Rattle.command_line.specs.Words.{HasBudget, HasFiles, HasWorkers, IsGiven}
use Rattle.command_line.proofs.CommandWalk.{IsNoHelp, Keeps, StopsAtNoHelp, no_fault, walk_keeps, walk_stops, settle_keeps}

append_all : {X : Type 0} (P : X → Type 0) (xs ys : List X) → AllByRecursion P xs → AllByRecursion P ys → AllByRecursion P (xs ++ ys)
append_all P [] ys first then = then
append_all P (x ∷ xs) ys (here, rest) then = (here, append_all P xs ys rest then)

some_same : {x y : Text} → Some x ≡ Some y → x ≡ y
some_same is = cc

module _ (id : Text) (test : Text → Bool) where
  -- the values begin with one that passes the test, and are read as they were written
  abbrev pub FirstPasses : List Text → Reading → Type 0
  FirstPasses values how = (first : Text) × (rest : List Text) × (values ≡ first ∷ rest) × (how ≡ AsWritten) × (test first ≡ true)

  abbrev pub IsGood : Row → Type 0
  IsGood r = bytes_eq r.id id ≡ true → FirstPasses r.values r.reading

  abbrev pub Good : List Row → Type 0
  Good = AllByRecursion IsGood

  at_row_good : (which : Text) (change : Row → List Row) (missing rows : List Row) → Good rows → ((r : Row) → IsGood r → Good (change r)) → Good missing
      → Good (at_row which change missing rows)
  at_row_good which change missing [] good changes new = new
  at_row_good which change missing (r ∷ rs) (here, rest) changes new =
      elim (bytes_eq r.id which) as (λ b. Good (cond b (change r ++ rs) (r ∷ at_row which change missing rs)))
      [ true ↦ append_all IsGood (change r) rs (changes r here) rest | false ↦ (here, at_row_good which change missing rs rest changes new) ]

  without_good : (which : Text) (rows : List Row) → Good rows → Good (without which rows)
  without_good which rows good = at_row_good which (λ _. []) [] rows good (λ r here. tt) tt

  with_values_good : (which : Text) (how : Reading) (source : ValueSource) (values : List Text) (rows : List Row) → Good rows
      → (bytes_eq which id ≡ true → FirstPasses values how) → Good (with_values which how source values rows)
  with_values_good which how source values rows good first =
      at_row_good which (more_values source values) _ rows good
      (λ r here. ((λ same. let f = here same in (f.0, f.1 ++ values, ap (λ l. l ++ values) f.2, f.3, f.4)), tt))
      (first, tt)

  used_good : (x : ArgAction) (which : Text) (how : Reading) (values : List Text) (rows : List Row) → (x ≡ action.Count → ⊥) → Good rows
      → (bytes_eq which id ≡ true → FirstPasses values how) → Good (used_as x which how values rows)
  used_good action.Set which how values rows other good first = with_values_good which how _ values _ (without_good which rows good) first
  used_good action.SetTrue which how values rows other good first = with_values_good which how _ values _ (without_good which rows good) first
  used_good action.SetFalse which how values rows other good first = with_values_good which how _ values _ (without_good which rows good) first
  used_good action.Append which how values rows other good first = with_values_good which how _ values rows good first
  used_good action.Count which how values rows other good first = absurd (other refl)
  used_good action.Help which how values rows other good first = good
  used_good action.HelpShort which how values rows other good first = good
  used_good action.HelpLong which how values rows other good first = good
  used_good action.Version which how values rows other good first = good

  -- an argument that was not used gets its default values
  default_good : (which : Text) (how : Reading) (v : Text) (vs : List Text) (rows : List Row) → Good rows → (bytes_eq which id ≡ true → FirstPasses (v ∷ vs) how) → (has : Bool)
      → Good (cond has rows (default_rows which how (v ∷ vs) rows))
  default_good which how v vs rows good first true = good
  default_good which how v vs rows good first false = with_values_good which how DefaultValue (v ∷ vs) rows good first

  -- a row that was given has such a value
  pub given_first : (rows : List Row) → Good rows → is_given id rows ≡ true
      → (r : Row) × (find (λ r. bytes_eq r.id id) rows ≡ Some r) × FirstPasses r.values r.reading
  given_first [] good given = absurd (true≢false (sym given))
  given_first (r ∷ rs) (here, rest) given = go (λ later. given_first rs rest later) (bytes_eq r.id id) refl given
    where
      go : (is_given id rs ≡ true → (q : Row) × (find (λ q. bytes_eq q.id id) rs ≡ Some q) × FirstPasses q.values q.reading)
          → (b : Bool) → bytes_eq r.id id ≡ b → option_map_or (λ q. explicit_source q.source) (cond b (Some r) (find (λ q. bytes_eq q.id id) rs)) false ≡ true
          → (q : Row) × (cond b (Some r) (find (λ q. bytes_eq q.id id) rs) ≡ Some q) × FirstPasses q.values q.reading
      go later true is given = (r, refl, here is)
      go later false is given = later given

  -- such an argument is read as its first value, and has all of its values
  pub first_read : (rows : List Row) → Good rows → is_given id rows ≡ true
      → (first : Text) × (rest : List Text) × (one_of id rows ≡ Some first) × (all_of id rows ≡ Some (first ∷ rest)) × (test first ≡ true)
  first_read rows good given =
      let met = given_first rows good given in
      let passes = met.2 in
      let row_is : row_text met.0 ≡ Some passes.0 = ap (λ v. option_map (read_as met.0.reading) (slice_get v 0)) passes.2 ∙ ap (λ how. Some (read_as how passes.0)) passes.3 in (
        passes.0,
        passes.1,
        ap (option_and_then row_text) met.1 ∙ row_is,
        ap (option_map (λ (r : Row). r.values)) met.1 ∙ ap (λ v. Some v) passes.2,
        passes.4,
      )

  -- an argument that was read has such a value, whether it was given or not
  pub read_passes : (rows : List Row) → Good rows → (text : Text) → one_of id rows ≡ Some text → test text ≡ true
  read_passes [] good text is = absurd (cc)
  read_passes (r ∷ rs) (here, rest) text is = go (λ later. read_passes rs rest text later) (bytes_eq r.id id) refl is
    where
      go : (one_of id rs ≡ Some text → test text ≡ true) → (b : Bool) → bytes_eq r.id id ≡ b
          → option_and_then row_text (cond b (Some r) (find (λ q. bytes_eq q.id id) rs)) ≡ Some text → test text ≡ true
      go later true same has =
          let passes = here same in
          let row_is : row_text r ≡ Some passes.0 = ap (λ v. option_map (read_as r.reading) (slice_get v 0)) passes.2 ∙ ap (λ how. Some (read_as how passes.0)) passes.3 in
          let both : Some passes.0 ≡ Some text = sym row_is ∙ has in
          subst (λ t. test t ≡ true) (some_same both) passes.4
      go later false same has = later has

-- ---- one level of the parse

with_default_none : (rows : List Row) (a : Rule) → a.defaults ≡ [] → with_default rows a ≡ rows
with_default_none rows a none =
    elim (has_row a.id rows) as (λ b. cond b rows (default_rows a.id (reading_by a) a.defaults rows) ≡ rows)
    [ true ↦ refl | false ↦ ap (λ values. default_rows a.id (reading_by a) values rows) none ]

-- the argument's default values keep what is said of the rows
abbrev KeepsDefault : (List Row → Type 0) → Rule → Type 0
KeepsDefault Good a = (rows : List Row) → Good rows → Good (with_default rows a)

-- so does an argument with none
no_default : (Good : List Row → Type 0) (a : Rule) → a.defaults ≡ [] → KeepsDefault Good a
no_default Good a none rows good = subst Good (sym (with_default_none rows a none)) good

defaults_keep : (Good : List Row → Type 0) (c : List Rule) (rows : List Row) → AllByRecursion (KeepsDefault Good) c → Good rows → Good (fold with_default rows c)
defaults_keep Good [] rows all good = good
defaults_keep Good (a ∷ c) rows (here, rest) good = defaults_keep Good c (with_default rows a) rest (here rows good)

-- what a level without fault leaves
level_leaves : (Good : List Row → Type 0) (s : Shape) (words : List Text) → AllByRecursion (Keeps Good s) s.rules → AllByRecursion (KeepsDefault Good) s.rules → Good []
    → level_fault s [] nothing_held words false [] ≡ []
    → Good (finished s.rules (walk s.rules [] nothing_held words).held) × (check_fault s (finished s.rules (walk s.rules [] nothing_held words).held) false ≡ [])
level_leaves Good s words keeps defaults empty none =
    let end = (walk s.rules [] nothing_held words).held in
    let walked_well = no_fault _ _ none in
    let settled_well = no_fault _ _ walked_well.1 in
    let after = no_fault _ _ settled_well.1 in
    let good = walk_keeps Good s keeps [] words (walk_from nothing_held) empty walked_well.0 in
    let kept = settle_keeps Good s keeps end good settled_well.0 in
    (defaults_keep Good s.rules (settled s.rules end).rows defaults kept, after.1)

-- ---- the program's own levels

abbrev serve_shape : Shape
serve_shape = built_leaf (inherited (marked_built (with_leaf_noted program_app.top)) serve_app.top)

abbrev race_shape : Shape
race_shape = built_leaf (inherited (marked_built (with_leaf_noted program_app.top)) race_app.top)

abbrev is_worker_count : Text → Bool
is_worker_count = accepts false (Unsigned 1 MOST_WORKERS)

accepted : (b : Bool) (k : ErrorKind) (ks : Kinds) → or_else (cond b [] (k ∷ [])) ks ≡ [] → b ≡ true
accepted true k ks none = refl
accepted false k ks none = absurd (cc)

abbrev is_budget : Text → Bool
is_budget = accepts false (Unsigned 0 MOST_CONFLICTS)

WorkersGood : List Row → Type 0
WorkersGood = Good (codes "workers") is_worker_count

BudgetGood : List Row → Type 0
BudgetGood = Good (codes "budget") is_budget

-- a use of an argument that is not the one in question
keeps_other : (id : Text) (test : Text → Bool) (s : Shape) (a : Rule) → (action_of a ≡ action.Count → ⊥) → bytes_eq a.id id ≡ false → Keeps (Good id test) s a
keeps_other id test s a uncounted other values rows good none =
    used_good id test (action_of a) a.id (reading_by a) (values_or_missing a values) rows uncounted good (λ same. absurd (true≢false (sym same ∙ other)))

keeps_workers : Keeps WorkersGood serve_shape (filled workers_rule)
unfolding WorkersGood
keeps_workers [] rows good none = absurd (cc)
keeps_workers (v ∷ vs) rows good none =
    let again = serve_shape.args_override_self in
    let used_well = no_fault (range_kinds 1 1 (length (v ∷ vs))) (set_fault again (filled workers_rule) (v ∷ vs) rows) none in
    let once = no_fault (repeat_fault again (codes "workers") rows) (values_fault (filled workers_rule) (v ∷ vs)) used_well.1 in
    let passes = accepted (is_worker_count v) kind.ValueValidation (values_fault (filled workers_rule) vs) once.1 in
    used_good (codes "workers") is_worker_count action.Set (codes "workers") AsWritten (v ∷ vs) rows (λ count. cc) good (λ same. (v, vs, refl, refl, passes))

keeps_budget : Keeps BudgetGood serve_shape (filled budget_rule)
unfolding BudgetGood
keeps_budget [] rows good none = absurd (cc)
keeps_budget (v ∷ vs) rows good none =
    let again = serve_shape.args_override_self in
    let used_well = no_fault (range_kinds 1 1 (length (v ∷ vs))) (set_fault again (filled budget_rule) (v ∷ vs) rows) none in
    let once = no_fault (repeat_fault again (codes "budget") rows) (values_fault (filled budget_rule) (v ∷ vs)) used_well.1 in
    let passes = accepted (is_budget v) kind.ValueValidation (values_fault (filled budget_rule) vs) once.1 in
    used_good (codes "budget") is_budget action.Set (codes "budget") AsWritten (v ∷ vs) rows (λ count. cc) good (λ same. (v, vs, refl, refl, passes))

keeps_help : (Good : List Row → Type 0) (s : Shape) → Keeps Good s (filled help_rule)
keeps_help Good s values rows good none = good

-- the options that name files
files_options : (id : Text) (test : Text → Bool) → bytes_eq (codes "journal") id ≡ false → bytes_eq (codes "load") id ≡ false → bytes_eq (codes "save") id ≡ false
    → Keeps (Good id test) serve_shape (filled (option_rule (codes "journal"))) × Keeps (Good id test) serve_shape (filled (option_rule (codes "load")))
    × Keeps (Good id test) serve_shape (filled (option_rule (codes "save")))
files_options id test journal load save = (
  keeps_other id test serve_shape (filled (option_rule (codes "journal"))) (λ count. cc) journal,
  keeps_other id test serve_shape (filled (option_rule (codes "load"))) (λ count. cc) load,
  keeps_other id test serve_shape (filled (option_rule (codes "save"))) (λ count. cc) save,
)

-- the flag has a default value
newest_default : (id : Text) (test : Text → Bool) → bytes_eq (codes "newest") id ≡ false → KeepsDefault (Good id test) (filled newest_rule)
newest_default id test other rows good =
    default_good id test (codes "newest") AsWritten (codes "false") [] rows good (λ same. absurd (true≢false (sym same ∙ other))) (has_row (codes "newest") rows)

-- the default values of `serve`
serve_defaults : (id : Text) (test : Text → Bool) → bytes_eq (codes "newest") id ≡ false → AllByRecursion (KeepsDefault (Good id test)) serve_shape.rules
serve_defaults id test other =
    let none = no_default (Good id test) in
    let file = λ (name : Text). none (filled (option_rule name)) refl in
    (none (filled workers_rule) refl, (file (codes "journal"), (file (codes "load"), (file (codes "save"), (none (filled budget_rule) refl, (newest_default id test other, (none (filled help_rule) refl, tt)))))))

workers_kept : AllByRecursion (Keeps WorkersGood serve_shape) serve_shape.rules
unfolding WorkersGood
workers_kept =
    let other = keeps_other (codes "workers") is_worker_count serve_shape in
    let files = files_options (codes "workers") is_worker_count refl refl refl in
    (keeps_workers, (files.0, (files.1, (files.2, (other (filled budget_rule) (λ count. cc) refl, (other (filled newest_rule) (λ count. cc) refl, (keeps_help WorkersGood serve_shape, tt)))))))

budget_kept : AllByRecursion (Keeps BudgetGood serve_shape) serve_shape.rules
unfolding BudgetGood
budget_kept =
    let other = keeps_other (codes "budget") is_budget serve_shape in
    let files = files_options (codes "budget") is_budget refl refl refl in
    (other (filled workers_rule) (λ count. cc) refl, (files.0, (files.1, (files.2, (keeps_budget, (other (filled newest_rule) (λ count. cc) refl, (keeps_help BudgetGood serve_shape, tt)))))))

FilesGood : List Row → Type 0
FilesGood = Good (codes "files") (λ _. true)

keeps_files : Keeps FilesGood race_shape (with_index 1 (filled files_rule))
unfolding FilesGood
keeps_files [] rows good none = absurd (cc)
keeps_files (v ∷ vs) rows good none =
    used_good (codes "files") (λ _. true) action.Append (codes "files") AsWritten (v ∷ vs) rows (λ count. cc) good (λ same. (v, vs, refl, refl, refl))

files_kept : AllByRecursion (Keeps FilesGood race_shape) race_shape.rules
unfolding FilesGood
files_kept = (keeps_files, (keeps_other (codes "files") (λ _. true) race_shape (filled newest_rule) (λ count. cc) refl, (keeps_help FilesGood race_shape, tt)))

-- the default values of `race`
race_defaults : AllByRecursion (KeepsDefault FilesGood) race_shape.rules
unfolding FilesGood
race_defaults =
    let none = no_default (Good (codes "files") (λ _. true)) in
    (none (with_index 1 (filled files_rule)) refl, (newest_default (codes "files") (λ _. true) refl, (none (filled help_rule) refl, tt)))

-- the last checks of a level want what is required
asked_for : (b : Bool) → check_kinds false false (not b || false) ≡ [] → b ≡ true
asked_for true none = refl
asked_for false none = absurd (cc)

-- what `serve` was given: a number of workers
workers_given : (words : List Text) → level_fault serve_shape [] nothing_held words false [] ≡ []
    → HasWorkers (finished serve_shape.rules (walk serve_shape.rules [] nothing_held words).held)
unfolding WorkersGood
workers_given words none =
    let left = level_leaves WorkersGood serve_shape words workers_kept (serve_defaults (codes "workers") is_worker_count refl) tt none in
    let rows = finished serve_shape.rules (walk serve_shape.rules [] nothing_held words).held in
    let read = first_read (codes "workers") is_worker_count rows left.0 (asked_for (is_given (codes "workers") rows) left.1) in
    (read.0, read.2, accepts-Accepts false (Unsigned 1 MOST_WORKERS) read.0 read.4)

-- and a budget, if at all, that is a number
budget_given : (words : List Text) → level_fault serve_shape [] nothing_held words false [] ≡ []
    → HasBudget (finished serve_shape.rules (walk serve_shape.rules [] nothing_held words).held)
unfolding BudgetGood
budget_given words none text is =
    let left = level_leaves BudgetGood serve_shape words budget_kept (serve_defaults (codes "budget") is_budget refl) tt none in
    let rows = finished serve_shape.rules (walk serve_shape.rules [] nothing_held words).held in
    accepts-Accepts false (Unsigned 0 MOST_CONFLICTS) text (read_passes (codes "budget") is_budget rows left.0 text is)

-- what `race` was given: a file or more
files_given : (words : List Text) → level_fault race_shape [] nothing_held words false [] ≡ []
    → HasFiles (finished race_shape.rules (walk race_shape.rules [] nothing_held words).held)
unfolding FilesGood
files_given words none =
    let left = level_leaves FilesGood race_shape words files_kept race_defaults tt none in
    let rows = finished race_shape.rules (walk race_shape.rules [] nothing_held words).held in
    let read = first_read (codes "files") (λ _. true) rows left.0 (asked_for (is_given (codes "files") rows) left.1) in
    (read.0 ∷ read.1, read.3, omega arith)

-- ---- the whole command line

abbrev program_shape : Shape
program_shape = (built program_app).top

-- the last checks of the program want a subcommand
subcommand_wanted : (rows : List Row) (has : Bool) → check_fault program_shape rows has ≡ [] → has ≡ true
subcommand_wanted rows true none = refl
subcommand_wanted rows false none = absurd (cc)

abbrev help_leaf : Shape
help_leaf = built_leaf help_shape

named_otherwise : (name : Text) (b : Bool) → bytes_eq (codes "help") name ≡ b → IsNoHelp name → (b || false) ≡ false
named_otherwise name false is other = refl
named_otherwise name true is other =
    let same : codes "help" ≡ name = (bytes_eq-Decides (codes "help") name).0 is in
    absurd (true≢false (ap (λ (n : Text). bytes_eq n (codes "help")) same ∙ other))

entered_by : (words : List Text) (is_serve is_race is_help : Bool) → is_help ≡ false → let met = cond is_serve (Some serve_shape) (cond is_race (Some race_shape) (cond is_help (Some help_leaf) None)) in
    option_map_or (λ s. level_fault s [] nothing_held words false []) met [] ≡ [] → is_some (option_map (λ s. rows_at s words) met) ≡ true → IsGiven (option_map (λ s. rows_at s words) met)
entered_by words true is_race is_help other below has = ((rows_at serve_shape words).1, inl (refl, workers_given words below, budget_given words below))
entered_by words false true is_help other below has = ((rows_at race_shape words).1, inr (refl, files_given words below))
entered_by words false false true other below has = absurd (true≢false other)
entered_by words false false false other below has = absurd (true≢false (sym has))

entered_from : (stop : Option (Text × List Text)) → StopsAtNoHelp stop → entered_fault (built program_app) stop ≡ [] → is_some (entered (built program_app) stop) ≡ true
    → IsGiven (entered (built program_app) stop)
entered_from None stops below has = absurd (true≢false (sym has))
entered_from (Some p) stops below has =
    entered_by p.1 (answers_to p.0 (label_of serve_shape)) (answers_to p.0 (label_of race_shape)) (answers_to p.0 (label_of help_leaf))
    (named_otherwise p.0 (bytes_eq (codes "help") p.0) refl stops) below has

-- where clap finds no fault in the words, a subcommand and its values are given
pub given_values : (words : List Text) → fault_of program_app words ≡ [] → IsGiven (subcommand_of program_app words)
given_values words none =
    let names = names_of (built program_app) in
    let end = walk program_shape.rules names nothing_held words in
    let has = is_some (entered (built program_app) end.stopped) in
    let walked_well = no_fault _ _ none in
    let entered_well = no_fault _ _ walked_well.1 in
    let settled_well = no_fault _ _ entered_well.1 in
    let defaults_well = no_fault _ _ settled_well.1 in
    let stops = walk_stops program_shape refl names words (walk_from nothing_held) tt walked_well.0 in
    entered_from end.stopped stops entered_well.0 (subcommand_wanted (finished program_shape.rules end.held) has defaults_well.1)
