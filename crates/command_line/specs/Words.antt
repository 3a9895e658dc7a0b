-- What the words of the command line say.
use Rattle.std.specs.Prelude.{◌≡◌, ◌≤◌, ◌<◌, ◌⊎◌, ℕ, List, [], ◌∷◌, Option, Some, None, codes, map, String, string_bytes, option_map, length, IsSome}
use Rattle.std.specs.Str.Parse.{IsNumeral, digits_value, without_leading_plus}
use Rattle.std.specs.declared.alloc.Global.{Global}
use Rattle.clap.specs.Words.{IsAmong, IsUnsignedIn, Row, Text, fault_of, subcommand_of, first_of, all_of, one_of}
use Rattle.clap.specs.declared.error.kind.ErrorKind.TheVariants.{DisplayHelp}
use Rattle.command_line.specs.CommandLine.{program_app}
use Rattle.command_line.specs.declared.words.TheConstants.{MOST_CONFLICTS, MOST_FILES, MOST_WORKERS}
use Rattle.command_line.specs.declared.words.Words.{Words}
use Rattle.command_line.specs.declared.words.Words.TheVariants.{Keep, Serve, Race}

abbrev pub texts : List (String Global) → List Text
texts words = map string_bytes words

-- a text writes the number in decimal digits, perhaps after a plus
abbrev pub Writes : Text → ℕ → Type 0
Writes text n = IsNumeral 10 (without_leading_plus text) × (digits_value 10 (without_leading_plus text) ≡ n)

-- the number of workers, which is 1 to MOST_WORKERS, is the one that was given
abbrev pub SaysWorkers : ℕ → List Row → Type 0
SaysWorkers workers rows = (1 ≤ workers) × (workers ≤ MOST_WORKERS)
    × ((text : Text) × (one_of (codes "workers") rows ≡ Some text) × Writes text workers)

-- the budget of conflicts is the one that was given, if one was
abbrev pub SaysBudget : Option ℕ → List Row → Type 0
SaysBudget None rows = one_of (codes "budget") rows ≡ None
SaysBudget (Some budget) rows = (text : Text) × (one_of (codes "budget") rows ≡ Some text) × Writes text budget

-- to serve by so many workers and by this budget, with these files to begin from, to leave and to keep
abbrev pub AreWords : Words → ℕ → Option ℕ → Option Text → Option Text → Option Text → Type 0
AreWords (Serve workers budget load save) n b from to kept = (workers ≡ n) × (budget ≡ b) × (option_map string_bytes load ≡ from) × (option_map string_bytes save ≡ to) × (kept ≡ None)
AreWords (Keep workers budget journal) n b from to kept = (workers ≡ n) × (budget ≡ b) × (kept ≡ Some (string_bytes journal)) × (from ≡ None) × (to ≡ None)
AreWords (Race files) n b from to kept = ⊥

-- a file to keep is named, and one to begin from or to leave as well
abbrev pub NamesBoth : Option Text → Option Text → Option Text → Type 0
NamesBoth from to kept = IsSome kept × (IsSome from ⊎ IsSome to)

-- the options of `serve` are those that were given, and none of its files is left out
abbrev pub SaysServe : Words → List Row → Type 0
SaysServe (Serve workers budget load save) rows = SaysWorkers workers rows × SaysBudget budget rows
    × (option_map string_bytes load ≡ first_of (codes "load") rows)
    × (option_map string_bytes save ≡ first_of (codes "save") rows)
    × (first_of (codes "journal") rows ≡ None)
SaysServe (Keep workers budget journal) rows = SaysWorkers workers rows × SaysBudget budget rows
    × (first_of (codes "journal") rows ≡ Some (string_bytes journal))
    × (first_of (codes "load") rows ≡ None)
    × (first_of (codes "save") rows ≡ None)
SaysServe (Race files) rows = ⊥

-- the files of `race` are those that were given, 1 to MOST_FILES
abbrev pub SaysRace : Words → List Row → Type 0
SaysRace (Serve workers budget load save) rows = ⊥
SaysRace (Keep workers budget journal) rows = ⊥
SaysRace (Race files) rows = (0 < length files.items) × (length files.items ≤ MOST_FILES)
    × (Some (texts files.items) ≡ all_of (codes "files") rows)

-- the words say what clap gives for them: a subcommand with its values
abbrev pub Says : Words → Option (Text × List Row) → Type 0
Says words given = (rows : List Row) × (((given ≡ Some (codes "serve", rows)) × SaysServe words rows)
    ⊎ ((given ≡ Some (codes "race", rows)) × SaysRace words rows))

abbrev pub IsManyFiles : List Row → Type 0
IsManyFiles rows = (files : List Text) × (all_of (codes "files") rows ≡ Some files) × (MOST_FILES < length files)

-- more files than a race takes
abbrev pub HasManyFiles : Option (Text × List Row) → Type 0
HasManyFiles given = (rows : List Row) × (given ≡ Some (codes "race", rows)) × IsManyFiles rows

abbrev pub AreMixed : List Row → Type 0
AreMixed rows = NamesBoth (first_of (codes "load") rows) (first_of (codes "save") rows) (first_of (codes "journal") rows)

-- `serve` is given, with files that are not named together
abbrev pub HasMixedFiles : Option (Text × List Row) → Type 0
HasMixedFiles given = (rows : List Row) × (given ≡ Some (codes "serve", rows)) × AreMixed rows

-- `serve` is given, with this budget, if one is given, with these files to begin from and to leave, where they are named, and with no journal to keep
abbrev pub IsServe : Option ℕ → Option Text → Option Text → Option (Text × List Row) → Type 0
IsServe budget load save given = (rows : List Row) × (given ≡ Some (codes "serve", rows)) × SaysBudget budget rows
    × (first_of (codes "load") rows ≡ load) × (first_of (codes "save") rows ≡ save) × (first_of (codes "journal") rows ≡ None)

-- `serve` is given, with this budget, if one is given, with this journal to keep, and with none to begin from or to leave
abbrev pub IsKeep : Option ℕ → Text → Option (Text × List Row) → Type 0
IsKeep budget journal given = (rows : List Row) × (given ≡ Some (codes "serve", rows)) × SaysBudget budget rows
    × (first_of (codes "journal") rows ≡ Some journal) × (first_of (codes "load") rows ≡ None) × (first_of (codes "save") rows ≡ None)

-- clap finds no fault in the words, and they ask to serve by this budget, if they name one, with these files
abbrev pub AskToServe : List Text → Option ℕ → Option Text → Option Text → Type 0
AskToServe words budget load save = (fault_of program_app words ≡ []) × IsServe budget load save (subcommand_of program_app words)

-- clap finds no fault in the words, and they ask to serve by this budget, if they name one, with this journal to keep
abbrev pub AskToKeep : List Text → Option ℕ → Text → Type 0
AskToKeep words budget journal = (fault_of program_app words ≡ []) × IsKeep budget journal (subcommand_of program_app words)

-- a race of so many files is given, at most MOST_FILES
abbrev pub IsRaceOf : ℕ → Option (Text × List Row) → Type 0
IsRaceOf count given = (rows : List Row) × (files : List Text) × (given ≡ Some (codes "race", rows))
    × (all_of (codes "files") rows ≡ Some files) × (length files ≡ count) × (count ≤ MOST_FILES)

-- clap finds no fault in the words, and they ask for a race of so many files
abbrev pub AskToRace : List Text → ℕ → Type 0
AskToRace words count = (fault_of program_app words ≡ []) × IsRaceOf count (subcommand_of program_app words)

-- clap may answer the words with help: it does, or memory runs out, or behind the word `help` stands no subcommand
abbrev pub MayAskForHelp : List Text → Type 0
MayAskForHelp words = IsAmong DisplayHelp (fault_of program_app words)

-- clap answers the words with help, or memory runs out
abbrev pub AskForHelp : List Text → Type 0
AskForHelp words = fault_of program_app words ≡ DisplayHelp ∷ []

-- ---- what clap has seen to

-- a number of workers is given, from 1 to MOST_WORKERS
abbrev pub HasWorkers : List Row → Type 0
HasWorkers rows = (text : Text) × (one_of (codes "workers") rows ≡ Some text) × IsUnsignedIn 1 MOST_WORKERS text

-- a budget that is given is a number up to MOST_CONFLICTS
abbrev pub HasBudget : List Row → Type 0
HasBudget rows = (text : Text) → one_of (codes "budget") rows ≡ Some text → IsUnsignedIn 0 MOST_CONFLICTS text

-- a file is given
abbrev pub HasFiles : List Row → Type 0
HasFiles rows = (files : List Text) × (all_of (codes "files") rows ≡ Some files) × (0 < length files)

-- a subcommand is given, with the values that it has to have
abbrev pub IsGiven : Option (Text × List Row) → Type 0
IsGiven given = (rows : List Row) × (((given ≡ Some (codes "serve", rows)) × HasWorkers rows × HasBudget rows)
    ⊎ ((given ≡ Some (codes "race", rows)) × HasFiles rows))
