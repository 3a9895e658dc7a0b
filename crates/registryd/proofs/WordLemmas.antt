-- What words ask that were read.
use Rattle.std.proofs.Common.{◌≡◌, ◌⊎◌, ◌<◌, ◌≤◌, ℕ, Bool, nat_eq, List, [], Option, None, Some, String, Vec, Global, inl, inr, sym, subst, ap, arith, codes, length, true≢false, ◌∙◌}
use Rattle.std.proofs.lemmas.List.{length-map}
use Rattle.std.specs.Option.{option_map_or}
use Rattle.std.specs.Prelude.{IsSome, option_map, string_bytes}
use Rattle.clap.specs.Words.{Row, Text, all_of, fault_of, first_of, subcommand_of}
use Rattle.command_line.specs.CommandLine.{program_app}
use Rattle.command_line.specs.Words.{AreMixed, AskForHelp, AskToKeep, AskToRace, AskToServe, HasManyFiles, HasMixedFiles, IsKeep, IsRaceOf, IsServe, Says, texts}
use Rattle.command_line.specs.declared.words.TheConstants.{MOST_FILES}
use Rattle.command_line.specs.declared.words.Words.{Words}
use Rattle.command_line.specs.declared.words.Words.TheVariants.{Keep, Race, Serve}
use Rattle.registryd.specs.Behaves.{AskForNothing}

-- serving, with the files that are named
serve_asked : (words : Words) (workers : ℕ) (budget : Option ℕ) (load save : Option (String Global)) (given : Option (Text × List Row)) (from to : Option Text) → Says words given
    → words ≡ Serve workers budget load save → from ≡ option_map string_bytes load → to ≡ option_map string_bytes save → IsServe budget from to given
serve_asked words workers budget load save given from to says is from_is to_is =
    let read : Says (Serve workers budget load save) given = subst (λ (w : Words). Says w given) is says in
    elim read.1 [
      | inl serve ↦ (read.0, serve.0, serve.1.1, sym serve.1.2 ∙ sym from_is, sym serve.1.3 ∙ sym to_is, serve.1.4)
      | inr race ↦ absurd race.1
    ]

pub serve_asks : (line : List Text) (words : Words) (workers : ℕ) (budget : Option ℕ) (load save : Option (String Global)) (from to : Option Text) → fault_of program_app line ≡ []
    → Says words (subcommand_of program_app line) → words ≡ Serve workers budget load save → from ≡ option_map string_bytes load → to ≡ option_map string_bytes save → AskToServe line budget from to
serve_asks line words workers budget load save from to taken says is from_is to_is =
    (taken, serve_asked words workers budget load save (subcommand_of program_app line) from to says is from_is to_is)

-- serving, with a journal that is kept
keep_asked : (words : Words) (workers : ℕ) (budget : Option ℕ) (journal : String Global) (given : Option (Text × List Row)) (name : Text) → Says words given → words ≡ Keep workers budget journal → name ≡ string_bytes journal
    → IsKeep budget name given
keep_asked words workers budget journal given name says is name_is =
    let read : Says (Keep workers budget journal) given = subst (λ (w : Words). Says w given) is says in
    elim read.1 [
      | inl serve ↦ (read.0, serve.0, serve.1.1, serve.1.2 ∙ ap (λ (t : Text). Some t) (sym name_is), serve.1.3, serve.1.4)
      | inr race ↦ absurd race.1
    ]

pub keep_asks : (line : List Text) (words : Words) (workers : ℕ) (budget : Option ℕ) (journal : String Global) (name : Text) → fault_of program_app line ≡ [] → Says words (subcommand_of program_app line)
    → words ≡ Keep workers budget journal → name ≡ string_bytes journal → AskToKeep line budget name
keep_asks line words workers budget journal name taken says is name_is = (taken, keep_asked words workers budget journal (subcommand_of program_app line) name says is name_is)

-- a race of these files
race_asked : (words : Words) (files : Vec (String Global) Global) (names : List (String Global)) (given : Option (Text × List Row)) → Says words given → words ≡ Race files → names ≡ files.items
    → IsRaceOf (length names) given
race_asked words files names given says is names_are =
    let read : Says (Race files) given = subst (λ (w : Words). Says w given) is says in
    let same : length files.items ≡ length names = sym (ap (λ (l : List (String Global)). length l) names_are) in
    elim read.1 [
      | inl serve ↦ absurd serve.1
      | inr race ↦ (read.0, texts files.items, race.0, sym race.1.2, length-map files.items string_bytes ∙ same, subst (λ (n : ℕ). n ≤ MOST_FILES) same race.1.1)
    ]

pub race_asks : (line : List Text) (words : Words) (files : Vec (String Global) Global) (names : List (String Global)) → fault_of program_app line ≡ [] → Says words (subcommand_of program_app line)
    → words ≡ Race files → names ≡ files.items → AskToRace line (length names)
race_asks line words files names taken says is names_are = (taken, race_asked words files names (subcommand_of program_app line) says is names_are)

-- ---- words that ask for nothing

-- the name of a subcommand, and its rows
name_in : Option (Text × List Row) → Text
name_in o = option_map_or (λ (p : Text × List Row). p.0) o []

rows_in : Option (Text × List Row) → List Row
rows_in o = option_map_or (λ (p : Text × List Row). p.1) o []

-- a subcommand has one name
one_name : (given : Option (Text × List Row)) (r s : List Row) → given ≡ Some (codes "serve", r) → given ≡ Some (codes "race", s) → ⊥
unfolding name_in
one_name given r s serve race =
    let same : codes "serve" ≡ codes "race" = sym (ap name_in serve) ∙ ap name_in race in
    let P : Text → Bool = λ t. nat_eq (length t) 5 in true≢false (ap P same)

-- and its rows are one
one_rows : (given : Option (Text × List Row)) (a b : Text) (r s : List Row) → given ≡ Some (a, r) → given ≡ Some (b, s) → r ≡ s
unfolding rows_in
one_rows given a b r s one two = sym (ap rows_in one) ∙ ap rows_in two

none_named : (o : Option Text) → o ≡ None → IsSome o → ⊥
none_named o none some = let P : Option Text → Type 0 = λ p. IsSome p in true≢false (sym (subst P none some))

module _ (line : List Text) (bad : fault_of program_app line ≡ [] → HasManyFiles (subcommand_of program_app line) ⊎ HasMixedFiles (subcommand_of program_app line)) where
  -- the rows of `serve` are those in which files are mixed
  mixed_rows : (rows : List Row) → fault_of program_app line ≡ [] → subcommand_of program_app line ≡ Some (codes "serve", rows) → AreMixed rows
  mixed_rows rows taken is = elim (bad taken) [
    | inl many ↦ absurd (one_name (subcommand_of program_app line) rows many.0 is many.1)
    | inr mixed ↦ subst AreMixed (one_rows (subcommand_of program_app line) (codes "serve") (codes "serve") mixed.0 rows mixed.1 is) mixed.2
  ]

  pub asks_no_serve : (budget : Option ℕ) (load save : Option Text) → AskToServe line budget load save → ⊥
  asks_no_serve budget load save (taken, (rows, is, budget_is, load_is, save_is, none)) = none_named (first_of (codes "journal") rows) none (mixed_rows rows taken is).0

  pub asks_no_keep : (budget : Option ℕ) (journal : Text) → AskToKeep line budget journal → ⊥
  asks_no_keep budget journal (taken, (rows, is, budget_is, journal_is, no_load, no_save)) = elim (mixed_rows rows taken is).1 [
    | inl load ↦ none_named (first_of (codes "load") rows) no_load load
    | inr save ↦ none_named (first_of (codes "save") rows) no_save save
  ]

  pub asks_no_race : (count : ℕ) → AskToRace line count → ⊥
  asks_no_race count (taken, (rows, files, is, all, number, most)) = elim (bad taken) [
    | inl many ↦ too_many many.0 many.1 many.2.0 many.2.1 many.2.2
    | inr mixed ↦ one_name (subcommand_of program_app line) mixed.0 rows mixed.1 is
  ]
    where
      too_many : (others : List Row) → subcommand_of program_app line ≡ Some (codes "race", others) → (found : List Text) → all_of (codes "files") others ≡ Some found → MOST_FILES < length found → ⊥
      too_many others other_is found found_is more =
          let same_rows : rows ≡ others = one_rows (subcommand_of program_app line) (codes "race") (codes "race") rows others is other_is in
          let same : Some files ≡ Some found = sym all ∙ ap (all_of (codes "files")) same_rows ∙ found_is in
          let len : length files ≡ length found = ap (λ (o : Option (List Text)). option_map_or (λ (l : List Text). length l) o 0) same in
          omega arith

  pub asks_for_nothing : (AskForHelp line → ⊥) → AskForNothing line
  asks_for_nothing help = record { serve = asks_no_serve; keep = asks_no_keep; race = asks_no_race; help = help }
