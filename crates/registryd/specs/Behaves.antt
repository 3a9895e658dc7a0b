-- What the program does for its words: what it reads and writes, and how it ends.
use Rattle.std.specs.Prelude.{◌≡◌, ◌⊎◌, ◌++◌, ℕ, List, [], Option, None, length, IsSome}
use Rattle.std.specs.Io.KnownBytes.{Appends, IsAtEnd, Keeps}
use Rattle.versions.specs.Words.{Text}
use Rattle.lines.specs.Lines.{lines_of, whole_lines_of}
use Rattle.lines.specs.Texts.{IsBeginning}
use Rattle.answers.specs.declared.settings.Settings.{Settings}
use Rattle.session.specs.Session.{Breaks, Serves}
use Rattle.session.specs.Step.{State}
use Rattle.session.specs.Streams.{AreUntouched, Streams}
use Rattle.command_line.specs.Words.{AskForHelp, AskToKeep, AskToRace, AskToServe, MayAskForHelp}
use Rattle.race.specs.Racing.{Races, RacesInPart}
use Rattle.registryd.specs.Calls.{Io}
use Rattle.registryd.specs.CommandOutcomes.{Backed, Ends, IsFaultIn, MayBegin, Stops}
use Rattle.registryd.specs.Ending.{status_of, text_of}
use Rattle.registryd.specs.Shown.{shown_text}
use Rattle.registryd.specs.declared.ends.End.{End}
use Rattle.registryd.specs.declared.ends.End.TheVariants.{Done, Input, Output, Journal, Kept, Memory, Words}

-- ---- a session

-- all lines that were read have their replies, and what was read is at its end
abbrev pub AllServed : Settings → State → Streams → Type 0
AllServed settings begun s = IsAtEnd s.read_after × Serves settings s lines_of begun

-- A session that began there, by how it ends. Where a read fails, each whole line has its reply; where a write fails, a beginning of the
-- replies is written, or all of them, and the journal is not saved.
abbrev pub HasServed : Settings → State → Streams → End → Type 0
HasServed settings begun s Done = AllServed settings begun s
HasServed settings begun s Input = Serves settings s whole_lines_of begun
HasServed settings begun s Output = Breaks settings s begun ⊎ AllServed settings begun s
HasServed settings begun s Memory = AreUntouched s
HasServed settings begun s (Journal line) = ⊥
HasServed settings begun s (Kept fault) = ⊥
HasServed settings begun s Words = ⊥

-- The journal to begin from isn't had, by how the program ends: a line of it is at fault, it can't be read, or there is no memory.
abbrev pub IsUnloaded : {F : Type 0} → (F → Option (List ℕ)) → End → Type 0
IsUnloaded remaining (Journal line) = IsFaultIn remaining line
IsUnloaded remaining Input = Unit {0}
IsUnloaded remaining Memory = Unit {0}
IsUnloaded remaining Done = ⊥
IsUnloaded remaining Output = ⊥
IsUnloaded remaining (Kept fault) = ⊥
IsUnloaded remaining Words = ⊥

-- A session from the journal's file of this name, or from nothing; or that file isn't had.
abbrev pub HasServedFrom : {F : Type 0} → (F → Option (List ℕ)) → Settings → Option Text → Streams → End → Type 0
HasServedFrom remaining settings load s end = ((begun : State) × MayBegin remaining load begun × HasServed settings begun s end)
    ⊎ (IsSome load × IsUnloaded remaining end × AreUntouched s)

-- A session whose journal is kept in the file of this name, by how it ends. Something may be the matter with that file, before the session
-- or amid it. What went out by then rests on what is durable.
abbrev pub HasKept : {F : Type 0} → Settings → Text → Io F → End → Type 0
HasKept settings journal io Done = Ends settings io
HasKept settings journal io Input = Stops settings io
HasKept settings journal io Output = Backed settings io
HasKept settings journal io (Kept fault) = (fault.name.items ≡ shown_text journal) × (AreUntouched io.streams ⊎ Backed settings io)
HasKept settings journal io Memory = AreUntouched io.streams
HasKept settings journal io (Journal line) = ⊥
HasKept settings journal io Words = ⊥

-- ---- a race

-- a race has no budget of its own
abbrev pub race_settings : Settings
race_settings = record { budget = None }

-- A race of so many files, by how it ends, and what its writer had and has.
abbrev pub HasRaced : ℕ → Option (List ℕ) → Option (List ℕ) → End → Type 0
HasRaced count before after Done = (files : List Text) × (length files ≡ count) × Races race_settings before after files
HasRaced count before after Output = Keeps before after ⊎ ((files : List Text) × (length files ≡ count) × RacesInPart race_settings before after files)
HasRaced count before after Input = Keeps before after
HasRaced count before after Memory = Keeps before after
HasRaced count before after (Journal line) = ⊥
HasRaced count before after (Kept fault) = ⊥
HasRaced count before after Words = ⊥

-- ---- help

-- Help is written, or a beginning of it: of that no clause says what it tells.
abbrev pub HasHelped : Option (List ℕ) → Option (List ℕ) → End → Type 0
HasHelped before after Done = (text : List ℕ) × Appends before after text
HasHelped before after Output = (text : List ℕ) × Appends before after text
HasHelped before after Memory = Keeps before after
HasHelped before after Input = ⊥
HasHelped before after (Journal line) = ⊥
HasHelped before after (Kept fault) = ⊥
HasHelped before after Words = ⊥

-- ---- the program

-- The words ask neither to serve nor for a race, nor for help.
pub record AskForNothing (words : List Text) : Type 0 where
  pub serve : (budget : Option ℕ) (load save : Option Text) → AskToServe words budget load save → ⊥
  pub keep : (budget : Option ℕ) (journal : Text) → AskToKeep words budget journal → ⊥
  pub race : (count : ℕ) → AskToRace words count → ⊥
  pub help : AskForHelp words → ⊥

-- What the words ask for was done so, as far as it went.
pub data Behaves {F : Type 0} (words : List Text) (io : Io F) (end : End) : Type 0 where
  serves : (settings : Settings) (load save : Option Text) → AskToServe words settings.budget load save
      → HasServedFrom io.files.remaining settings load io.streams end → Behaves words io end
  keeps : (settings : Settings) (journal : Text) → AskToKeep words settings.budget journal → HasKept settings journal io end → Behaves words io end
  races : (count : ℕ) → AskToRace words count → Keeps io.streams.read_before io.streams.read_after
      → HasRaced count io.streams.written_before io.streams.written_after end → Behaves words io end
  helps : MayAskForHelp words → Keeps io.streams.read_before io.streams.read_after
      → HasHelped io.streams.written_before io.streams.written_after end → Behaves words io end
  refuses : AskForNothing words → end ≡ Words → AreUntouched io.streams → Behaves words io end
  lacks_memory : end ≡ Memory → AreUntouched io.streams → Behaves words io end

-- ---- standard error

-- Advice is written, where the words ask for nothing: of that no clause says what it tells.
abbrev pub Advises : Option (List ℕ) → Option (List ℕ) → End → Type 0
Advises before after end = (advice : List ℕ) × ((advice ≡ []) ⊎ (end ≡ Words)) × Appends before after advice

-- What is written on standard error: what is wrong in the words, where they ask for nothing, and the line that tells the end, or a
-- beginning of that.
pub record Tells (before after : Option (List ℕ)) (end : End) : Type 0 where
  pub advice : List ℕ
  pub only : (advice ≡ []) ⊎ (end ≡ Words)
  pub line : List ℕ
  pub beginning : IsBeginning line (text_of end)
  pub written : Appends before after (advice ++ line)

-- The program did what its words ask for, told how that ended, and gave the status of that.
pub record Ran {F : Type 0} (words : List Text) (io : Io F) (told_before told_after : Option (List ℕ)) (status : ℕ) : Type 0 where
  pub end : End
  pub behaves : Behaves words io end
  pub tells : Tells told_before told_after end
  pub status_is : status ≡ status_of end
