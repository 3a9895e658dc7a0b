-- The seats of a race: their ways as backends, what they answer, and what a race prints.
use Rattle.std.specs.Prelude.{◌≡◌, ◌⊎◌, ℕ, ◌+◌, ◌-◌, ◌<◌, ◌≤◌, List, [], ◌∷◌, ◌++◌, All, Contains, drop, flat_map, length, map, slice_get, slice_index, take, Ok, Option, Some, None}
use Rattle.std.specs.Io.KnownBytes.{Appends}
use Rattle.versions.specs.Words.{Text}
use Rattle.versions.specs.declared.refusal.Refusal.TheVariants.{Stray}
use Rattle.chronicle.specs.Calls.{Enter}
use Rattle.chronicle.specs.Cells.{Cells}
use Rattle.chronicle.specs.Journals.{Begins, items_of, packages_of, refusal_at, revision_of}
use Rattle.chronicle.specs.Seats.{HasCalled, IsStray, MayHaveSeen, SeatState}
use Rattle.chronicle.specs.declared.entry.Entry.{Entry}
use Rattle.chronicle.specs.declared.entry.Stamp.{Stamp}
use Rattle.chronicle.specs.declared.row.TheConstants.{CAPACITY_LIMIT}
use Rattle.lines.specs.Lines.{lines_of}
use Rattle.lines.specs.Texts.{IsBeginning}
use Rattle.journals.specs.Files.{IsJournalOf}
use Rattle.journals.specs.Logs.{lines_behind}
use Rattle.journals.specs.Saved.{kept, saved_text}
use Rattle.replies.specs.Replies.{Reply, replies_text}
use Rattle.answers.specs.Lawful.{AreLawfulWithin, Ways}
use Rattle.answers.specs.declared.settings.Settings.{Settings}

-- ---- journals

-- the file of a journal, by the names of its packages
abbrev pub file_of : List Entry → Text
file_of journal = saved_text (packages_of journal) (items_of journal)

-- the file of a journal loads again: it is that of its items, less what was left out
abbrev pub Loads : List Entry → Type 0
Loads journal = IsJournalOf (kept (packages_of journal) (items_of journal)) (file_of journal)

-- the lines that the entries behind the first so many have in a journal's file
abbrev pub lines_past : ℕ → List Entry → Text
lines_past from journal = lines_behind (take from (items_of journal)) (drop from (items_of journal))

-- ---- a seat's backend

-- A look may show what others entered. An item that is accepted stands behind all that the seat had seen. A call goes no further where the
-- next cell has an entry of the seat's number that it did not make.
abbrev pub seat_ways : Ways SeatState
seat_ways = record {
  standing = λ seat. record { revision = revision_of seat.journal; stamp = Some (record { place = length seat.journal; seat = seat.number }) };
  packages = λ seat. packages_of seat.journal;
  looks = MayHaveSeen;
  enters = λ old i new. (stamp : Stamp) × HasCalled old new (Enter i) (Ok stamp);
  refusal = λ seat i. refusal_at seat.row.capacity seat.journal i;
  halts = λ seat refusal. (refusal ≡ Stray) × IsStray seat;
}

-- the seat of a row with this number, before it has seen anything
abbrev pub fresh_seat : Cells → ℕ → SeatState
fresh_seat row number = record { row = row; number = number; journal = []; stray = None }

-- ---- files

-- These may be the replies to a file's lines within such settings by the seat of the row with this number, which has then seen these entries.
pub record IsRun (settings : Settings) (row : Cells) (number : ℕ) (file : Text) (replies : List Reply) (seen : List Entry) : Type 0 where
  pub end : SeatState
  pub session : AreLawfulWithin settings seat_ways (lines_of file) (fresh_seat row number) replies end
  pub journal : seen ≡ end.journal

-- Each file has its replies, by seats that are numbered in order from this one on, and each of these has then seen its entries.
abbrev pub AreRun : Settings → Cells → ℕ → List Text → List (List Reply) → List (List Entry) → Type 0
AreRun settings row number [] [] [] = Unit {0}
AreRun settings row number (file ∷ files) (replies ∷ rest) (seen ∷ others) = IsRun settings row number file replies seen × AreRun settings row (number + 1) files rest others
AreRun settings row number [] [] (seen ∷ others) = ⊥
AreRun settings row number [] (replies ∷ rest) all = ⊥
AreRun settings row number (file ∷ files) [] all = ⊥
AreRun settings row number (file ∷ files) (replies ∷ rest) [] = ⊥

-- the seat with this number came further than this place, where the seats came to these, in order of their numbers, which begin with 1
abbrev pub IsOwn : List ℕ → ℕ → ℕ → Type 0
IsOwn places seat at = (1 ≤ seat) × (at < slice_index places (seat - 1))

-- each entry was seen by the seat whose number it bears
abbrev pub AreOwn : List ℕ → List Entry → Type 0
AreOwn places journal = (k : ℕ) (e : Entry) → slice_get journal k ≡ Some e → IsOwn places e.seat k

-- There is a row of so many cells, and each file has its replies within such settings by a seat of it, which has seen a beginning of the journal, and in that
-- each entry that bears its number. Unless the journal is empty, one of them has seen all of it.
pub record IsRace (settings : Settings) (files : List Text) (journal : List Entry) (replies : List (List Reply)) : Type 0 where
  pub row : Cells
  pub sized : row.capacity ≡ CAPACITY_LIMIT
  pub seen : List (List Entry)
  pub runs : AreRun settings row 1 files replies seen
  pub begins : All (λ (entries : List Entry). Begins entries journal) seen
  pub own : AreOwn (map length seen) journal
  pub whole : (journal ≡ []) ⊎ Contains seen journal

-- ---- what is printed

-- the replies, seat by seat, and then the file of the journal
abbrev pub race_text : List (List Reply) → List Entry → Text
race_text replies journal = flat_map replies_text replies ++ file_of journal

-- There is one journal, of which each seat has seen a beginning and one has seen all, each file's lines have their lawful replies within such settings, and what
-- was written is these replies and the journal, whose file loads again.
pub record Races (settings : Settings) (written_before written_after : Option (List ℕ)) (files : List Text) : Type 0 where
  pub journal : List Entry
  pub replies : List (List Reply)
  pub raced : IsRace settings files journal replies
  pub loads : Loads journal
  pub written : Appends written_before written_after (race_text replies journal)

-- The same, but that a beginning alone of these replies and the journal was written.
pub record RacesInPart (settings : Settings) (written_before written_after : Option (List ℕ)) (files : List Text) : Type 0 where
  pub journal : List Entry
  pub replies : List (List Reply)
  pub raced : IsRace settings files journal replies
  pub text : List ℕ
  pub written : Appends written_before written_after text
  pub beginning : IsBeginning text (race_text replies journal)
