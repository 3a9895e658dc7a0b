-- Seats that answer lines between calls.
use Rattle.std.specs.Prelude.{◌≡◌, ℕ, ◌+◌, List, [], ◌∷◌, ◌++◌, None}
use Rattle.versions.specs.Words.{Text}
use Rattle.book.specs.declared.item.Item.{Item}
use Rattle.chronicle.specs.Cells.{Cells}
use Rattle.chronicle.specs.Journals.{items_of}
use Rattle.chronicle.specs.Seats.{SeatState}
use Rattle.chronicle.specs.declared.entry.Entry.{Entry}
use Rattle.race.specs.Racing.{fresh_seat}

-- what contracts see of such a seat: the seat, and the line of its last reply, which is empty before the first
pub record SeatedState : Type 0 where
  pub seat : SeatState
  pub reply : Text

-- a seat that has answered nothing
abbrev pub waiting : SeatState → SeatedState
waiting seat = record { seat = seat; reply = [] }

-- seats of a row that have seen and answered nothing, numbered in order from this one on
abbrev pub WaitFrom : ℕ → Cells → List SeatedState → Type 0
WaitFrom number row [] = Unit {0}
WaitFrom number row (seat ∷ seats) = (seat ≡ waiting (fresh_seat row number)) × WaitFrom (number + 1) row seats

-- the seats of a row, numbered from 1, of which the first alone has seen something: these entries
abbrev pub AreFirst : Cells → List Entry → List SeatedState → Type 0
AreFirst row journal [] = ⊥
AreFirst row journal (seat ∷ seats) = (seat ≡ waiting (record { row = row; number = 1; journal = journal; stray = None })) × WaitFrom 2 row seats

-- The seats of one row with so many cells. The first has entered these items, and the others have seen nothing.
pub record AreOpened (capacity : ℕ) (items : List Item) (seats : List SeatedState) : Type 0 where
  pub row : Cells
  pub sized : row.capacity ≡ capacity
  pub journal : List Entry
  pub entered : items_of journal ≡ items
  pub are : AreFirst row journal seats

-- the seat has seen these items behind all that it had, and nothing else; it goes on
pub record Enters (old : SeatState) (items : List Item) (new : SeatState) : Type 0 where
  pub row : new.row ≡ old.row
  pub number : new.number ≡ old.number
  pub stray : old.stray ≡ None → new.stray ≡ None
  pub journal : items_of new.journal ≡ items_of old.journal ++ items
