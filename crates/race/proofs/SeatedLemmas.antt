-- Seats that answer lines between calls: how they begin.
use Rattle.std.proofs.Common.{◌≡◌, ℕ, ◌+◌, List, [], ◌∷◌, ◌++◌, length, map, length-append, refl, sym, ap, ◌∙◌, arith, Ok, Option, None, ◌≤◌}
use Rattle.std.specs.Prelude.{slice_index_or, slice_set}
use Rattle.std.specs.List.{All}
use Rattle.std.proofs.lemmas.List.{append-nil, append_assoc, length-set, map_push, nil_from_length}
use Rattle.book.specs.declared.item.Item.{Item}
use Rattle.chronicle.specs.Calls.{Enter}
use Rattle.chronicle.specs.Cells.{Cells}
use Rattle.chronicle.specs.Journals.{items_of, looked, next_entry, up_to}
use Rattle.chronicle.specs.Seats.{HasCalled, IsFresh, MayHaveSeen, SeatState}
use Rattle.chronicle.specs.declared.entry.Entry.{Entry}
use Rattle.chronicle.specs.declared.entry.Stamp.{Stamp}
use Rattle.race.specs.Racing.{fresh_seat}
use Rattle.race.specs.Seated.{AreFirst, AreOpened, Enters, WaitFrom, waiting}
use Rattle.race.proofs.RaceLemmas.{SeatsFrom, seats_from}

-- ---- entering

-- a list with nothing behind it is the whole
whole : {A : Type 0} (xs rest ys : List A) → xs ++ rest ≡ ys → length ys ≡ length xs → ys ≡ xs
whole xs rest ys is same = sym is ∙ ap (λ r. xs ++ r) (nil_from_length rest (omega (arith, ap length is, length-append xs rest))) ∙ append-nil xs

-- An item was entered, and then the seat has seen one entry more than before: so nothing of others stands before or behind it.
pub enters_one : (old mid new : SeatState) (item : Item) (stamp : Stamp) → HasCalled old mid (Enter item) (Ok stamp) → MayHaveSeen mid new → new.stray ≡ None
    → length new.journal ≡ length old.journal + 1 → Enters old (item ∷ []) new
enters_one old mid new item stamp called seen clear one =
    let call = called.call in
    let before = call.sees.begins in
    let behind = seen.sees.begins in
    let entry : Entry = next_entry old.number call.seen item in
    let now : mid.journal ≡ call.seen ++ entry ∷ [] = call.now ∙ ap (looked call.seen) call.ends.1 in
    let longer = ap length now in
    let first = ap length before.is in
    let last = ap length behind.is in
    let old_seen : call.seen ≡ old.journal = whole old.journal before.rest call.seen before.is
    (omega (arith, length-append old.journal before.rest, length-append call.seen (entry ∷ []), length-append mid.journal behind.rest)) in
    let new_mid : new.journal ≡ mid.journal = whole mid.journal behind.rest new.journal behind.is
    (omega (arith, length-append old.journal before.rest, length-append call.seen (entry ∷ []), length-append mid.journal behind.rest)) in
    record {
      row = seen.row ∙ called.row;
      number = seen.number ∙ called.number;
      stray = λ none. clear;
      journal = ap items_of (new_mid ∙ now) ∙ (map_push (λ (e : Entry). e.item) call.seen entry ∙ ap (λ (l : List Entry). items_of l ++ item ∷ []) old_seen);
    }

-- nothing was entered
pub enters_none : (seat : SeatState) → Enters seat [] seat
enters_none seat = record { row = refl; number = refl; stray = λ none. none; journal = sym (append-nil (items_of seat.journal)) }

-- one item more was entered
pub enters_more : (old mid new : SeatState) (items : List Item) (item : Item) → Enters old items mid → Enters mid (item ∷ []) new → Enters old (items ++ item ∷ []) new
enters_more old mid new items item front last = record {
  row = last.row ∙ front.row;
  number = last.number ∙ front.number;
  stray = λ none. last.stray (front.stray none);
  journal = last.journal ∙ (ap (λ (l : List Item). l ++ item ∷ []) front.journal ∙ append_assoc (items_of old.journal) items (item ∷ []));
}

-- ---- opening

waits : (k : ℕ) (row : Cells) (seats : List SeatState) → SeatsFrom k row seats → WaitFrom k row (map waiting seats)
waits k row [] from = tt
waits k row (seat ∷ seats) from = (ap waiting from.0, waits (k + 1) row seats from.1)

seat_is : (seat : SeatState) (row : Cells) (number : ℕ) → seat.row ≡ row → seat.number ≡ number → seat.stray ≡ None
    → seat ≡ record { row = row; number = number; journal = seat.journal; stray = None }
seat_is seat row number of is none =
    ap (λ (r : Cells). record { row = r; number = seat.number; journal = seat.journal; stray = seat.stray }) of
    ∙ (ap (λ (n : ℕ). record { row = row; number = n; journal = seat.journal; stray = seat.stray }) is
    ∙ ap (λ (e : Option Entry). record { row = row; number = number; journal = seat.journal; stray = e }) none)

-- the first of the seats of a row has entered these items
first_of : (row : Cells) (seats : List SeatState) (fresh first : SeatState) (items : List Item) → 1 ≤ length seats → SeatsFrom 1 row seats
    → fresh ≡ slice_index_or seats 0 fresh → Enters fresh items first → (journal : List Entry) × (items_of journal ≡ items) × AreFirst row journal (map waiting (slice_set seats 0 first))
first_of row [] fresh first items some from is entered = absurd (omega arith)
first_of row (seat ∷ seats) fresh first items some from is entered =
    let begins : fresh ≡ fresh_seat row 1 = is ∙ from.0 in (
      first.journal,
      entered.journal ∙ ap (λ (s : SeatState). items_of s.journal ++ items) begins,
      (
        ap waiting (seat_is first row 1 (entered.row ∙ ap (λ (s : SeatState). s.row) begins) (entered.number ∙ ap (λ (s : SeatState). s.number) begins) (entered.stray (ap (λ (s : SeatState). s.stray) begins))),
        waits 2 row seats from.1,
      ),
    )

pub opened_by : (capacity n : ℕ) (row : Cells) (seats : List SeatState) (fresh first : SeatState) (items : List Item) → row.capacity ≡ capacity → 1 ≤ n
    → map (λ (s : SeatState). s.number) seats ≡ up_to n → All (λ (s : SeatState). s.row ≡ row) seats → All IsFresh seats
    → fresh ≡ slice_index_or seats 0 fresh → Enters fresh items first → AreOpened capacity items (map waiting (slice_set seats 0 first)) × (length (slice_set seats 0 first) ≡ n)
opened_by capacity n row seats fresh first items sized some numbers rows all is entered =
    let from = seats_from row n seats numbers rows all in
    let opened = first_of row seats fresh first items (omega (arith, from.0)) from.1 is entered in
    (record { row = row; sized = sized; journal = opened.0; entered = opened.1; are = opened.2 }, length-set seats 0 first ∙ from.0)
