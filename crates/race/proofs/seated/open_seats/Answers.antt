use Rattle.std.proofs.Common.{◌≡◌, ◌∙◌, ap, arith, length, map, slice_set, subst, sym}
use Rattle.std.proofs.lemmas.List.{length-map}
use Rattle.race.specs.Seated.{AreOpened, waiting}
use Rattle.race.proofs.SeatedLemmas.{opened_by}
use Rattle.race.proofs.seated.open_seats.Goals.{After-drop-row-inside-2}
use Rattle.race.proofs.seated.open_seats.Goals as goal

opened : (c : After-drop-row-inside-2) → AreOpened c.args.capacity c.args.items.items (map waiting (slice_set c.in_ok-all.all.items 0 c.enter_all.new.seat))
    × (length (slice_set c.in_ok-all.all.items 0 c.enter_all.new.seat) ≡ c.args.count)
opened c =
    let all = c.in_ok-all.ensures in
    opened_by c.args.capacity c.args.count c.in_ok-row.row c.in_ok-all.all.items c.index_mut.result.now c.enter_all.new.seat c.args.items.items
    c.in_ok-row.ensures.capacity c.requires.some all.numbers all.row all.fresh c.index_mut.ensures.value c.in_ok-enter_all.ensures.entered

pub returns-clause-opened : goal.returns-clause-opened
returns-clause-opened c = subst (AreOpened c.args.capacity c.args.items.items) (sym c.in_ok-seat_all.ensures) (opened c).0

pub returns-clause-count : goal.returns-clause-count
returns-clause-count c =
    let all = c.in_ok-seat_all.field-0 in
    let count : length all.items ≡ c.args.count = sym (length-map all.items (λ b. b.value)) ∙ ap length c.in_ok-seat_all.ensures ∙ length-map _ waiting ∙ (opened c).1 in
    omega (arith, all.ok)
