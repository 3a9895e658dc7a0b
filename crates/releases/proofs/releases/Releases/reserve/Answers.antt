use Rattle.std.proofs.Common.{◌≡◌, ◌∙◌, ◌-◌, ◌<◌, ap, arith, length, min, vec_capacity, vec_len}
use Rattle.releases.proofs.Room.{AreMatching-same, least_room-all, least_room-each, least_room-start, then-on-ok, whole}
use Rattle.releases.proofs.releases.Releases.reserve.Goals as goal

pub returns-in_err-reserve-clause-succeeds : goal.returns-in_err-reserve-clause-succeeds
returns-in_err-reserve-clause-succeeds c =
    rw (← c.self.view_is) (λ pos.
    let start = least_room-start (min (vec_capacity c.self.inside.releases - vec_len c.self.inside.releases) (vec_capacity c.self.inside.rising - vec_len c.self.inside.rising)) c.self.inside.sets.items in
    let full = c.in_err-reserve.ensures.full in
    absurd (omega (arith, pos, start, full)))

pub returns-in_err-reserve-2-clause-succeeds : goal.returns-in_err-reserve-2-clause-succeeds
returns-in_err-reserve-2-clause-succeeds c =
    rw (← c.self.view_is) (λ pos.
    let start = least_room-start (min (vec_capacity c.self.inside.releases - vec_len c.self.inside.releases) (vec_capacity c.self.inside.rising - vec_len c.self.inside.rising)) c.self.inside.sets.items in
    let full = c.in_err-reserve-2.ensures.full in
    absurd (omega (arith, pos, start, full)))

pub invariant_of-self-2 : goal.invariant_of-self-2
invariant_of-self-2 c =
    let count : length c.make_room.new.sets ≡ c.self.inside.sets.len = c.make_room.auto.sets ∙ c.deref_mut.ensures.len in
    let same = rw c.deref_mut.ensures.value at c.make_room.ensures.same in
    let length_same : length c.make_room.new.sets ≡ length c.self.inside.sets.items = c.make_room.auto.sets ∙ ap length c.deref_mut.ensures.value in
    rw (whole c.self.inside.sets.len c.make_room.new.sets c.self.inside.sets.items count, c.in_ok-reserve.ensures.items, c.in_ok-reserve-2.ensures.items) (record {
      few = c.self.invariant.few;
      in_order = c.self.invariant.in_order;
      matching = AreMatching-same _ _ c.self.inside.sets.items c.make_room.new.sets c.self.invariant.matching length_same same;
      bounded = c.self.invariant.bounded;
      plain = c.self.invariant.plain;
    })

pub returns-clause-ok : goal.returns-clause-ok
returns-clause-ok c =
    let count : length c.make_room.new.sets ≡ c.self.inside.sets.len = c.make_room.auto.sets ∙ c.deref_mut.ensures.len in
    let first = c.in_ok-reserve.ensures.ok in
    let second = c.in_ok-reserve-2.ensures.ok in
    let start : 0 < min (vec_capacity c.reserve.new.self - vec_len c.reserve.new.self) (vec_capacity c.reserve-2.new.self - vec_len c.reserve-2.new.self) = omega (arith, first, second) in
    rw (whole c.self.inside.sets.len c.make_room.new.sets c.self.inside.sets.items count)
    (then-on-ok c.make_room.result _ _ (least_room-all _ c.make_room.new.sets start) c.make_room.ensures.room)

pub returns-clause-succeeds : goal.returns-clause-succeeds
returns-clause-succeeds c =
    rw (← c.self.view_is) (λ pos. c.make_room.ensures.succeeds (rw c.deref_mut.ensures.value (least_room-each _ c.self.inside.sets.items pos)))
