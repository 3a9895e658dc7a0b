use Rattle.std.proofs.Common.{◌≡◌, ◌-◌, ◌<◌, ◌∙◌, ap, arith, length, sym, true, true≢false, min, vec_capacity, vec_len}
use Rattle.versions.specs.Bounds.{IsPlain}
use Rattle.releases.specs.Kept.{Listing}
use Rattle.releases.specs.Releases.{has_version, versions_of}
use Rattle.releases.proofs.Publishing.{IsKept-published}
use Rattle.releases.proofs.Room.{least_room-each, least_room-start, whole}
use Rattle.releases.proofs.releases.Releases.push.Goals as goal
use Rattle.releases.proofs.releases.Releases.push.Goals.{then-self, else-self}

pub keep_up-requires-clause-matching : goal.keep_up-requires-clause-matching
keep_up-requires-clause-matching c = rw (c.deref.ensures.value, c.as_slice.ensures.keys, c.deref_mut.ensures.value) c.self.invariant.matching

pub keep_up-requires-clause-bounds : goal.keep_up-requires-clause-bounds
keep_up-requires-clause-bounds c = rw (c.as_slice.ensures.keys, c.deref-2.ensures.value) c.self.invariant.bounded

pub keep_up-requires-clause-room : goal.keep_up-requires-clause-room
keep_up-requires-clause-room c =
    let pos = rw (← c.self.view_is) at c.requires.room in
    rw c.deref_mut.ensures.value (least_room-each _ c.self.inside.sets.items pos)

pub raise-requires-clause-in_order : goal.raise-requires-clause-in_order
raise-requires-clause-in_order c = rw c.deref-3.ensures.value c.self.invariant.in_order

pub raise-requires-clause-new : goal.raise-requires-clause-new
raise-requires-clause-new c =
    ap (λ l. has_version (versions_of l) c.args.version) (c.deref-3.ensures.value ∙ ap (λ (l : Listing). l.releases) c.self.view_is) ∙ c.requires.new

pub raise-requires-clause-room : goal.raise-requires-clause-room
raise-requires-clause-room c =
    let pos = rw (← c.self.view_is) at c.requires.room in
    let start = least_room-start (min (vec_capacity c.self.inside.releases - vec_len c.self.inside.releases) (vec_capacity c.self.inside.rising - vec_len c.self.inside.rising)) c.self.inside.sets.items in
    omega (arith, pos, start)

pub unwrap-requires : goal.unwrap-requires
unwrap-requires c =
    let pos = rw (← c.self.view_is) at c.requires.room in
    let start = least_room-start (min (vec_capacity c.self.inside.releases - vec_len c.self.inside.releases) (vec_capacity c.self.inside.rising - vec_len c.self.inside.rising)) c.self.inside.sets.items in
    let room : vec_len c.self.inside.releases < vec_capacity c.self.inside.releases = omega (arith, pos, start) in
    c.push.ensures.succeeds room

pub invariant_of-self : goal.invariant_of-self
invariant_of-self c =
    let after = rw c.unwrap.ensures at c.push.ensures.items in
    let count : length c.keep_up.new.sets ≡ c.self.inside.sets.len = c.keep_up.auto.sets ∙ c.deref_mut.ensures.len in
    let few = rw (← c.self.view_is) at c.requires.few in
    let in_order = rw c.deref-3.ensures.value at c.raise.ensures in
    let matching = rw (c.deref.ensures.value, c.as_slice.ensures.keys) at c.keep_up.ensures in
    let both : c.if-self.self ≡ true → (c.self.inside.is_plain ≡ true) × IsPlain c.args.version = elim c.if-self.branch [
      | then-self w ↦ λ h. (w.if-self.true, w.is_plain-self-inside.ensures.0 (sym w.self-is ∙ h))
      | else-self w ↦ λ h. absurd (true≢false (sym h ∙ w.self-is ∙ w.if-self.false))
    ] in
    rw (whole c.self.inside.sets.len c.keep_up.new.sets c.self.inside.sets.items count)
    (IsKept-published c.self.inside.releases.items _ c.args.version _ _ _ _ c.self.inside.is_plain c.if-self.self after few in_order matching
    c.self.invariant.bounded c.self.invariant.plain both)
