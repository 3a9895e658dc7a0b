use Rattle.std.proofs.Common.{◌≡◌, ◌∙◌, slice_get, length, rules}
use Rattle.search.specs.declared.trail.Note.{Note}
use Rattle.search.specs.Assignments.{decided, decided_by}
use Rattle.std.specs.Option.{option_or}
use Rattle.search.specs.Trail.{IsNote}
use Rattle.search.proofs.Places.{last-within}
use Rattle.search.proofs.Noting.{added, decided-kept, decided-new, new-note}
use Rattle.search.proofs.trail.put.Goals as goal
use Rattle.search.proofs.trail.put.Goals.{in-Decided, in-Derived}

pub decided_at-decided-requires-clause-within : goal.decided_at-decided-requires-clause-within
decided_at-decided-requires-clause-within c = rw c.requires.last (last-within c.args.trail.now.made.items c.args.a.pkg)

pub returns-clause-kept : goal.returns-clause-kept
returns-clause-kept c =
    let l = c.args.trail.now in
    let a = c.args.a in
    let last = c.args.last in
    let note : Note = record { said = c.args.said; decided = c.match-a.decided; earlier = last; jump = c.jump_from-jump.result } in
    let decides : c.match-a.decided ≡ option_or (decided l.made.items a.pkg) (decided_by a.why) = elim c.match-a.branch [
      | in-Decided w ↦ decided-new l.made.items a.pkg w.in-Decided.ordinal a.why c.match-a.decided w.in-Decided.is w.decided-is c.requires.once
      | in-Derived w ↦
          decided-kept l.made.items a.pkg w.in-Derived.field-0 a.why last c.match-a.decided w.in-Derived.is c.requires.last (λ q on. w.decided-is ∙ w.decided_at-decided.ensures q on)
    ] in
    let new : IsNote l.made.items a note = new-note l.made.items a note c.requires.said decides c.requires.last in
    let place : c.len-place.result ≡ length l.made.items = search rules in (
      added l.made.items c.push-2.new.self.items l.notes.items c.push.new.self.items (λ p. slice_get l.heads.items p) (λ p. slice_get c.enter.new.heads.items p) a note c.len-place.result
          (rw c.unwrap-2.ensures at c.push-2.ensures.items) (rw c.unwrap.ensures at c.push.ensures.items) c.requires.kept.0 new place c.enter.ensures.own c.enter.ensures.other,
      c.requires.kept.1,
      rw c.enter.ensures.len c.requires.kept.2,
    )
