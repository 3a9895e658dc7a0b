use Rattle.std.proofs.Common.{◌∙◌, ap, sym, slice_get}
use Rattle.search.specs.Trail.{last_place}
use Rattle.search.proofs.Noting.{noted-same}
use Rattle.search.proofs.trail.add.Goals as goal

pub returns-in-Err-clause-kept : goal.returns-in-Err-clause-kept
returns-in-Err-clause-kept c =
    let l = c.args.trail.now in (
      noted-same l.made.items c.make_room.new.made.items l.notes.items c.make_room.new.notes.items (λ p. slice_get l.heads.items p) (λ p. slice_get c.make_room.new.heads.items p)
          c.make_room.ensures.made c.make_room.ensures.notes c.make_room.ensures.heads c.requires.kept.0,
      c.requires.kept.1,
      c.make_room.ensures.few c.requires.kept.2,
    )

pub put-requires-clause-kept : goal.put-requires-clause-kept
put-requires-clause-kept c =
    let l = c.args.trail.now in (
      noted-same l.made.items c.make_room.new.made.items l.notes.items c.make_room.new.notes.items (λ p. slice_get l.heads.items p) (λ p. slice_get c.make_room.new.heads.items p)
          c.make_room.ensures.made c.make_room.ensures.notes c.make_room.ensures.heads c.requires.kept.0,
      c.requires.kept.1,
      c.make_room.ensures.few c.requires.kept.2,
    )

pub put-requires-clause-last : goal.put-requires-clause-last
put-requires-clause-last c = c.requires.last ∙ ap (λ xs. last_place xs c.args.a.pkg) (sym c.make_room.ensures.made)
