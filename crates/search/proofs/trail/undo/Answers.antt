use Rattle.std.proofs.Common.{slice_get}
use Rattle.search.proofs.Noting.{some-within, undone, undone-entry}
use Rattle.search.proofs.trail.undo.Goals as goal

pub enter-requires : goal.enter-requires
enter-requires c =
    let l = c.args.trail.now in
    some-within l.heads.items c.unwrap-a.result.pkg (undone-entry l.made.items c.pop.new.self.items l.notes.items c.pop-2.new.self.items (λ q. slice_get l.heads.items q) c.pop.result c.pop-2.result c.unwrap-a.result c.unwrap-note.result
    c.pop.ensures.items c.unwrap-a.ensures c.pop-2.ensures.items c.unwrap-note.ensures c.requires.kept.0)

pub returns-clause-kept : goal.returns-clause-kept
returns-clause-kept c =
    let l = c.args.trail.now in (
      undone l.made.items c.pop.new.self.items l.notes.items c.pop-2.new.self.items (λ q. slice_get l.heads.items q) c.pop.result c.pop-2.result c.unwrap-a.result c.unwrap-note.result
          c.pop.ensures.items c.unwrap-a.ensures c.pop-2.ensures.items c.unwrap-note.ensures c.requires.kept.0
          (λ q. slice_get c.enter.new.heads.items q) c.enter.ensures.own c.enter.ensures.other,
      c.requires.kept.1,
      rw c.enter.ensures.len c.requires.kept.2,
    )
