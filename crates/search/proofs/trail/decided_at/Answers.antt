use Rattle.std.proofs.Common.{slice_get}
use Rattle.search.proofs.Noting.{note-decided}
use Rattle.search.proofs.trail.decided_at.Goals as goal

pub returns-in-Some : goal.returns-in-Some
returns-in-Some c =
    let l = c.args.trail.now in
    rw c.in-Some.is (λ pkg on. note-decided l.made.items l.notes.items (λ p. slice_get l.heads.items p) c.requires.kept.0 c.in-Some.at c.index.result.now c.index.ensures pkg on)
