use Rattle.std.proofs.Common.{◌∙◌, arith, sym}
use Rattle.search.proofs.StillOpen.{found-all, found-nothing, found-one, found-over}
use Rattle.search.proofs.undecided.undecided_in.Goals as goal
use Rattle.search.proofs.undecided.undecided_in.Goals.{then-is_undecided+in_ok-push, else-is_undecided}

pub heads-init : goal.heads-init
heads-init c = rw c.new-found.ensures.items (found-nothing c.args.trail.now.made.items)

pub heads-preserved : goal.heads-preserved
heads-preserved c =
    let made = c.args.trail.now.made.items in
    elim c.if-is_undecided.branch [
      | then-is_undecided+in_ok-push w ↦
          rw (w.found-is, w.in_ok-push.ensures.items) (found-one made c.heads.found.items c.heads.index c.heads.invariant (sym w.if-is_undecided.true ∙ c.is_undecided.ensures))
      | else-is_undecided w ↦ rw w.found-is (found-over made c.heads.found.items c.heads.index c.heads.invariant (sym w.if-is_undecided.false ∙ c.is_undecided.ensures))
    ]

pub returns-clause-exactly : goal.returns-clause-exactly
returns-clause-exactly c =
    let l = c.args.trail.now in
    found-all l.made.items l.notes.items l.heads.items c.heads.found.items c.heads.index c.requires.0 c.heads.invariant (omega (arith, c.heads-test.false, c.len-index-end.ensures))
