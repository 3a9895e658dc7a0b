use Rattle.releases.proofs.Meeting.{copied-meeting}
use Rattle.releases.proofs.tested.Tested.set.Goals as goal

pub returns-clause-same : goal.returns-clause-same
returns-clause-same c =
    rw (← c.self.view_is) (copied-meeting c.same_set.ensures c.self.inside.ranked c.self.inside.need.now c.in_ok-members.members.ordinals c.in_ok-members.ensures
    c.set.result c.set.ensures.same c.set.ensures.ascending)
