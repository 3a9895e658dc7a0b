use Rattle.std.proofs.Common.{◌∙◌, sym}
use Rattle.releases.proofs.Meeting.{has-meeting}
use Rattle.releases.proofs.tested.Tested.has.Goals as goal

pub returns : goal.returns
returns c = rw (← c.self.view_is) (c.admits.ensures ∙ sym (has-meeting c.self.inside.ranked c.self.inside.need.now c.args.ordinal))
