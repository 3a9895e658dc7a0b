use Rattle.walk.proofs.Bests.{all_alike, published_within}
use Rattle.walk.proofs.meeting.are_alike.Goals as goal

pub returns : goal.returns
returns c = λ yes k published.
    let packages = c.args.registry.now.packages in
    all_alike packages c.args.pkg (c.is_alike.ensures.0 yes) k (published_within packages c.args.pkg k published)
