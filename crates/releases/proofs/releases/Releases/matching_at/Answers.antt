use Rattle.std.proofs.Common.{◌∙◌, ap}
use Rattle.versions.specs.Words.{Text}
use Rattle.releases.specs.Releases.{meets_at, versions_of}
use Rattle.releases.proofs.releases.Releases.matching_at.Goals as goal

pub returns-in-Some-clause-members : goal.returns-in-Some-clause-members
returns-in-Some-clause-members c = λ k.
    c.lent.ensures k ∙ ap (λ (t : Text). meets_at (versions_of c.args.self.now.releases) t k) c.in-Some.ensures.same
