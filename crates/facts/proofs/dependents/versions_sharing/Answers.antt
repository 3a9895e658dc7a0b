use Rattle.std.proofs.lemmas.Result.{IfOk-weaker}
use Rattle.facts.specs.Pushing.{AreDependents}
use Rattle.facts.proofs.Pushed.{exactly_dependents}
use Rattle.facts.proofs.dependents.versions_sharing.Goals as goal

pub returns-then-not-branch : goal.returns-then-not-branch
returns-then-not-branch c =
    let packages = c.args.task.now.registry.now.packages in
    IfOk-weaker c.versions_with.result _ (AreDependents packages c.args.pkg c.args.entry.now)
    (λ versions exactly. exactly_dependents packages c.args.pkg c.args.ordinal c.args.entry.now versions exactly c.requires) c.versions_with.ensures
