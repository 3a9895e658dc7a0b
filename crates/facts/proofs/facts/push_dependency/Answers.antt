use Rattle.std.proofs.lemmas.Result.{IfOk-from_err}
use Rattle.facts.proofs.Pushed.{premise_stands}
use Rattle.facts.proofs.facts.push_dependency.Goals as goal

pub push_premise-requires : goal.push_premise-requires
push_premise-requires c =
    rw c.in_ok-clone.ensures.cases (premise_stands c.args.task.now.registry.now.packages
    (record { «package» = c.args.pkg; versions = c.args.versions; target = c.args.target; need = c.args.entry.now.1; within = c.args.within })
    c.args.entry.now.0 c.requires.apart c.requires.numbered c.requires.dependents c.requires.within)

-- where memory is refused

pub returns-in_err-clone : goal.returns-in_err-clone
returns-in_err-clone c = let failed = c.from_residual in record { extends = IfOk-from_err failed.result _ failed.ensures.0; place = IfOk-from_err failed.result _ failed.ensures.0 }
