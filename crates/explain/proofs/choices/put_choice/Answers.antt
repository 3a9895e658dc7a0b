use Rattle.std.proofs.Common.{◌∙◌, append_assoc, rules, sym}
use Rattle.std.proofs.lemmas.Result.{IfOk-equal}
use Rattle.explain.proofs.ChoiceTexts.{name-alone, name-and-set}
use Rattle.explain.proofs.choices.put_choice.Goals as goal

pub returns-then-is_request : goal.returns-then-is_request
returns-then-is_request c =
    rw (name-alone c.args.registry.now.packages c.args.pkg c.args.set.now (sym c.is_request.ensures ∙ c.if-is_request.true)) (search (rules, append_assoc))

pub returns : goal.returns
returns c =
    IfOk-equal c.put_set.result _ _ _ c.put_set.ensures
    (rw (name-and-set c.args.registry.now.packages c.args.pkg c.args.set.now (sym c.is_request.ensures ∙ c.if-is_request.false)) (search (rules, append_assoc)))
