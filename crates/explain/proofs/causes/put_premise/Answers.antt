use Rattle.std.proofs.Common.{append_assoc, rules}
use Rattle.std.proofs.lemmas.Result.{IfOk-equal}
use Rattle.explain.specs.Explanations.{premise_text}
use Rattle.explain.proofs.causes.put_premise.Goals as goal

pub returns : goal.returns
unfolding premise_text
returns c = IfOk-equal c.put_set.result _ _ _ c.put_set.ensures (search (rules, append_assoc))
