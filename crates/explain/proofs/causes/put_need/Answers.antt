use Rattle.std.proofs.Common.{append_assoc, rules}
use Rattle.std.proofs.lemmas.Result.{IfOk-equal}
use Rattle.explain.specs.Explanations.{need_text}
use Rattle.explain.proofs.causes.put_need.Goals as goal

pub returns : goal.returns
unfolding need_text
returns c = IfOk-equal c.put_matching.result _ _ _ c.put_matching.ensures (search (rules, append_assoc))
