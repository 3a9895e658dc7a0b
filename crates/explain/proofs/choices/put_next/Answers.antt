use Rattle.std.proofs.Common.{append_assoc, rules}
use Rattle.std.proofs.lemmas.Result.{IfOk-equal}
use Rattle.explain.proofs.choices.put_next.Goals as goal

pub returns : goal.returns
returns c = IfOk-equal c.put_version.result _ _ _ c.put_version.ensures (search (rules, append_assoc))
