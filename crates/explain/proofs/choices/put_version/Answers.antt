use Rattle.std.proofs.Common.{append_assoc, rules}
use Rattle.std.proofs.lemmas.Result.{IfOk-equal}
use Rattle.explain.proofs.ListedTexts.{unpublished_text}
use Rattle.explain.proofs.choices.put_version.Goals as goal

-- what is not published is told by the mark and the number
pub returns : goal.returns
returns c =
    let none = unpublished_text c.args.registry.now.packages c.args.pkg c.args.ordinal c.in_default.ensures.none in
    IfOk-equal c.put_number.result _ _ _ c.put_number.ensures (rw none (search (rules, append_assoc)))
