-- The set that the registry finds is the one of the definition.
use Rattle.std.proofs.Common.{ap, ◌++◌, List, ℕ}
use Rattle.std.proofs.lemmas.Result.{IfOk-equal}
use Rattle.std.specs.Prelude.{string_bytes}
use Rattle.explain.specs.Choices.{set_text}
use Rattle.explain.proofs.causes.put_met.Goals as goal

pub returns : goal.returns
returns c =
    IfOk-equal c.put_set.result _ _ _ c.put_set.ensures
    (ap (λ (set : List ℕ). string_bytes c.args.text.now ++ set_text c.args.registry.now.packages c.args.pkg set) c.in_ok-matching.ensures.set)
