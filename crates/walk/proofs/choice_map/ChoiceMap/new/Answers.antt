use Rattle.std.proofs.Common.{◌∙◌, ℕ, List, ap, sym}
use Rattle.walk.specs.Choosing.{choice_of}
use Rattle.walk.proofs.Choices.{once_none}
use Rattle.walk.proofs.choice_map.ChoiceMap.new.Goals as goal

pub invariant_of-result : goal.invariant_of-result
invariant_of-result c =
    let entries = c.in_ok-with_capacity.field-0.items in
    let none = c.in_ok-with_capacity.ensures.items in
    (once_none entries none, λ p. c.in_ok-ordinals.ensures p ∙ sym (ap (λ (l : List (ℕ × ℕ)). choice_of l p) none))
