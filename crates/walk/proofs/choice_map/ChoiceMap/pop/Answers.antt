use Rattle.std.proofs.Common.{◌≡◌, ◌∙◌, ◌++◌, ◌∷◌, [], ℕ, List, ap, nat_eq, if◌then◌else◌, refl, subst}
use Rattle.std.specs.List.{IsDistinct}
use Rattle.std.specs.Map.{keys_of}
use Rattle.std.specs.Prelude.{None, Option}
use Rattle.walk.specs.Choosing.{choice_of}
use Rattle.walk.proofs.Choices.{choice_popped, once_popped}
use Rattle.walk.proofs.choice_map.ChoiceMap.pop.Goals as goal

pub invariant_of-self : goal.invariant_of-self
invariant_of-self c =
    let left = c.pop.new.self.items in
    let last : ℕ × ℕ = (c.in-Some.pkg, c.in-Some.field-0-1) in
    let is : c.self.inside.entries.items ≡ left ++ last ∷ [] = c.in-Some.ensures.items in
    let once = subst (λ (l : List (ℕ × ℕ)). IsDistinct nat_eq (keys_of l)) is c.self.invariant.0 in (
      once_popped left last once,
      λ p. c.set_back.ensures refl p
          ∙ ap (λ (x : Option ℕ). if nat_eq p last.0 then None else x) (c.self.invariant.1 p ∙ ap (λ (l : List (ℕ × ℕ)). choice_of l p) is)
          ∙ choice_popped left last once p,
    )
