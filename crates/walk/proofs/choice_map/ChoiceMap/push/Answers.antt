use Rattle.std.proofs.Common.{◌≡◌, ◌∙◌, ◌++◌, ◌∷◌, [], ℕ, List, ap, nat_eq, if◌then◌else◌, subst, sym}
use Rattle.std.specs.List.{IsDistinct}
use Rattle.std.specs.Map.{keys_of}
use Rattle.std.specs.Prelude.{None, Option, Some}
use Rattle.walk.specs.Choosing.{choice_of}
use Rattle.walk.specs.Pages.{ChosenEntries}
use Rattle.walk.proofs.Choices.{choice_pushed, once_pushed}
use Rattle.walk.proofs.choice_map.ChoiceMap.push.Goals as goal

pub invariant_of-self-2 : goal.invariant_of-self-2
invariant_of-self-2 c =
    let entries = c.self.inside.entries.items in
    let pkg = c.args.pkg in
    let none : choice_of entries pkg ≡ None = subst (λ (m : ChosenEntries). choice_of m.entries pkg ≡ None) (sym c.self.view_is) c.requires in
    let pushed : c.push_reserved.new.self.items ≡ entries ++ (pkg, c.args.ordinal) ∷ [] = c.push_reserved.ensures.items ∙ ap (λ (l : List (ℕ × ℕ)). l ++ (pkg, c.args.ordinal) ∷ []) c.reserve.ensures.items in (
      subst (λ (l : List (ℕ × ℕ)). IsDistinct nat_eq (keys_of l)) (sym pushed) (once_pushed entries pkg c.args.ordinal c.self.invariant.0 none),
      λ p. c.in_ok-set.ensures.ok p
          ∙ ap (λ (x : Option ℕ). if nat_eq p pkg then Some c.args.ordinal else x) (c.self.invariant.1 p)
          ∙ sym (choice_pushed entries pkg c.args.ordinal none p)
          ∙ ap (λ (l : List (ℕ × ℕ)). choice_of l p) (sym pushed),
    )
