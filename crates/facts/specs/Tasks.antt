-- What a task may come to, whoever searches.
use Rattle.std.specs.Prelude.{◌≡◌, ◌⊎◌, ℕ, All, List, Option, None, Some, nat_eq}
use Rattle.std.specs.List.{IsDistinct}
use Rattle.std.specs.Map.{keys_of}
use Rattle.versions.specs.declared.refusal.Refusal.{Refusal}
use Rattle.versions.specs.declared.refusal.Refusal.TheVariants as refusal
use Rattle.registry.specs.Selections.{Meets}
use Rattle.derivations.specs.Learning.{AllStand}
use Rattle.derivations.specs.declared.known.CausedIncompatibility.{CausedIncompatibility}
use Rattle.walk.specs.Choosing.{choice_of}
use Rattle.walk.specs.Newest.{IsNewest}
use Rattle.oracle.specs.declared.task.Task.{Task}
use Rattle.facts.specs.Lines.{IsRefusal}

-- each member of the store stands
abbrev pub StoreStands : Task → Type 0
StoreStands task = All (AllStand task.registry.now.packages) task.store.now.members

-- no selection meets the task's request, as the line at this place shows
abbrev pub Refuses : Task → List CausedIncompatibility → ℕ → Type 0
Refuses task known end = IsRefusal task.registry.now.packages task.request.now known end

-- what the list selects meets the request, and each package stands once
pub record IsSelectionList (task : Task) (list : List (ℕ × ℕ)) : Type 0 where
  pub meets : Meets task.registry.now.packages task.request.now (choice_of list)
  pub once : IsDistinct nat_eq (keys_of list)

-- what the list selects is the newest selection of the request, and each package stands once
pub record IsNewestList (task : Task) (list : List (ℕ × ℕ)) : Type 0 where
  pub newest : IsNewest task.registry.now.packages task.request.now (choice_of list)
  pub once : IsDistinct nat_eq (keys_of list)

-- a refusal for lack of memory, or, where there is a budget, since it is spent
abbrev pub MayRefuse : Option ℕ → Refusal → Type 0
MayRefuse None e = e ≡ refusal.NoMemory
MayRefuse (Some budget) e = (e ≡ refusal.NoMemory) ⊎ (e ≡ refusal.BudgetSpent)
