-- What is chosen in the order of the walk is reached, so it meets the request where it is checked.
use Rattle.std.proofs.Common.{◌≡◌, ◌<◌, ◌≤◌, ◌+◌, ◌∙◌, ℕ, zero, suc, sym, ap, arith, List, [], inl, inr, length, take}
use Rattle.std.proofs.lemmas.List.{append-nil}
use Rattle.std.proofs.lemmas.Option.{same_Some, slice_get_within}
use Rattle.std.specs.Prelude.{Some, slice_get}
use Rattle.versions.specs.Words.{Text}
use Rattle.registry.specs.Dependencies.{IsDependency}
use Rattle.registry.specs.Laws.{AllowedIsPublished}
use Rattle.registry.specs.Places.{IsPlace}
use Rattle.registry.specs.Registry.{Packages, meets_at, needs_of}
use Rattle.registry.specs.Requests.{Wanted}
use Rattle.registry.specs.declared.place.Place.{Place}
use Rattle.registry.specs.Selections.{Choices, IsReached, Meets, along, needed}
use Rattle.walk.specs.Best.{IsOf}
use Rattle.walk.specs.Choosing.{choice_of}
use Rattle.walk.specs.Newest.{AreBest, AreWalked, IsNewest}
use Rattle.walk.specs.Walks.{AreAllChecked, IsChecked, IsMetAt, MeetsNamed}
use Rattle.walk.proofs.Bests.{best_newest, best_walked}
use Rattle.walk.proofs.Listings.{next_named}
use Rattle.walk.proofs.Lists.{choice-entry, get-taken}
use Rattle.walk.proofs.NewestLaws.{own_choice}
use Rattle.walk.proofs.Steps.{line_met, met_more}

-- ---- what is met

pub met_next : (packages : Packages) (found : List (ℕ × ℕ)) (needs : List (Text × Text)) (i : ℕ) → ((j : ℕ) → j < i → IsMetAt packages (choice_of found) needs j) → IsMetAt packages (choice_of found) needs i
    → (j : ℕ) → j < i + 1 → IsMetAt packages (choice_of found) needs j
met_next packages found needs i before here = met_more packages found found needs i ([], sym (append-nil found)) before here

-- a dependency is met where a version of its package is chosen that meets its requirement
pub dependency_met : (packages : Packages) (p k index target : ℕ) (ordinals : List ℕ) (s : Choices) → IsDependency packages p k index target ordinals → IsOf ordinals (s target) → IsMetAt packages s (needs_of packages p k) index
dependency_met packages p k index target ordinals s d has = line_met packages (needs_of packages p k) index d.name d.need d.at target has.0 s d.number has.1 (sym (d.members has.0) ∙ has.2)

pub placed_met : (packages : Packages) (named : List (List Text)) (p k index : ℕ) (place : Place) (s : Choices) → IsPlace packages named p k index place → (ordinal : ℕ) × (s place.target ≡ Some ordinal) × MeetsNamed packages named place ordinal
    → IsMetAt packages s (needs_of packages p k) index
placed_met packages named p k index place s at has =
    let m = has.2 in
    let same : m.need ≡ at.need = same_Some m.need at.need (sym m.stands ∙ at.stands) in
    line_met packages (needs_of packages p k) index at.name at.need at.at place.target has.0 s at.number has.1 (ap (meets_at packages place.target has.0) (sym same) ∙ m.meeting)

pub checked_all : (packages : Packages) (wanted : Wanted) (found : List (ℕ × ℕ)) (i : ℕ) → length found ≤ i → ((j : ℕ) (e : ℕ × ℕ) → j < i → slice_get found j ≡ Some e → IsChecked packages wanted (choice_of found) e.0 e.1)
    → (p k : ℕ) → choice_of found p ≡ Some k → IsChecked packages wanted (choice_of found) p k
checked_all packages wanted found i all checked p k chosen =
    let place = choice-entry found p k chosen in
    checked place.0 (p, k) (let lt = slice_get_within found place.0 (p, k) place.1 in omega (arith, lt, all)) place.1

-- ---- what is reached

module _ (packages : Packages) (wanted : Wanted) (found : List (ℕ × ℕ)) (walked : AreWalked packages wanted.needs found) where
  abbrev Reached : ℕ → Type 0
  Reached p = IsReached packages wanted.needs (choice_of found) p

  -- a need asks for it, or a version that was chosen before
  here : (i : ℕ) (e : ℕ × ℕ) → slice_get found i ≡ Some e → ((j : ℕ) (x : ℕ × ℕ) → j < i → slice_get found j ≡ Some x → Reached x.0) → Reached e.0
  here i e at before =
      let named = next_named packages wanted.needs (take i found) e.0 (walked i e at) in
      let line = named.0 in
      elim named.3 [
        | inl need ↦ needed e.0 line.0 line.1 need named.1
        | inr on ↦
            let there = get-taken i found on.0 on.1 on.2 in
            along on.1.0 on.1.1 e.0 line.0 line.1 (before on.0 on.1 there.0 there.1) (own_choice packages wanted.needs found walked on.0 on.1 there.1) on.3 named.1
      ]

  before : (n i : ℕ) (e : ℕ × ℕ) → i < n → slice_get found i ≡ Some e → Reached e.0
  before zero i e lt at = absurd (omega arith)
  before (suc n) i e lt at = here i e at (λ j x below there. before n j x (omega (arith, below, lt)) there)

  chosen_reached : (p k : ℕ) → choice_of found p ≡ Some k → Reached p
  chosen_reached p k chosen = let place = choice-entry found p k chosen in before (suc place.0) place.0 (p, k) (omega arith) place.1

  -- ---- where it is checked, it meets the request

  pub checked_meets : AllowedIsPublished → AreAllChecked packages wanted (choice_of found) → Meets packages wanted (choice_of found)
  checked_meets published all = record {
    selection = λ p k chosen. published packages wanted p k (all.checked p k chosen).allowed;
    closed = λ p k name need chosen among. (all.checked p k chosen).met name need among;
    allowed = λ p k chosen. (all.checked p k chosen).allowed;
    needs = all.needs;
    reached = chosen_reached;
  }

pub checked_newest : (packages : Packages) (wanted : Wanted) (found : List (ℕ × ℕ)) → AreBest packages wanted found → AllowedIsPublished → AreAllChecked packages wanted (choice_of found) → IsNewest packages wanted (choice_of found)
checked_newest packages wanted found best published all =
    best_newest packages wanted found (choice_of found) best (λ p k e. e) (checked_meets packages wanted found (best_walked packages wanted found best) published all)
