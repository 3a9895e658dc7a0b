-- A list in the order of the walk, to whose end nothing comes next, is the whole of a selection.
use Rattle.std.proofs.Common.{◌≡◌, ◌∙◌, ℕ, refl, sym, ap, List, ◌++◌}
use Rattle.std.proofs.lemmas.List.Elements.{Contains-append_left, Contains-append_right}
use Rattle.std.proofs.lemmas.List.Sorted.{Contains-permutation}
use Rattle.std.proofs.lemmas.Option.{none-some, same_Some}
use Rattle.std.specs.Prelude.{None, Option, Some, slice_get}
use Rattle.versions.specs.Words.{Text}
use Rattle.registry.specs.Registry.{Packages, needs_of}
use Rattle.registry.specs.Requests.{Wanted}
use Rattle.registry.specs.Selections.{Choices, Meets}
use Rattle.walk.specs.Choosing.{choice_of}
use Rattle.walk.specs.Listing.{AllPassed, IsListing}
use Rattle.walk.specs.Newest.{dependencies_of, in_name_order, next_package}
use Rattle.walk.proofs.Listings.{depended, none_first, ordered}
use Rattle.walk.proofs.Lists.{choice-entry, contains_at, get-contains}
use Rattle.walk.proofs.NewestPreferred.{holds-reached}

pub nothing-next : (packages : Packages) (needs : List (Text × Text)) (list : List (ℕ × ℕ)) → next_package packages needs list ≡ None
    → AllPassed packages list needs × ((i : ℕ) (e : ℕ × ℕ) → slice_get list i ≡ Some e → AllPassed packages list (needs_of packages e.0 e.1))
nothing-next packages needs list none =
    let passed = none_first packages list (in_name_order needs ++ dependencies_of packages list) none in (
      λ j line at.
          passed line (Contains-append_left (in_name_order needs) (dependencies_of packages list) line (Contains-permutation needs (in_name_order needs) line (ordered needs) (get-contains needs j line at))),
      λ i e here j line at.
          passed line (Contains-append_right (in_name_order needs) (dependencies_of packages list) line (depended packages list i e line here (get-contains (needs_of packages e.0 e.1) j line at))),
    )

module _ (packages : Packages) (wanted : Wanted) (s : Choices) (found : List (ℕ × ℕ)) (listing : IsListing packages wanted.needs s found) (ended : next_package packages wanted.needs found ≡ None) (meets : Meets packages wanted s) where
  listed_has : (p k : ℕ) → choice_of found p ≡ Some k → s p ≡ Some k
  listed_has p k chosen = let place = choice-entry found p k chosen in listing.chosen place.0 (p, k) place.1

  found_reached : (p : ℕ) → (k : ℕ) × (s p ≡ Some k) → (k : ℕ) × (choice_of found p ≡ Some k)
  found_reached p has = holds-reached packages wanted.needs s (λ q. (k : ℕ) × (choice_of found q ≡ Some k))
      (λ q name need among numbered.
      let at = contains_at wanted.needs (name, need) among in
      (nothing-next packages wanted.needs found ended).0 at.0 (name, need) at.1 q numbered)
      (λ from k to name need here chosen among numbered.
      let same : here.0 ≡ k = same_Some here.0 k (sym (listed_has from here.0 here.1) ∙ chosen) in
      let place = choice-entry found from k (here.1 ∙ ap Some same) in
      let at = contains_at (needs_of packages from k) (name, need) among in
      (nothing-next packages wanted.needs found ended).1 place.0 (from, k) place.1 at.0 (name, need) at.1 to numbered)
      p (meets.reached p has.0 has.1)

  pub whole : (p : ℕ) → choice_of found p ≡ s p
  whole p = by (choice_of found p) (s p) refl refl
    where
      by : (a b : Option ℕ) → choice_of found p ≡ a → s p ≡ b → a ≡ b
      by None None e f = refl
      by None (Some k) e f = let here = found_reached p (k, f) in absurd (none-some here.0 (sym e ∙ here.1))
      by (Some k) b e f = sym (listed_has p k e) ∙ f
