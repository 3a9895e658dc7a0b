-- That there is one list in the order of the walk, and what it selects.
use Rattle.std.proofs.Common.{◌≡◌, ◌≤◌, ◌<◌, ◌∙◌, ℕ, zero, suc, refl, sym, ap, arith, inl, inr, List, [], ◌∷◌, take, true, true≢false}
use Rattle.std.proofs.lemmas.Bool.{cases_Bool}
use Rattle.std.proofs.lemmas.Option.{none-some, same_Some}
use Rattle.std.specs.Prelude.{None, Option, Some, is_some, slice_get}
use Rattle.versions.specs.Words.{Text}
use Rattle.registry.specs.Registry.{Packages, is_named, number_from, number_of, package_at, publication_at}
use Rattle.registry.specs.Requests.{Wanted}
use Rattle.registry.specs.Selections.{Choices, Meets}
use Rattle.walk.specs.Choosing.{Follows, choice_of}
use Rattle.walk.specs.declared.listing.NextPackage.{NextPackage}
use Rattle.walk.specs.Listing.{AreAll, EndsWith, IsListing}
use Rattle.walk.specs.Newest.{next_package}
use Rattle.walk.proofs.Listings.{next_named}
use Rattle.walk.proofs.Lists.{choice-entry, get-taken}
use Rattle.walk.proofs.NewestLaws.{same_lists}
use Rattle.walk.proofs.NewestPreferred.{next_met}

-- ---- numbers

number_from-least : (n : ℕ) (packages : Packages) (name : Text) (p : ℕ) → number_from n packages name ≡ Some p → n ≤ p
number_from-least n [] name p e = absurd (none-some p e)
number_from-least n (pack ∷ rest) name p e = elim (cases_Bool (is_named name pack)) [
  | inl t ↦ let same : n ≡ p = same_Some n p (rw t at e) in omega (arith, same)
  | inr f ↦ let later : suc n ≤ p = number_from-least (suc n) rest name p (rw f at e) in omega (arith, later)
]

numbered : (packages : Packages) (name : Text) (p : ℕ) → number_of packages name ≡ Some p → 1 ≤ p
unfolding number_of
numbered packages name p e = number_from-least 1 packages name p e

published_numbered : (packages : Packages) (p k : ℕ) → is_some (publication_at packages p k) ≡ true → 1 ≤ p
unfolding publication_at package_at
published_numbered packages zero k e = absurd (true≢false (sym e))
published_numbered packages (suc n) k e = omega arith

-- ---- one list

module _ (packages : Packages) (needs : List (Text × Text)) (chooses : Choices) (found list : List (ℕ × ℕ)) (next : Option NextPackage) (one : IsListing packages needs chooses found) (ends : EndsWith packages needs chooses found next)
    (two : IsListing packages needs chooses list) (all : AreAll chooses list) where
  not_ended : (o : Option NextPackage) → EndsWith packages needs chooses found o → (p k : ℕ) → next_package packages needs found ≡ Some p → chooses p ≡ Some k → ⊥
  not_ended None e p k comes chosen = none-some p (sym e ∙ comes)
  not_ended (Some q) e p k comes chosen = none-some k (sym e.none ∙ ap chooses (same_Some q.pkg p (sym e.comes ∙ comes)) ∙ chosen)

  same_here : (n : ℕ) (e f : ℕ × ℕ) → take n found ≡ take n list → slice_get found n ≡ Some e → slice_get list n ≡ Some f → e ≡ f
  same_here n e f before at_e at_f =
      let first : e.0 ≡ f.0 = same_Some e.0 f.0 (sym (one.walked n e at_e) ∙ ap (next_package packages needs) before ∙ two.walked n f at_f) in
      let second : e.1 ≡ f.1 = same_Some e.1 f.1 (sym (one.chosen n e at_e) ∙ ap chooses first ∙ two.chosen n f at_f) in
      ap (λ p. (p, e.1)) first ∙ ap (λ k. (f.0, k)) second

  not_more : (n : ℕ) (e : ℕ × ℕ) → take n found ≡ list → slice_get found n ≡ Some e → ⊥
  not_more n e before at =
      let named = next_named packages needs (take n found) e.0 (one.walked n e at) in
      none-some e.1 (sym named.2 ∙ ap (λ (xs : List (ℕ × ℕ)). choice_of xs e.0) before ∙ all e.0 e.1 (numbered packages named.0.0 e.0 named.1) (one.chosen n e at))

  not_less : (n : ℕ) (f : ℕ × ℕ) → found ≡ take n list → slice_get list n ≡ Some f → ⊥
  not_less n f before at = not_ended next ends f.0 f.1 (ap (next_package packages needs) before ∙ two.walked n f at) (two.chosen n f at)

  pub one-list : found ≡ list
  one-list = same_lists found list same_here not_more not_less

-- ---- what the list selects

module _ (packages : Packages) (wanted : Wanted) (chooses s : Choices) (list : List (ℕ × ℕ)) (listing : IsListing packages wanted.needs chooses list) (all : AreAll chooses list) (follows : Follows chooses s)
    (meets : Meets packages wanted s) where
  here : (i : ℕ) (e : ℕ × ℕ) → slice_get list i ≡ Some e → ((j : ℕ) (x : ℕ × ℕ) → j < i → slice_get list j ≡ Some x → s x.0 ≡ Some x.1) → s e.0 ≡ Some e.1
  here i e at before =
      let chosen = next_met packages wanted s (take i list) e.0 meets (λ j x there. let whole = get-taken i list j x there in before j x whole.0 whole.1) (listing.walked i e at) in
      chosen.1 ∙ sym (follows e.0 chosen.0 chosen.1) ∙ listing.chosen i e at

  before : (n i : ℕ) (e : ℕ × ℕ) → i < n → slice_get list i ≡ Some e → s e.0 ≡ Some e.1
  before zero i e lt at = absurd (omega arith)
  before (suc n) i e lt at = here i e at (λ j x below there. before n j x (omega (arith, below, lt)) there)

  pub list-selects : (p : ℕ) → choice_of list p ≡ s p
  list-selects p = by (choice_of list p) refl (s p) refl
    where
      by : (a : Option ℕ) → choice_of list p ≡ a → (b : Option ℕ) → s p ≡ b → a ≡ b
      by (Some k) e b f = let place = choice-entry list p k e in sym (before (suc place.0) place.0 (p, k) (omega arith) place.1) ∙ f
      by None e None f = refl
      by None e (Some k) f = absurd (none-some k (sym e ∙ all p k (published_numbered packages p k (meets.selection p k f)) (follows p k f)))
