-- That the preferred selection, where it meets the request, is the newest one: it has a list in the order of the walk, and nothing that can be had is preferred to what it has.
use Rattle.std.proofs.Common.{◌≡◌, ◌≤◌, ◌∙◌, ◌+◌, ◌⊎◌, inl, inr, ℕ, zero, suc, List, [], ◌∷◌, ◌++◌, length, refl, sym, ap, arith, false}
use Rattle.std.proofs.lemmas.List.{length-append}
use Rattle.std.proofs.lemmas.Option.{none-some}
use Rattle.std.specs.Prelude.{None, Option, Some}
use Rattle.std.specs.Option.{option_and_then}
use Rattle.versions.specs.Precedence.{EqualPrecedenceIsATie, EqualPrecedenceIsAnEquivalence}
use Rattle.registry.specs.Laws.{NamesHaveTheirNumbers, PublishedIsNumbered}
use Rattle.registry.specs.Lawful.{IsRegistry}
use Rattle.registry.specs.Needs.{repeats_name}
use Rattle.registry.specs.Preference.{IsPreferredSelection, preferred, preferred_in}
use Rattle.registry.specs.Registry.{Package, Packages, package_at}
use Rattle.registry.specs.Requests.{Wanted}
use Rattle.registry.specs.Selections.{Choices, Meets}
use Rattle.walk.specs.Choosing.{choice_of}
use Rattle.walk.specs.Listing.{IsListing}
use Rattle.walk.specs.Newest.{IsNewest, NewestIsPreferred, OneNewestSelection, PreferredIsNewest, next_package}
use Rattle.walk.proofs.Listings.{listing_push}
use Rattle.walk.proofs.Choices.{once_short}
use Rattle.walk.proofs.Lists.{choice-push_cases}
use Rattle.walk.proofs.NewestLaws.{walked_once}
use Rattle.walk.proofs.NewestPreferred.{best, candidate, next_met}
use Rattle.walk.proofs.Publications.{publication_in}
use Rattle.walk.proofs.Wholes.{whole}

-- ---- a selection has a list in the order of the walk

module _ (packages : Packages) (wanted : Wanted) (t : Choices) (meets : Meets packages wanted t) where
  -- in the order of the walk, with the selection's versions
  record IsPart (found : List (ℕ × ℕ)) : Type 0 where
    listing : IsListing packages wanted.needs t found
    has : (p k : ℕ) → choice_of found p ≡ Some k → t p ≡ Some k

  push : (found : List (ℕ × ℕ)) (p k : ℕ) → IsPart found → next_package packages wanted.needs found ≡ Some p → t p ≡ Some k → IsPart (found ++ (p, k) ∷ [])
  push found p k part next chosen = record {
    listing = listing_push packages wanted.needs t found p k part.listing next chosen;
    has = λ q j e. elim (choice-push_cases found p k q j e) [
      | inl before ↦ part.has q j before
      | inr last ↦ ap t (sym last.0) ∙ chosen ∙ ap Some last.1
    ];
  }

  -- ---- the list, made with so many more at most

  record IsGrown (found : List (ℕ × ℕ)) (n : ℕ) : Type 0 where
    list : List (ℕ × ℕ)
    part : IsPart list
    ends : (next_package packages wanted.needs list ≡ None) ⊎ (length list ≡ length found + n)

  grown : (n : ℕ) (found : List (ℕ × ℕ)) → IsPart found → IsGrown found n
  grown zero found part = record { list = found; part = part; ends = inr (omega arith) }
  grown (suc n) found part = by (λ next is. grown n next is) (next_package packages wanted.needs found) refl
    where
      by : ((next : List (ℕ × ℕ)) → IsPart next → IsGrown next n) → (o : Option ℕ) → next_package packages wanted.needs found ≡ o → IsGrown found (suc n)
      by from None e = record { list = found; part = part; ends = inl e }
      by from (Some p) e =
          let there = next_met packages wanted t found p meets part.listing.chosen e in
          let more = from (found ++ (p, there.0) ∷ []) (push found p there.0 part e there.1) in
          record {
            list = more.list;
            part = more.part;
            ends = elim more.ends [
              | inl ended ↦ inl ended
              | inr long ↦ inr (let l : length (found ++ (p, there.0) ∷ []) ≡ length found + 1 = length-append found ((p, there.0) ∷ []) in omega (arith, long, l))
            ];
          }

  empty : IsPart []
  empty = record {
    listing = record { walked = λ i e at. absurd (none-some e at); chosen = λ i e at. absurd (none-some e at) };
    has = λ p k e. absurd (none-some k e);
  }

  module _ (numbers : PublishedIsNumbered) where
    short : (list : List (ℕ × ℕ)) → IsPart list → length list ≤ length packages + 1
    short list part = once_short list (length packages + 1) (walked_once packages wanted.needs list part.listing.walked) (λ q k e. let within = numbers packages q k (meets.selection q k (part.has q k e)) in omega (arith, within.1))

    -- the selection has a list in the order of the walk, to its end
    pub listed : (list : List (ℕ × ℕ)) × IsListing packages wanted.needs t list × (next_package packages wanted.needs list ≡ None)
    listed =
        let all = grown (length packages + 2) [] empty in
        elim all.ends [
          | inl ended ↦ (all.list, all.part.listing, ended)
          | inr long ↦ absurd (let few = short all.list all.part in omega (arith, few, long))
        ]

-- ---- the preferred selection

-- what a preferred selection has of a package is its preferred version
preferred_here : (packages : Packages) (wanted : Wanted) (t : Choices) → IsPreferredSelection packages wanted t → (p k : ℕ) (pack : Package) → package_at packages p ≡ Some pack → t p ≡ Some k → preferred_in wanted pack ≡ Some k
unfolding preferred
preferred_here packages wanted t is p k pack at e =
    let here = is.reached p (is.others p k e) in
    sym (ap (λ o. option_and_then (preferred_in wanted) o) at) ∙ here.1 ∙ sym here.2 ∙ e

pub preferred-newest : NamesHaveTheirNumbers → PublishedIsNumbered → EqualPrecedenceIsAnEquivalence → EqualPrecedenceIsATie → (packages : Packages) (wanted : Wanted) (t : Choices) → IsRegistry packages
    → repeats_name wanted.lock ≡ false → IsPreferredSelection packages wanted t → Meets packages wanted t → IsNewest packages wanted t
preferred-newest names numbers equal tie packages wanted t lawful once is meets = record {
  found = all.0;
  selects = λ i p. whole packages wanted t all.0 all.1 all.2 meets p i;
  meets = meets;
  best = record {
    turns = λ i e at. (
      all.1.walked i e at,
      λ j ahead other meets' has chosen.
          best equal tie packages wanted once e.0 ahead.pack ahead.of j e.1 ahead.one ahead.other (publication_in packages e.0 j ahead.pack ahead.one ahead.of ahead.first)
          (candidate names packages wanted other e.0 j ahead.pack ahead.one lawful meets' chosen ahead.of ahead.first) ahead.second
          (preferred_here packages wanted t is e.0 e.1 ahead.pack ahead.of (all.1.chosen i e at)) ahead.preferred,
    );
  };
}
  where
    all : (list : List (ℕ × ℕ)) × IsListing packages wanted.needs t list × (next_package packages wanted.needs list ≡ None)
    all = listed packages wanted t meets numbers

-- so the newest one is it
pub newest-preferred : OneNewestSelection → PreferredIsNewest → NewestIsPreferred
newest-preferred once preferred packages wanted s t lawful lock newest is meets = once packages wanted s t lawful newest (preferred packages wanted t lawful lock is meets)
