-- A place that is kept tells what a version depends on.
use Rattle.std.proofs.Common.{◌≡◌, ◌<◌, ◌≤◌, ◌+◌, ◌-◌, ◌∙◌, inl, inr, ℕ, zero, suc, List, [], ◌∷◌, length, refl, sym, ap, arith, get_or}
use Rattle.std.specs.Prelude.{Some, slice_get}
use Rattle.std.proofs.lemmas.Bool.{cases_lt}
use Rattle.std.proofs.lemmas.List.{get_or-map}
use Rattle.std.proofs.lemmas.Option.{none-some, slice_get_within}
use Rattle.versions.specs.Words.{Text}
use Rattle.registry.specs.Lawful.{IsRegistry}
use Rattle.registry.specs.Places.{IsPlace, StandBeside, StandsAt, named_of, named_on}
use Rattle.registry.specs.Publications.{PublicationList, packages_in}
use Rattle.registry.specs.Registry.{Packages, Publication, needs_of, needs_or_none, package_at, versions_or_none}
use Rattle.registry.specs.declared.place.Place.{Place}
use Rattle.registry.proofs.PackageLemmas.{package_at-next, publication_at-versions, versions-placed}
use Rattle.registry.proofs.RegistryLaws.{number-stands}

beside-of : (names : List Text) (named : List (List Text)) (publications : List Publication) (places : List (List Place)) (k j : ℕ) (place : Place)
    → StandBeside names named publications places → (length publications ≤ k → get_or places k [] ≡ []) → slice_get (get_or places k []) j ≡ Some place
    → (need : Text × Text) × (slice_get (needs_or_none (slice_get publications k)) j ≡ Some need) × StandsAt names named need place
beside-of names named [] places k j place right past at =
    let none = past (omega arith) in absurd (none-some place (ap (λ (l : List Place). slice_get l j) (sym none) ∙ at))
beside-of names named (p ∷ rest) [] k j place right past at = absurd (none-some place at)
beside-of names named (p ∷ rest) (q ∷ qs) zero j place right past at = right.0 j place at
beside-of names named (p ∷ rest) (q ∷ qs) (suc k) j place right past at =
    beside-of names named rest qs k j place right.1 (λ more. past (omega (arith, more))) at

-- the requirements that are named on the package at an index
pub named_on-next : (named : List (List Text)) (n i : ℕ) → n ≡ i + 1 → named_on named n ≡ get_or named i []
named_on-next named zero i e = absurd (omega (arith, e))
named_on-next named (suc n) i e = let same : n ≡ i = omega (arith, e) in ap (λ k. get_or named k []) same

pub named_on-list : (lists : List PublicationList) (n i : ℕ) (list : PublicationList) → n ≡ i + 1 → i < length lists → list ≡ get_or lists i list → list.named ≡ named_on (named_of lists) n
named_on-list lists n i list e lt is =
    ap (λ (l : PublicationList). l.named) is ∙ sym (get_or-map (λ (l : PublicationList). l.named) lists i list [] lt) ∙ sym (named_on-next (named_of lists) n i e)

module _ (names : List Text) (lists : List PublicationList) (paired : length names ≡ length lists) (lawful : IsRegistry (packages_in names lists)) where
  pub place-told : (p i k j : ℕ) (list : PublicationList) (place : Place) → p ≡ i + 1 → i < length lists → list ≡ get_or lists i list
      → StandBeside names (named_of lists) list.publications list.places → (length list.publications ≤ k → get_or list.places k [] ≡ [])
      → slice_get (get_or list.places k []) j ≡ Some place → IsPlace (packages_in names lists) (named_of lists) p k j place
  place-told p i k j list place e lt is right past at =
      let one = beside-of names (named_of lists) list.publications list.places k j place right past at in
      let need = one.0 in
      let stands = one.2 in
      let packages = packages_in names lists in
      let back : p - 1 ≡ i = omega (arith, e) in
      let versions : versions_or_none (package_at packages p) ≡ list.publications =
      ap versions_or_none (package_at-next packages p (omega (arith, e)))
      ∙ ap (λ n. versions_or_none (slice_get packages n)) back ∙ versions-placed names lists i list paired lt is in
      record {
        name = need.0;
        need = need.1;
        at = ap (λ o. slice_get (needs_or_none o) j) (publication_at-versions packages p k) ∙ ap (λ l. slice_get (needs_or_none (slice_get l k)) j) versions ∙ one.1;
        number = number-stands names lists stands.index need.0 paired lawful stands.name ∙ ap (λ n. Some n) (sym stands.target);
        stands = ap (λ l. slice_get l place.need) (named_on-next (named_of lists) place.target stands.index stands.target) ∙ stands.requirement;
      }

there : {X : Type 0} (xs : List X) (i : ℕ) → i < length xs → (x : X) × (slice_get xs i ≡ Some x)
there [] i lt = absurd (omega (arith, lt))
there (x ∷ xs) zero lt = (x, refl)
there (x ∷ xs) (suc i) lt = there xs i (omega (arith, lt))

-- there are at most as many places as needs
pub places-few : (packages : Packages) (named : List (List Text)) (p k : ℕ) (places : List Place)
    → ((j : ℕ) (place : Place) → slice_get places j ≡ Some place → IsPlace packages named p k j place) → length places ≤ length (needs_of packages p k)
places-few packages named p k places right = elim (cases_lt (length (needs_of packages p k)) (length places)) [
  | inl more ↦
      let one = there places (length (needs_of packages p k)) more in
      let two = right (length (needs_of packages p k)) one.0 one.1 in
      let no = slice_get_within (needs_of packages p k) (length (needs_of packages p k)) (two.name, two.need) two.at in
      absurd (omega (arith, no))
  | inr few ↦ omega (arith, few)
]
