-- The rows of a listing, package by package, and their order.
use Rattle.std.proofs.Common.{◌≡◌, ℕ, zero, suc, ◌+◌, ◌<◌, ◌≤◌, add-one, List, [], ◌∷◌, ◌++◌, length, get_or, take, map, Bool, true, false, nat_lt, Option, Some, None, is_some, refl, sym, ap, ◌∙◌, subst, arith, rules}
use Rattle.std.specs.Option.{option_and_then, option_map}
use Rattle.std.specs.List.{filter, slice_get}
use Rattle.std.specs.List.Sorted.{IsPermutation, IsSortedBy}
use Rattle.std.specs.Cmp.Lexicographic.{slice_cmp}
use Rattle.std.specs.Ordering.{is_lt, nat_cmp}
use Rattle.std.proofs.lemmas.List.{append-nil, get_or-map, map-append, take_more}
use Rattle.std.proofs.lemmas.List.Elements.{filter-append}
use Rattle.std.proofs.lemmas.Option.{slice_get-get_or}
use Rattle.std.proofs.lemmas.List.{length-map}
use Rattle.std.proofs.lemmas.List.Sorted.{IsPermutation-map}
use Rattle.versions.specs.Words.{Text}
use Rattle.registry.specs.Registry.{Package, Packages, Publication, is_published, package_at, publication_at, versions_or_none}
use Rattle.replies.specs.Entries.{row_at}
use Rattle.replies.specs.declared.listing.ListingEntry.{ListingEntry}
use Rattle.replies.specs.Listings.{IsListing, Row, is_listed, row_of, rows_of, versions_in}

-- packages are numbered from 1
pub package_at-next : (packages : Packages) (i : ℕ) (d : Package) → i < length packages → package_at packages (i + 1) ≡ Some (get_or packages i d)
unfolding package_at
package_at-next packages i d h = rw add-one (slice_get-get_or packages i d h)

rows_of-more : (packages : Packages) (i : ℕ) (d : Package) → i < length packages
    → rows_of (take (i + 1) packages) ≡ rows_of (take i packages) ++ rows_of (get_or packages i d ∷ [])
rows_of-more packages i d h =
    ap rows_of (take_more packages i d h) ∙ ap (λ l. map row_of l) (filter-append is_listed (take i packages) (get_or packages i d ∷ []))
    ∙ map-append row_of (filter is_listed (take i packages)) (filter is_listed (get_or packages i d ∷ []))

one_listed : (p : Package) (name : Text) (at : Option Package) → at ≡ Some p → option_map (λ (q : Package). q.name) at ≡ Some name → 0 < length (versions_or_none at)
    → rows_of (p ∷ []) ≡ (name, versions_in (versions_or_none at)) ∷ []
one_listed p name at is named there =
    let has = rw is at there in
    let called = rw is at named in
    let counted : nat_lt 0 (length p.versions) ≡ true = search rules in
    let same : p.name ≡ name = cc in
    rw (counted, is, same) refl

one_unlisted : (p : Package) (at : Option Package) → at ≡ Some p → length (versions_or_none at) ≤ 0 → rows_of (p ∷ []) ≡ []
one_unlisted p at is there =
    let has = rw is at there in
    let counted : nat_lt 0 (length p.versions) ≡ false = search rules in
    rw counted refl

abbrev no_package : Package
no_package = record { name = []; versions = [] }

-- a package with a publication goes in
pub rows_of-listed : (packages : Packages) (i : ℕ) (done : List Row) (name : Text) → i < length packages → done ≡ rows_of (take i packages)
    → option_map (λ (q : Package). q.name) (package_at packages (i + 1)) ≡ Some name → 0 < length (versions_or_none (package_at packages (i + 1)))
    → done ++ (name, versions_in (versions_or_none (package_at packages (i + 1)))) ∷ [] ≡ rows_of (take (i + 1) packages)
rows_of-listed packages i done name h before named there =
    let row = one_listed (get_or packages i no_package) name _ (package_at-next packages i no_package h) named there in
    rw (before, rows_of-more packages i no_package h, row) refl

-- a package without one stays out
pub rows_of-unlisted : (packages : Packages) (i : ℕ) (done : List Row) → i < length packages → done ≡ rows_of (take i packages)
    → length (versions_or_none (package_at packages (i + 1))) ≤ 0 → done ≡ rows_of (take (i + 1) packages)
rows_of-unlisted packages i done h before there =
    let row = one_unlisted (get_or packages i no_package) _ (package_at-next packages i no_package h) there in
    before ∙ sym (rows_of-more packages i no_package h ∙ ap (λ l. rows_of (take i packages) ++ l) row ∙ append-nil (rows_of (take i packages)))

-- a list that ascends by what a view shows of its elements is seen to ascend
pub IsSortedBy-map : {A B : Type 0} (view : A → B) (lt : B → B → Bool) (xs : List A) → IsSortedBy (λ x y. lt (view x) (view y)) xs → IsSortedBy lt (map view xs)
IsSortedBy-map view lt [] sorted = λ k d low high. absurd (omega arith)
IsSortedBy-map view lt (x ∷ xs) sorted = λ k d low high.
    let whole = length-map (x ∷ xs) view in
    let next : k + 1 < length (x ∷ xs) = omega arith in
    let here : k < length (x ∷ xs) = omega arith in
    rw (get_or-map view (x ∷ xs) (k + 1) x d next, get_or-map view (x ∷ xs) k x d here) (sorted k x low next)

-- what was found, in order of the names, is a listing
pub IsListing-sorted : (packages : Packages) (found sorted : List ListingEntry) → map (row_at packages) found ≡ rows_of packages → IsPermutation found sorted
    → IsSortedBy (λ (a b : ListingEntry). is_lt (slice_cmp nat_cmp a.name.now b.name.now)) sorted → IsListing packages (map (row_at packages) sorted)
IsListing-sorted packages found sorted rows same ascending = record {
  whole = subst (λ (l : List Row). IsPermutation l (map (row_at packages) sorted)) rows (IsPermutation-map (row_at packages) found sorted same);
  ascending = IsSortedBy-map (row_at packages) (λ (x y : Row). is_lt (slice_cmp nat_cmp x.0 y.0)) sorted ascending;
}

published_in : (at : Option Package) (k : ℕ) → k < length (versions_or_none at) → is_some (option_and_then (λ (pack : Package). slice_get pack.versions k) at) ≡ true
published_in None k h = absurd (omega arith)
published_in (Some p) k h = there p.versions k h
  where
    there : (vs : List Publication) (k : ℕ) → k < length vs → is_some (slice_get vs k) ≡ true
    there [] k h = absurd (omega arith)
    there (v ∷ vs) zero h = refl
    there (v ∷ vs) (suc k) h = there vs k (omega arith)

-- the ordinals below the number of versions are published
pub is_published-below : (packages : Packages) (n k : ℕ) → k < length (versions_or_none (package_at packages n)) → is_published packages n k ≡ true
unfolding publication_at
is_published-below packages n k h = published_in (package_at packages n) k h

publication_in : (at : Option Package) (k : ℕ) (p : Publication) → option_and_then (λ (pack : Package). slice_get pack.versions k) at ≡ Some p
    → slice_get (versions_or_none at) k ≡ Some p
publication_in None k p e = absurd (cc)
publication_in (Some pack) k p e = e

-- a publication stands among its package's
pub publication_at-slice_get : (packages : Packages) (n k : ℕ) (p : Publication) → publication_at packages n k ≡ Some p
    → slice_get (versions_or_none (package_at packages n)) k ≡ Some p
unfolding publication_at
publication_at-slice_get packages n k p e = publication_in (package_at packages n) k p e
