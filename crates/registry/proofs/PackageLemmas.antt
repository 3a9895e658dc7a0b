-- What a contract sees of a registry, by its names and its lists of releases.
use Rattle.std.proofs.Common.{◌≡◌, ◌<◌, ◌≤◌, ◌∙◌, inl, inr, ℕ, zero, suc, ◌+◌, ◌-◌, List, [], ◌∷◌, ◌++◌, length, refl, sym, ap, arith, Bool, true, false, not, ◌||◌, true≢false, if◌then◌else◌, map, get_or, length-append}
use Rattle.std.specs.Prelude.{Option, Some, None, position, count_by, is_some, slice_get}
use Rattle.std.specs.Option.{option_and_then, option_map}
use Rattle.std.specs.List.{list_any}
use Rattle.std.specs.Str.{bytes_eq}
use Rattle.std.proofs.lemmas.Bool.{cases_Bool, or_parts}
use Rattle.versions.specs.Words.{Text}
use Rattle.std.proofs.lemmas.List.Sums.{sum_by-cons}
use Rattle.indexmap.specs.IndexSet.{insert_key}
use Rattle.std.specs.Cmp.Lexicographic.{nat_list_eq_equiv}
use Rattle.std.proofs.lemmas.List.{map_push}
use Rattle.registry.specs.Needs.{has_name, names_of, repeats_name}
use Rattle.registry.specs.Registry.{Package, Packages, Publication, is_known, is_named, number_from, number_of, is_published, package_at, publication_at, versions_of, versions_or_none}
use Rattle.registry.specs.Step.{with_listed, with_name, with_named}
use Rattle.registry.proofs.Positions.{position-here, position-later}
use Rattle.registry.specs.Publications.{PublicationList, lists_of, packages_in, packages_of}

pub length-packages_of : (names : List Text) (lists : List (List Publication)) → length names ≡ length lists → length (packages_of names lists) ≡ length names
length-packages_of [] lists e = refl
length-packages_of (name ∷ names) [] e = absurd (omega (arith, e))
length-packages_of (name ∷ names) (versions ∷ lists) e =
    let less : length names ≡ length lists = omega (arith, e) in
    ap suc (length-packages_of names lists less)

number_from-packages_of : (n : ℕ) (names : List Text) (lists : List (List Publication)) (name : Text) → length names ≡ length lists
    → number_from n (packages_of names lists) name ≡ option_map (λ i. n + i) (position (bytes_eq name) names)
number_from-packages_of n [] lists name e = refl
number_from-packages_of n (x ∷ names) [] name e = absurd (omega (arith, e))
number_from-packages_of n (x ∷ names) (versions ∷ lists) name e =
    let less : length names ≡ length lists = omega (arith, e) in
    let rest = number_from-packages_of (suc n) names lists name less in
    elim (cases_Bool (bytes_eq name x)) [
      | inl t ↦ let here = position-here (bytes_eq name) x names t in
          let place : n ≡ n + 0 = omega arith in
          rw (here, t) (ap (λ i. Some i) place)
      | inr f ↦ let later = position-later (bytes_eq name) x names f in
          rw (later, f) (rest ∙ by (position (bytes_eq name) names))
    ]
  where
    by : (o : Option ℕ) → option_map (λ i. suc n + i) o ≡ option_map (λ i. n + i) (option_map suc o)
    by None = refl
    by (Some i) = let place : suc n + i ≡ n + suc i = omega arith in ap (λ j. Some j) place

pub number_of-packages_of : (names : List Text) (lists : List (List Publication)) (name : Text) → length names ≡ length lists
    → number_of (packages_of names lists) name ≡ option_map (λ i. 1 + i) (position (bytes_eq name) names)
unfolding number_of
number_of-packages_of names lists name e = number_from-packages_of 1 names lists name e

pub length-mapped : {A B : Type 0} (f : A → B) (xs : List A) → length (map f xs) ≡ length xs
length-mapped f [] = refl
length-mapped f (x ∷ xs) = ap suc (length-mapped f xs)

-- a name is known where it is among the names
pub is_known-packages_of : (names : List Text) (lists : List (List Publication)) (name : Text) → length names ≡ length lists
    → is_known (packages_of names lists) name ≡ list_any (bytes_eq name) names
is_known-packages_of [] lists name e = refl
is_known-packages_of (x ∷ names) [] name e = absurd (omega (arith, e))
is_known-packages_of (x ∷ names) (versions ∷ lists) name e =
    let less : length names ≡ length lists = omega (arith, e) in
    ap (λ b. bytes_eq name x || b) (is_known-packages_of names lists name less)

pub is_known-packages_in : (names : List Text) (lists : List PublicationList) (name : Text) → length names ≡ length lists
    → is_known (packages_in names lists) name ≡ list_any (bytes_eq name) names
is_known-packages_in names lists name paired = is_known-packages_of names (lists_of lists) name (paired ∙ sym (length-mapped (λ (v : PublicationList). v.publications) lists))

packages_of-push : (names : List Text) (lists : List (List Publication)) (name : Text) (versions : List Publication) → length names ≡ length lists
    → packages_of (names ++ name ∷ []) (lists ++ versions ∷ []) ≡ packages_of names lists ++ (record { name = name; versions = versions }) ∷ []
packages_of-push [] [] name versions e = refl
packages_of-push [] (v ∷ lists) name versions e = absurd (omega (arith, e))
packages_of-push (x ∷ names) [] name versions e = absurd (omega (arith, e))
packages_of-push (x ∷ names) (v ∷ lists) name versions e =
    let less : length names ≡ length lists = omega (arith, e) in
    ap (λ (l : Packages). (record { name = x; versions = v }) ∷ l) (packages_of-push names lists name versions less)

-- a name that is new goes last, with no versions
pub with_name-new : (names names' : List Text) (lists lists' : List PublicationList) (name : Text) (list : PublicationList)
    → length names ≡ length lists → list_any (bytes_eq name) names ≡ false → list.publications ≡ []
    → names' ≡ insert_key bytes_eq names name → lists' ≡ lists ++ list ∷ []
    → packages_of names' (lists_of lists') ≡ with_name (packages_of names (lists_of lists)) name
with_name-new names names' lists lists' name list paired new empty is_names is_lists =
    let both : length names ≡ length (lists_of lists) = paired ∙ sym (length-mapped (λ (v : PublicationList). v.publications) lists) in
    let known : is_known (packages_of names (lists_of lists)) name ≡ false = is_known-packages_of names (lists_of lists) name both ∙ new in
    let keys : names' ≡ names ++ name ∷ [] = is_names ∙ ap (λ b. if b then names else names ++ name ∷ []) new in
    let columns : lists_of lists' ≡ lists_of lists ++ [] ∷ [] =
    ap lists_of is_lists ∙ map_push (λ (v : PublicationList). v.publications) lists list ∙ ap (λ (publications : List Publication). lists_of lists ++ publications ∷ []) empty in
    ap (λ ks. packages_of ks (lists_of lists')) keys ∙ ap (λ ls. packages_of (names ++ name ∷ []) ls) columns
    ∙ packages_of-push names (lists_of lists) name [] both
    ∙ sym (ap (λ b. if b then packages_of names (lists_of lists) else packages_of names (lists_of lists) ++ (record { name = name; versions = [] }) ∷ []) known)

-- a name that is known changes nothing
pub with_name-known : (names : List Text) (lists : List PublicationList) (name : Text)
    → length names ≡ length lists → list_any (bytes_eq name) names ≡ true
    → packages_of names (lists_of lists) ≡ with_name (packages_of names (lists_of lists)) name
with_name-known names lists name paired there =
    let both : length names ≡ length (lists_of lists) = paired ∙ sym (length-mapped (λ (v : PublicationList). v.publications) lists) in
    let known : is_known (packages_of names (lists_of lists)) name ≡ true = is_known-packages_of names (lists_of lists) name both ∙ there in
    sym (ap (λ b. if b then packages_of names (lists_of lists) else packages_of names (lists_of lists) ++ (record { name = name; versions = [] }) ∷ []) known)

-- the list at a place, and none without one
abbrev pub versions_where : Option ℕ → List (List Publication) → List Publication
versions_where None lists = []
versions_where (Some i) lists = get_or lists i []

pub versions_of-packages_of : (names : List Text) (lists : List (List Publication)) (name : Text) → length names ≡ length lists
    → versions_of (packages_of names lists) name ≡ versions_where (position (bytes_eq name) names) lists
versions_of-packages_of [] lists name e = refl
versions_of-packages_of (x ∷ names) [] name e = absurd (omega (arith, e))
versions_of-packages_of (x ∷ names) (versions ∷ lists) name e =
    let less : length names ≡ length lists = omega (arith, e) in
    let rest = versions_of-packages_of names lists name less in
    elim (cases_Bool (bytes_eq name x)) [
      | inl t ↦ rw (position-here (bytes_eq name) x names t, t) refl
      | inr f ↦ rw (position-later (bytes_eq name) x names f, f) (rest ∙ by (position (bytes_eq name) names))
    ]
  where
    by : (o : Option ℕ) → versions_where o lists ≡ versions_where (option_map suc o) (versions ∷ lists)
    by None = refl
    by (Some i) = refl

-- ---- how many names are new

pub is_known-push : (packages : Packages) (p : Package) (name : Text) → is_known (packages ++ p ∷ []) name ≡ (is_known packages name || is_named name p)
is_known-push [] p name = elim (is_named name p) as (λ b. (b || false) ≡ b) [ true ↦ refl | false ↦ refl ]
is_known-push (x ∷ rest) p name = rw (is_known-push rest p name) (elim (is_named name x) as (λ b. (b || (is_known rest name || is_named name p)) ≡ ((b || is_known rest name) || is_named name p)) [ true ↦ refl | false ↦ refl ])

-- another name is known as before
is_known-other : (packages : Packages) (added name : Text) → bytes_eq added name ≡ false → is_known (with_name packages added) name ≡ is_known packages name
is_known-other packages added name apart =
    let flipped : bytes_eq name added ≡ false = nat_list_eq_equiv.symm name added ∙ apart in
    elim (is_known packages added) as (λ b. is_known (if b then packages else packages ++ (record { name = added; versions = [] }) ∷ []) name ≡ is_known packages name) [
      | true ↦ refl
      | false ↦ is_known-push packages (record { name = added; versions = [] }) name ∙ ap (λ b. is_known packages name || b) flipped ∙ or-false (is_known packages name)
    ]
  where
    or-false : (b : Bool) → (b || false) ≡ b
    or-false true = refl
    or-false false = refl

abbrev pub new_count : Packages → List (Text × Text) → ℕ
new_count packages needs = count_by (λ (d : Text × Text). not (is_known packages d.0)) needs

new_count-cons : (packages : Packages) (d : Text × Text) (rest : List (Text × Text)) → new_count packages (d ∷ rest) ≡ (if not (is_known packages d.0) then 1 else 0) + new_count packages rest
new_count-cons packages d rest = sum_by-cons (λ (e : Text × Text). if not (is_known packages e.0) then 1 else 0) d rest

pub new_count-other : (packages : Packages) (added : Text) (needs : List (Text × Text)) → has_name needs added ≡ false → new_count (with_name packages added) needs ≡ new_count packages needs
new_count-other packages added [] e = refl
new_count-other packages added (d ∷ rest) e =
    let parts = or_parts (bytes_eq added d.0) (has_name rest added) e in
    new_count-cons (with_name packages added) d rest
    ∙ ap (λ (b : Bool). (if not b then 1 else 0) + new_count (with_name packages added) rest) (is_known-other packages added d.0 parts.0)
    ∙ ap (λ (n : ℕ). (if not (is_known packages d.0) then 1 else 0) + n) (new_count-other packages added rest parts.1)
    ∙ sym (new_count-cons packages d rest)

length-with_name : (packages : Packages) (name : Text) → length (with_name packages name) ≡ length packages + (if not (is_known packages name) then 1 else 0)
length-with_name packages name =
    elim (is_known packages name) as (λ b. length (if b then packages else packages ++ (record { name = name; versions = [] }) ∷ []) ≡ length packages + (if not b then 1 else 0)) [
      | true ↦ omega arith
      | false ↦ omega (arith, length-append packages ((record { name = name; versions = [] }) ∷ []))
    ]

one-more : (b : Bool) → (if not b then 1 else 0) ≤ 1
one-more true = omega arith
one-more false = omega arith

-- how many packages are numbered once these names are
pub length-with_listed : (packages : Packages) (needs : List (Text × Text)) → repeats_name needs ≡ false → length (with_listed packages (names_of needs)) ≡ length packages + new_count packages needs
length-with_listed packages [] e = omega arith
length-with_listed packages (d ∷ rest) e =
    let parts = or_parts (has_name rest d.0) (repeats_name rest) e in
    let tail = length-with_listed (with_name packages d.0) rest parts.1 in
    let same = new_count-other packages d.0 rest parts.0 in
    let one = length-with_name packages d.0 in
    omega (arith, tail, same, one, new_count-cons packages d rest)

pub length-numbered : (packages : Packages) (name : Text) (needs : List (Text × Text)) → has_name needs name ≡ false → repeats_name needs ≡ false
    → length (with_named packages name needs) ≡ length packages + (if not (is_known packages name) then 1 else 0) + new_count packages needs
length-numbered packages name needs apart once =
    omega (arith, length-with_listed (with_name packages name) needs once, new_count-other packages name needs apart, length-with_name packages name)

length-with_listed-most : (packages : Packages) (needs : List (Text × Text)) → length (with_listed packages (names_of needs)) ≤ length packages + length needs
length-with_listed-most packages [] = omega arith
length-with_listed-most packages (d ∷ rest) =
    let one = one-more (is_known packages d.0) in
    omega (arith, length-with_listed-most (with_name packages d.0) rest, length-with_name packages d.0, one)

-- each need numbers one name more at most
pub length-most : (packages : Packages) (name : Text) (needs : List (Text × Text)) → length (with_named packages name needs) ≤ length packages + 1 + length needs
length-most packages name needs = omega (arith, length-with_listed-most (with_name packages name) needs, length-with_name packages name, one-more (is_known packages name))

-- ---- publications by number and ordinal

abbrev pub listed : Option (List Publication) → ℕ → Option Publication
listed None k = None
listed (Some l) k = slice_get l k

pub publication_at-packages_of : (names : List Text) (lists : List (List Publication)) (i k : ℕ) → length names ≡ length lists
    → publication_at (packages_of names lists) (suc i) k ≡ listed (slice_get lists i) k
unfolding publication_at package_at
publication_at-packages_of [] [] i k e = refl
publication_at-packages_of [] (v ∷ lists) i k e = absurd (omega (arith, e))
publication_at-packages_of (x ∷ names) [] i k e = absurd (omega (arith, e))
publication_at-packages_of (x ∷ names) (v ∷ lists) zero k e = refl
publication_at-packages_of (x ∷ names) (v ∷ lists) (suc i) k e = publication_at-packages_of names lists i k (omega (arith, e))

pub published-positive : (packages : Packages) (p k : ℕ) → is_published packages p k ≡ true → 1 ≤ p
unfolding publication_at package_at
published-positive packages zero k e = absurd (true≢false (sym e))
published-positive packages (suc p) k e = omega arith

listed-within : (lists : List PublicationList) (i k : ℕ) → is_some (listed (slice_get (lists_of lists) i) k) ≡ true → i < length lists
listed-within [] i k e = absurd (true≢false (sym e))
listed-within (v ∷ lists) zero k e = omega arith
listed-within (v ∷ lists) (suc i) k e = let less = listed-within lists i k e in omega (arith, less)

listed-at : (lists : List PublicationList) (i k : ℕ) (v : PublicationList) → i < length lists → v ≡ get_or lists i v → listed (slice_get (lists_of lists) i) k ≡ slice_get v.publications k
listed-at [] i k v lt at = absurd (omega arith)
listed-at (w ∷ lists) zero k v lt at = ap (λ (u : PublicationList). slice_get u.publications k) (sym at)
listed-at (w ∷ lists) (suc i) k v lt at = listed-at lists i k v (omega arith) at

pub publication-within : (publications : List Publication) (k : ℕ) → is_some (slice_get publications k) ≡ true → k < length publications
publication-within [] k e = absurd (true≢false (sym e))
publication-within (r ∷ rest) zero e = omega arith
publication-within (r ∷ rest) (suc k) e = let less = publication-within rest k e in omega (arith, less)

module _ (names : List Text) (lists : List PublicationList) (p k : ℕ) (paired : length names ≡ length lists) (there : is_published (packages_of names (lists_of lists)) p k ≡ true) where
  placed : publication_at (packages_of names (lists_of lists)) p k ≡ listed (slice_get (lists_of lists) (p - 1)) k
  placed =
      let both : length names ≡ length (lists_of lists) = paired ∙ sym (length-mapped (λ (v : PublicationList). v.publications) lists) in
      let from_one = published-positive (packages_of names (lists_of lists)) p k there in
      let place : p ≡ suc (p - 1) = omega (arith, from_one) in
      ap (λ q. publication_at (packages_of names (lists_of lists)) q k) place ∙ publication_at-packages_of names (lists_of lists) (p - 1) k both

  pub within-lists : p - 1 < length lists
  within-lists = listed-within lists (p - 1) k (sym (ap is_some placed) ∙ there)

  module _ (v : PublicationList) (at : v ≡ get_or lists (p - 1) v) where
    pub publication-seen : publication_at (packages_of names (lists_of lists)) p k ≡ slice_get v.publications k
    publication-seen = placed ∙ listed-at lists (p - 1) k v within-lists at

    pub within-list : k < length v.publications
    within-list = publication-within v.publications k (sym (ap is_some publication-seen) ∙ there)

-- ---- packages by number

pub length-packages_in : (names : List Text) (lists : List PublicationList) → length names ≡ length lists → length (packages_in names lists) ≡ length names
length-packages_in names lists paired = length-packages_of names (lists_of lists) (paired ∙ sym (length-mapped (λ (v : PublicationList). v.publications) lists))

-- a place from 0 on is a number from 1 on
pub package_at-next : (packages : Packages) (p : ℕ) → 1 ≤ p → package_at packages p ≡ slice_get packages (p - 1)
unfolding package_at
package_at-next packages zero from_one = absurd (omega (arith, from_one))
package_at-next packages (suc n) from_one = let place : n ≡ suc n - 1 = omega arith in ap (λ i. slice_get packages i) place

pub package_at-zero : (packages : Packages) (p : ℕ) → (1 ≤ p → ⊥) → package_at packages p ≡ None
unfolding package_at
package_at-zero packages zero none = refl
package_at-zero packages (suc n) none = absurd (none (omega arith))

pub name-at : (names : List Text) (lists : List PublicationList) (i : ℕ) → length names ≡ length lists
    → option_map (λ (p : Package). p.name) (slice_get (packages_in names lists) i) ≡ slice_get names i
name-at [] lists i paired = refl
name-at (x ∷ names) [] i paired = absurd (omega (arith, paired))
name-at (x ∷ names) (v ∷ lists) zero paired = refl
name-at (x ∷ names) (v ∷ lists) (suc i) paired = name-at names lists i (omega (arith, paired))

-- the publications of the package at a place
pub versions-placed : (names : List Text) (lists : List PublicationList) (i : ℕ) (v : PublicationList) → length names ≡ length lists → i < length lists → v ≡ get_or lists i v
    → versions_or_none (slice_get (packages_in names lists) i) ≡ v.publications
versions-placed [] [] i v paired within at = absurd (omega arith)
versions-placed [] (w ∷ lists) i v paired within at = absurd (omega (arith, paired))
versions-placed (x ∷ names) [] i v paired within at = absurd (omega arith)
versions-placed (x ∷ names) (w ∷ lists) zero v paired within at = ap (λ (u : PublicationList). u.publications) (sym at)
versions-placed (x ∷ names) (w ∷ lists) (suc i) v paired within at = versions-placed names lists i v (omega (arith, paired)) (omega arith) at

-- a publication by number and ordinal, by the publications of its package
pub publication_at-versions : (packages : Packages) (p k : ℕ) → publication_at packages p k ≡ slice_get (versions_or_none (package_at packages p)) k
unfolding publication_at
publication_at-versions packages p k = by (package_at packages p)
  where
    by : (o : Option Package) → option_and_then (λ (pack : Package). slice_get pack.versions k) o ≡ slice_get (versions_or_none o) k
    by None = refl
    by (Some pack) = refl

within-published : (o : Option Package) (k : ℕ) → k < length (versions_or_none o) → is_some (option_and_then (λ (pack : Package). slice_get pack.versions k) o) ≡ true
within-published None k lt = absurd (omega arith)
within-published (Some pack) k lt = by pack.versions k lt
  where
    by : (versions : List Publication) (i : ℕ) → i < length versions → is_some (slice_get versions i) ≡ true
    by [] i lt = absurd (omega arith)
    by (v ∷ rest) zero lt = refl
    by (v ∷ rest) (suc i) lt = by rest i (omega arith)

-- an ordinal below the number of its package's versions is published
pub published-below : (packages : Packages) (p k : ℕ) → k < length (versions_or_none (package_at packages p)) → is_published packages p k ≡ true
unfolding publication_at
published-below packages p k lt = within-published (package_at packages p) k lt
