-- What a caller may use of a registry that commands made: facts by number, ordinal and name.
use Rattle.std.proofs.Common.{◌≡◌, ◌<◌, ◌≤◌, ◌∙◌, inl, inr, ℕ, zero, suc, ◌+◌, List, [], ◌∷◌, length, refl, sym, ap, subst, arith, true, false, true≢false, map, get_or, if◌then◌else◌, nat_lt, rules, Bool}
use Rattle.std.specs.Prelude.{All, Contains, Option, Some, None, is_some, slice_get}
use Rattle.std.specs.Option.{option_and_then, option_map}
use Rattle.std.specs.List.{AllByRecursion, IsDistinct, list_all}
use Rattle.std.specs.Str.{bytes_eq}
use Rattle.std.specs.Cmp.Lexicographic.{nat_list_eq_equiv}
use Rattle.std.proofs.lemmas.Bool.{cases_Bool, and_parts}
use Rattle.std.proofs.lemmas.Option.{get_or_from_slice_get, none-some, same_Some, slice_get_within}
use Rattle.std.proofs.lemmas.Map.Keys.{IsDistinct-head, IsDistinct-tail, apart_from_distinct}
use Rattle.std.proofs.Math.ListN.{get_or-map}
use Rattle.versions.specs.Words.{Text, same_precedence}
use Rattle.versions.specs.Precedence.{EqualPrecedenceIsAnEquivalence}
use Rattle.registry.specs.Lawful.{IsPackage, IsPublication, IsRegistry}
use Rattle.registry.specs.Publications.{PublicationList, packages_in}
use Rattle.registry.specs.Registry.{Package, Packages, Publication, is_known, is_named, is_published, needs_of, needs_or_none, number_from, number_of, package_at, publication_at, versions_or_none}
use Rattle.registry.proofs.PackageLemmas.{length-mapped, name-at}
use Rattle.registry.specs.declared.registry.TheConstants.{VERSION_LIMIT}

-- what holds of each element holds of the one at a place
all-at : {A : Type 0} (P : A → Type 0) (xs : List A) (i : ℕ) (x : A) → All P xs → slice_get xs i ≡ Some x → P x
all-at P xs i x all e = subst P (get_or_from_slice_get xs i x x e) (all i x (slice_get_within xs i x e))

-- ---- packages

pub package-lawful : (packages : Packages) (p : ℕ) (pack : Package) → IsRegistry packages → package_at packages p ≡ Some pack → IsPackage packages pack
unfolding package_at
package-lawful packages zero pack lawful e = absurd (cc e)
package-lawful packages (suc n) pack lawful e = all-at (IsPackage packages) packages n pack lawful.packs e

named-apart : (name : Text) (packages : Packages) (i : ℕ) (pack : Package) → AllByRecursion (λ y. bytes_eq name y ≡ false) (map (λ (p : Package). p.name) packages) → slice_get packages i ≡ Some pack → bytes_eq name pack.name ≡ false
named-apart name [] i pack h e = absurd (cc e)
named-apart name (p ∷ rest) zero pack h e = let same : p ≡ pack = cc e in ap (λ (q : Package). bytes_eq name q.name) (sym same) ∙ h.0
named-apart name (p ∷ rest) (suc i) pack h e = named-apart name rest i pack h.1 e

number_from-name : (n : ℕ) (packages : Packages) (i : ℕ) (pack : Package) → IsDistinct bytes_eq (map (λ (p : Package). p.name) packages) → slice_get packages i ≡ Some pack → number_from n packages pack.name ≡ Some (n + i)
number_from-name n [] i pack h e = absurd (cc e)
number_from-name n (p ∷ rest) zero pack h e =
    let same : p ≡ pack = cc e in
    let here : bytes_eq pack.name p.name ≡ true = ap (λ (q : Package). bytes_eq pack.name q.name) same ∙ nat_list_eq_equiv.refl pack.name in
    let place : n ≡ n + 0 = omega arith in
    ap (λ b. if b then Some n else number_from (suc n) rest pack.name) here ∙ ap (λ i. Some i) place
number_from-name n (p ∷ rest) (suc i) pack h e =
    let apart = named-apart p.name rest i pack (IsDistinct-head bytes_eq p.name (map (λ (q : Package). q.name) rest) h) e in
    let other : bytes_eq pack.name p.name ≡ false = nat_list_eq_equiv.symm pack.name p.name ∙ apart in
    let place : suc n + i ≡ n + suc i = omega arith in
    ap (λ b. if b then Some n else number_from (suc n) rest pack.name) other
    ∙ number_from-name (suc n) rest i pack (IsDistinct-tail bytes_eq p.name (map (λ (q : Package). q.name) rest) h) e ∙ ap (λ i. Some i) place

-- a package's number is the one of its name
pub number_of-name : (packages : Packages) (p : ℕ) (pack : Package) → IsRegistry packages → package_at packages p ≡ Some pack → number_of packages pack.name ≡ Some p
unfolding package_at number_of
number_of-name packages zero pack lawful e = absurd (cc e)
number_of-name packages (suc n) pack lawful e =
    let place : 1 + n ≡ suc n = omega arith in
    number_from-name 1 packages n pack lawful.distinct e ∙ ap (λ i. Some i) place

number_from-known : (n : ℕ) (packages : Packages) (name : Text) → is_known packages name ≡ true → (p : ℕ) × (number_from n packages name ≡ Some p)
number_from-known n [] name t = absurd (true≢false (sym t))
number_from-known n (p ∷ rest) name t = elim (cases_Bool (is_named name p)) [
  | inl here ↦ (n, ap (λ b. if b then Some n else number_from (suc n) rest name) here)
  | inr f ↦
      let later = number_from-known (suc n) rest name (rw f at t) in
      (later.0, ap (λ b. if b then Some n else number_from (suc n) rest name) f ∙ later.1)
]

-- a name that is known has a number
pub number_of-known : (packages : Packages) (name : Text) → is_known packages name ≡ true → (p : ℕ) × (number_of packages name ≡ Some p)
unfolding number_of
number_of-known packages name t = number_from-known 1 packages name t

-- a name that stands at a place has the number after it
pub number-stands : (names : List Text) (lists : List PublicationList) (i : ℕ) (name : Text) → length names ≡ length lists → IsRegistry (packages_in names lists) → slice_get names i ≡ Some name
    → number_of (packages_in names lists) name ≡ Some (i + 1)
unfolding package_at
number-stands names lists i name paired lawful at = by (slice_get (packages_in names lists) i) refl
  where
    by : (o : Option Package) → slice_get (packages_in names lists) i ≡ o → number_of (packages_in names lists) name ≡ Some (i + 1)
    by None e = absurd (none-some name (sym (ap (λ o. option_map (λ (p : Package). p.name) o) e) ∙ name-at names lists i paired ∙ at))
    by (Some pack) e =
        let named : pack.name ≡ name = same_Some pack.name name (sym (ap (λ o. option_map (λ (p : Package). p.name) o) e) ∙ name-at names lists i paired ∙ at) in
        let place : suc i ≡ i + 1 = omega arith in
        ap (number_of (packages_in names lists)) (sym named) ∙ number_of-name (packages_in names lists) (suc i) pack lawful e ∙ ap (λ n. Some n) place

few-versions : (packages : Packages) (p : ℕ) (o : Option Package) → package_at packages p ≡ o → IsRegistry packages → length (versions_or_none o) ≤ VERSION_LIMIT
few-versions packages p None e lawful = omega arith
few-versions packages p (Some pack) e lawful = (package-lawful packages p pack lawful e).few

-- a package has at most VERSION_LIMIT versions
pub length-versions_at : (packages : Packages) (p : ℕ) → IsRegistry packages → length (versions_or_none (package_at packages p)) ≤ VERSION_LIMIT
length-versions_at packages p lawful = few-versions packages p (package_at packages p) refl lawful

-- ---- publications

-- a publication stands in the list of its package
pub publication_at-package : (packages : Packages) (p k : ℕ) (v : Publication) → publication_at packages p k ≡ Some v → (pack : Package) × (package_at packages p ≡ Some pack) × (slice_get pack.versions k ≡ Some v)
unfolding publication_at
publication_at-package packages p k v e = by (package_at packages p) refl
  where
    by : (o : Option Package) → package_at packages p ≡ o → (pack : Package) × (package_at packages p ≡ Some pack) × (slice_get pack.versions k ≡ Some v)
    by None at = absurd (cc (sym (ap (λ (o : Option Package). option_and_then (λ (pack : Package). slice_get pack.versions k) o) at) ∙ e))
    by (Some pack) at = (pack, at, sym (ap (λ (o : Option Package). option_and_then (λ (q : Package). slice_get q.versions k) o) at) ∙ e)

pub publication-lawful : (packages : Packages) (p k : ℕ) (v : Publication) → IsRegistry packages → publication_at packages p k ≡ Some v
    → (pack : Package) × (package_at packages p ≡ Some pack) × IsPublication packages pack.name v
publication-lawful packages p k v lawful e =
    let found = publication_at-package packages p k v e in
    (found.0, found.1, all-at (IsPublication packages found.0.name) found.0.versions k v (package-lawful packages p found.0 lawful found.1).publications found.2)

list_all-at : {A : Type 0} (test : A → Bool) (xs : List A) (i : ℕ) (x d : A) → list_all test xs ≡ true → i < length xs → get_or xs i d ≡ x → test x ≡ true
list_all-at test [] i x d all lt e = absurd (omega arith)
list_all-at test (y ∷ ys) zero x d all lt e = ap test (sym e) ∙ (and_parts (test y) (list_all test ys) all).0
list_all-at test (y ∷ ys) (suc i) x d all lt e = list_all-at test ys i x d (and_parts (test y) (list_all test ys) all).1 (omega arith) e

-- each dependency's name has a number
pub number_of-need : (packages : Packages) (p k : ℕ) (v : Publication) (d : Text × Text) → IsRegistry packages → publication_at packages p k ≡ Some v → Contains v.needs d
    → (q : ℕ) × (number_of packages d.0 ≡ Some q)
number_of-need packages p k v d lawful e among =
    let found = publication-lawful packages p k v lawful e in
    number_of-known packages d.0 (list_all-at (λ (n : Text × Text). is_known packages n.0) v.needs among.0 d d found.2.numbered among.1 among.2)

-- a version that needs something is published
pub published-needing : (packages : Packages) (p k i : ℕ) → i < length (needs_of packages p k) → is_published packages p k ≡ true
published-needing packages p k i lt = by (publication_at packages p k) lt
  where
    by : (o : Option Publication) → i < length (needs_or_none o) → is_some o ≡ true
    by None h = absurd (omega arith)
    by (Some v) h = refl

-- each need of a version has a name with a number
pub number_of-needed : (packages : Packages) (p k i : ℕ) (d : Text × Text) → IsRegistry packages → slice_get (needs_of packages p k) i ≡ Some d → (q : ℕ) × (number_of packages d.0 ≡ Some q)
number_of-needed packages p k i d lawful at = by (publication_at packages p k) refl
  where
    by : (o : Option Publication) → publication_at packages p k ≡ o → (q : ℕ) × (number_of packages d.0 ≡ Some q)
    by None e = absurd (none-some d (sym (ap (λ o. slice_get (needs_or_none o) i) e) ∙ at))
    by (Some v) e =
        let here : slice_get v.needs i ≡ Some d = sym (ap (λ o. slice_get (needs_or_none o) i) e) ∙ at in
        number_of-need packages p k v d lawful e (i, slice_get_within v.needs i d here, get_or_from_slice_get v.needs i d d here)

versions-apart : (versions : List Publication) (i j : ℕ) (u v : Publication) → IsDistinct same_precedence (map (λ (w : Publication). w.version) versions)
    → slice_get versions i ≡ Some u → slice_get versions j ≡ Some v → i < j → same_precedence u.version v.version ≡ false
versions-apart versions i j u v distinct at_i at_j lt =
    let within : j < length (map (λ (w : Publication). w.version) versions) =
    omega (arith, slice_get_within versions j v at_j, length-mapped (λ (w : Publication). w.version) versions) in
    let apart = apart_from_distinct same_precedence (map (λ (w : Publication). w.version) versions) i j u.version distinct lt within in
    let one : get_or (map (λ (w : Publication). w.version) versions) i u.version ≡ u.version =
    get_or-map (λ (w : Publication). w.version) versions i u ∙ ap (λ (w : Publication). w.version) (get_or_from_slice_get versions i u u at_i) in
    let two : get_or (map (λ (w : Publication). w.version) versions) j u.version ≡ v.version =
    get_or-map (λ (w : Publication). w.version) versions j u ∙ ap (λ (w : Publication). w.version) (get_or_from_slice_get versions j v u at_j) in
    sym (ap (λ t. same_precedence t v.version) one) ∙ sym (ap (λ t. same_precedence (get_or (map (λ (w : Publication). w.version) versions) i u.version) t) two) ∙ apart

same-place : (i j : ℕ) → (i < j → ⊥) → (j < i → ⊥) → i ≡ j
same-place i j below above = elim (cases_Bool (nat_lt i j)) [
  | inl t ↦ let lt : i < j = search rules in absurd (below lt)
  | inr f ↦ elim (cases_Bool (nat_lt j i)) [
    | inl s ↦ let lt : j < i = search rules in absurd (above lt)
    | inr g ↦
        let a : j ≤ i = search rules in
        let b : i ≤ j = search rules in
        omega (arith, a, b)
  ]
]

-- no two publications of a package have equal precedence
pub distinct-precedence : EqualPrecedenceIsAnEquivalence → (packages : Packages) (p i j : ℕ) (u v : Publication) → IsRegistry packages → publication_at packages p i ≡ Some u → publication_at packages p j ≡ Some v
    → same_precedence u.version v.version ≡ true → i ≡ j
distinct-precedence equal packages p i j u v lawful at_i at_j same =
    let one = publication_at-package packages p i u at_i in
    let two = publication_at-package packages p j v at_j in
    let pack : one.0 ≡ two.0 = cc (sym one.1 ∙ two.1) in
    let there : slice_get one.0.versions j ≡ Some v = ap (λ (q : Package). slice_get q.versions j) pack ∙ two.2 in
    let distinct = (package-lawful packages p one.0 lawful one.1).distinct in
    same-place i j
    (λ lt. true≢false (sym same ∙ versions-apart one.0.versions i j u v distinct one.2 there lt))
    (λ lt. true≢false (sym same ∙ equal.symm u.version v.version ∙ versions-apart one.0.versions j i v u distinct there one.2 lt))
