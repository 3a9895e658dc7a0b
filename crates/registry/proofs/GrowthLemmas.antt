-- How packages and room change where names and releases are added.
use Rattle.std.proofs.Common.{◌≡◌, ◌<◌, ◌≤◌, ◌∙◌, inl, inr, ℕ, zero, suc, ◌+◌, List, [], ◌∷◌, ◌++◌, length, refl, sym, ap, arith, Bool, true, false, ◌||◌, if◌then◌else◌, get_or, set}
use Rattle.std.specs.Prelude.{Option, Some, None, position, slice_index}
use Rattle.std.specs.Option.{option_map}
use Rattle.std.specs.List.{list_any}
use Rattle.std.specs.Str.{bytes_eq}
use Rattle.std.proofs.lemmas.Bool.{cases_Bool, or_parts}
use Rattle.versions.specs.Words.{Text}
use Rattle.registry.proofs.PackageLemmas.{versions_of-packages_of, versions_where, is_known-packages_in, is_known-packages_of, is_known-push, length-mapped, length-packages_of, number_of-packages_of}
use Rattle.std.specs.Cmp.Lexicographic.{nat_list_eq_equiv}
use Rattle.std.proofs.Math.Seq.{map-set_same}
use Rattle.std.proofs.lemmas.List.{get_or-map, get_or-set_same}
use Rattle.std.proofs.Common.{length-set}
use Rattle.std.proofs.lemmas.Option.{same_Some}
use Rattle.registry.specs.Registry.{Package, Packages, Publication, is_known, is_named, number_from, number_of, versions_of}
use Rattle.registry.specs.Rooms.{unknown_names}
use Rattle.registry.specs.Step.{with_listed, with_name, with_named, with_versions}
use Rattle.registry.specs.Publications.{PublicationList, lists_of, packages_in, packages_of, rooms_of}
use Rattle.registry.specs.Needs.{names_of}

number_from-append : (k : ℕ) (packages more : Packages) (name : Text) (n : ℕ) → number_from k packages name ≡ Some n → number_from k (packages ++ more) name ≡ Some n
number_from-append k [] more name n e = absurd (cc e)
number_from-append k (p ∷ rest) more name n e = elim (cases_Bool (is_named name p)) [
  | inl t ↦ rw t (rw t at e)
  | inr f ↦ rw f (number_from-append (suc k) rest more name n (rw f at e))
]

number_of-with_name : (packages : Packages) (added name : Text) (n : ℕ) → number_of packages name ≡ Some n → number_of (with_name packages added) name ≡ Some n
unfolding number_of
number_of-with_name packages added name n e =
    elim (is_known packages added) as (λ b. number_from 1 (if b then packages else packages ++ (record { name = added; versions = [] }) ∷ []) name ≡ Some n) [
      | true ↦ e
      | false ↦ number_from-append 1 packages ((record { name = added; versions = [] }) ∷ []) name n e
    ]

-- a package keeps its number where names are added
pub number_of-with_listed : (packages : Packages) (added : List Text) (name : Text) (n : ℕ) → number_of packages name ≡ Some n → number_of (with_listed packages added) name ≡ Some n
number_of-with_listed packages [] name n e = e
number_of-with_listed packages (x ∷ rest) name n e = number_of-with_listed (with_name packages x) rest name n (number_of-with_name packages x name n e)

number_from-above : (n : ℕ) (packages : Packages) (name : Text) (q : ℕ) → number_from n packages name ≡ Some q → n ≤ q
number_from-above n [] name q e = absurd (cc e)
number_from-above n (p ∷ rest) name q e = elim (cases_Bool (is_named name p)) [
  | inl t ↦ let same : n ≡ q = same_Some n q (rw t at e) in omega (arith, same)
  | inr f ↦ let more = number_from-above (suc n) rest name q (rw f at e) in omega (arith, more)
]

-- the list of the package of the name is changed
change-at : (k : ℕ) (names : List Text) (lists : List PublicationList) (name : Text) (i : ℕ) (v changed : PublicationList) (change : List Publication → List Publication)
    → number_from k (packages_in names lists) name ≡ Some (k + i) → v ≡ get_or lists i v → changed.publications ≡ change v.publications
    → packages_in names (set lists i changed) ≡ with_versions name change (packages_in names lists)
change-at k [] lists name i v changed change e at by = absurd (cc e)
change-at k (x ∷ names) [] name i v changed change e at by = absurd (cc e)
change-at k (x ∷ names) (w ∷ lists) name zero v changed change e at by = elim (cases_Bool (bytes_eq name x)) [
  | inl t ↦
      let items : changed.publications ≡ change w.publications = by ∙ ap (λ (u : PublicationList). change u.publications) at in
      rw t (ap (λ (vs : List Publication). (record { name = x; versions = vs }) ∷ packages_in names lists) items)
  | inr f ↦
      let above = number_from-above (suc k) (packages_in names lists) name (k + 0) (rw f at e) in
      absurd (omega (arith, above))
]
change-at k (x ∷ names) (w ∷ lists) name (suc i) v changed change e at by = elim (cases_Bool (bytes_eq name x)) [
  | inl t ↦
      let same : k ≡ k + suc i = same_Some k (k + suc i) (rw t at e) in
      absurd (omega (arith, same))
  | inr f ↦
      let place : k + suc i ≡ suc k + i = omega arith in
      let later : number_from (suc k) (packages_in names lists) name ≡ Some (suc k + i) = (rw f at e) ∙ ap (λ j. Some j) place in
      rw f (ap (λ (l : Packages). (record { name = x; versions = w.publications }) ∷ l) (change-at (suc k) names lists name i v changed change later at by))
]

pub packages-changed : (names : List Text) (lists : List PublicationList) (name : Text) (i : ℕ) (v changed : PublicationList) (change : List Publication → List Publication)
    → number_of (packages_in names lists) name ≡ Some (i + 1) → v ≡ get_or lists i v → changed.publications ≡ change v.publications
    → packages_in names (set lists i changed) ≡ with_versions name change (packages_in names lists)
unfolding number_of
packages-changed names lists name i v changed change e at by =
    let place : i + 1 ≡ 1 + i = omega arith in
    change-at 1 names lists name i v changed change (e ∙ ap (λ j. Some j) place) at by

-- a package that is not there is not changed
pub unchanged : (packages : Packages) (name : Text) (change : List Publication → List Publication) → is_known packages name ≡ false → with_versions name change packages ≡ packages
unchanged [] name change e = refl
unchanged (p ∷ rest) name change e =
    let parts = or_parts (is_named name p) (is_known rest name) e in
    rw (parts.0) (ap (λ (l : Packages). p ∷ l) (unchanged rest name change parts.1))

-- ---- the names that are new

-- the names of these needs that no package has, in order
abbrev pub new_names : Packages → List (Text × Text) → List Text
new_names packages needs = unknown_names (is_known packages) needs

pub is_known-grows : (packages : Packages) (added name : Text) → is_known packages name ≡ true → is_known (with_name packages added) name ≡ true
is_known-grows packages added name t =
    elim (is_known packages added) as (λ b. is_known (if b then packages else packages ++ (record { name = added; versions = [] }) ∷ []) name ≡ true) [
      | true ↦ t
      | false ↦ is_known-push packages (record { name = added; versions = [] }) name ∙ ap (λ b. b || is_named name (record { name = added; versions = [] })) t
    ]

with_listed-new : (packages larger : Packages) (needs : List (Text × Text)) → ((name : Text) → is_known packages name ≡ true → is_known larger name ≡ true)
    → with_listed larger (names_of needs) ≡ with_listed larger (new_names packages needs)
with_listed-new packages larger [] grows = refl
with_listed-new packages larger (d ∷ rest) grows = elim (cases_Bool (is_known packages d.0)) [
  | inl t ↦
      ap (λ b. with_listed (if b then larger else larger ++ (record { name = d.0; versions = [] }) ∷ []) (names_of rest)) (grows d.0 t)
      ∙ with_listed-new packages larger rest grows ∙ sym (ap (λ b. with_listed larger (if b then new_names packages rest else d.0 ∷ new_names packages rest)) t)
  | inr f ↦
      with_listed-new packages (with_name larger d.0) rest (λ name t. is_known-grows larger d.0 name (grows name t))
      ∙ sym (ap (λ b. with_listed larger (if b then new_names packages rest else d.0 ∷ new_names packages rest)) f)
]

-- only the names that are new are added
pub with_named-new : (packages : Packages) (name : Text) (needs : List (Text × Text)) → with_named packages name needs ≡ with_listed (with_name packages name) (new_names packages needs)
with_named-new packages name needs = with_listed-new packages (with_name packages name) needs (λ other t. is_known-grows packages name other t)

-- room, list by list
rooms-at : (lists : List PublicationList) (i : ℕ) (v : PublicationList) → i < length lists → v ≡ get_or lists i v → slice_index (rooms_of lists) i ≡ v.room
rooms-at [] i v lt at = absurd (omega arith)
rooms-at (w ∷ lists) zero v lt at = ap (λ (u : PublicationList). u.room) (sym at)
rooms-at (w ∷ lists) (suc i) v lt at = rooms-at lists i v (omega arith) at

number_from-last : (k : ℕ) (packages : Packages) (p : Package) (name : Text) → number_from k packages name ≡ None → is_named name p ≡ true
    → number_from k (packages ++ p ∷ []) name ≡ Some (k + length packages)
number_from-last k [] p name e t = let place : k ≡ k + 0 = omega arith in rw t (ap (λ i. Some i) place)
number_from-last k (x ∷ rest) p name e t = elim (cases_Bool (is_named name x)) [
  | inl here ↦ absurd (cc (rw here at e))
  | inr f ↦
      let place : suc k + length rest ≡ k + suc (length rest) = omega arith in
      rw f (number_from-last (suc k) rest p name (rw f at e) t ∙ ap (λ i. Some i) place)
]

-- a name that is new gets the next number
pub number_of-new : (packages : Packages) (name : Text) → number_of packages name ≡ None → is_known packages name ≡ false → number_of (with_name packages name) name ≡ Some (length packages + 1)
unfolding number_of
number_of-new packages name e new =
    let place : 1 + length packages ≡ length packages + 1 = omega arith in
    let p : Package = record { name = name; versions = [] } in
    ap (λ b. number_from 1 (if b then packages else packages ++ p ∷ []) name) new
    ∙ number_from-last 1 packages p name e (nat_list_eq_equiv.refl name) ∙ ap (λ i. Some i) place

module _ (names : List Text) (lists : List PublicationList) (name : Text) (paired : length names ≡ length lists) where
  both : length names ≡ length (lists_of lists)
  both = paired ∙ sym (length-mapped (λ (v : PublicationList). v.publications) lists)

  -- the number of a name, by its place among the names
  pub number-placed : (o : Option ℕ) → o ≡ position (bytes_eq name) names → number_of (packages_of names (lists_of lists)) name ≡ option_map (λ i. 1 + i) o
  number-placed o e = number_of-packages_of names (lists_of lists) name both ∙ ap (λ (p : Option ℕ). option_map (λ i. 1 + i) p) (sym e)

  pub number-found : (i : ℕ) → Some i ≡ position (bytes_eq name) names → number_of (packages_of names (lists_of lists)) name ≡ Some (i + 1)
  number-found i e = let place : 1 + i ≡ i + 1 = omega arith in number-placed (Some i) e ∙ ap (λ j. Some j) place

  pub number-next : None ≡ position (bytes_eq name) names → list_any (bytes_eq name) names ≡ false → (n : ℕ) → n ≡ length lists + 1
      → number_of (with_name (packages_of names (lists_of lists)) name) name ≡ Some n
  number-next e new n last =
      let len : length (packages_of names (lists_of lists)) + 1 ≡ n = omega (arith, length-packages_of names (lists_of lists) both, paired, last) in
      number_of-new (packages_of names (lists_of lists)) name (number-placed None e) (is_known-packages_of names (lists_of lists) name both ∙ new) ∙ ap (λ i. Some i) len

-- a list that changes in room alone shows the same publications
pub lists_of-set_same : (lists : List PublicationList) (i : ℕ) (v grown : PublicationList) → v ≡ get_or lists i v → grown.publications ≡ v.publications → lists_of (set lists i grown) ≡ lists_of lists
lists_of-set_same lists i v grown at same =
    map-set_same (λ (u : PublicationList). u.publications) lists i grown v (same ∙ ap (λ (u : PublicationList). u.publications) at)

pub room-grown : (lists : List PublicationList) (i : ℕ) (grown : PublicationList) → i < length lists → slice_index (rooms_of (set lists i grown)) i ≡ grown.room
room-grown lists i grown lt =
    let len : i < length (set lists i grown) = omega (arith, length-set lists i grown) in
    rooms-at (set lists i grown) i grown len (sym (get_or-set_same lists i grown grown lt))

-- the new names, by the names of the registry
pub new_names-packages_in : (names : List Text) (lists : List PublicationList) (needs : List (Text × Text)) → length names ≡ length lists
    → new_names (packages_in names lists) needs ≡ unknown_names (λ name. list_any (bytes_eq name) names) needs
new_names-packages_in names lists needs paired = ap (λ (f : Text → Bool). unknown_names f needs) (λ i name. is_known-packages_in names lists name paired i)

pub same_place : (p q : Option ℕ) → option_map (λ i. 1 + i) p ≡ option_map (λ i. 1 + i) q → p ≡ q
same_place None None e = refl
same_place None (Some j) e = absurd (cc e)
same_place (Some i) None e = absurd (cc e)
same_place (Some i) (Some j) e =
    let same = same_Some (1 + i) (1 + j) e in
    let place : i ≡ j = omega (arith, same) in
    ap (λ k. Some k) place

-- the list at the place of a package has its publications
pub versions_of-placed : (names : List Text) (lists : List PublicationList) (name : Text) (i : ℕ) (v : PublicationList) → length names ≡ length lists
    → number_of (packages_in names lists) name ≡ Some (i + 1) → i < length lists → v ≡ get_or lists i v → versions_of (packages_in names lists) name ≡ v.publications
versions_of-placed names lists name i v paired number within at =
    let both : length names ≡ length (lists_of lists) = paired ∙ sym (length-mapped (λ (u : PublicationList). u.publications) lists) in
    let next : i + 1 ≡ 1 + i = omega arith in
    let place : position (bytes_eq name) names ≡ Some i =
    same_place (position (bytes_eq name) names) (Some i) (sym (number_of-packages_of names (lists_of lists) name both) ∙ number ∙ ap (λ j. Some j) next) in
    versions_of-packages_of names (lists_of lists) name both ∙ ap (λ o. versions_where o (lists_of lists)) place
    ∙ get_or-map (λ (u : PublicationList). u.publications) lists i v [] within ∙ ap (λ (u : PublicationList). u.publications) (sym at)

rooms-behind : (lists : List PublicationList) (list : PublicationList) (i : ℕ) → i < length lists
    → (i < length (lists ++ list ∷ [])) × (slice_index (rooms_of (lists ++ list ∷ [])) i ≡ slice_index (rooms_of lists) i)
rooms-behind [] list i lt = absurd (omega arith)
rooms-behind (x ∷ lists) list zero lt = (omega arith, refl)
rooms-behind (x ∷ lists) list (suc i) lt = let rest = rooms-behind lists list i (omega arith) in (omega (arith, rest.0), rest.1)

-- a list keeps its place and its room where one is put behind all
pub rooms-stay : (lists lists' : List PublicationList) (list : PublicationList) → lists' ≡ lists ++ list ∷ []
    → (i : ℕ) → i < length lists → (i < length lists') × (slice_index (rooms_of lists') i ≡ slice_index (rooms_of lists) i)
rooms-stay lists lists' list is = λ i lt. rw is (rooms-behind lists list i lt)
