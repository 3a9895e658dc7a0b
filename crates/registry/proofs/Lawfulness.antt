-- What holds of every registry is kept by each accepted command.
use Rattle.std.proofs.Common.{◌≡◌, ◌≤◌, ◌<◌, ◌∙◌, inl, inr, ℕ, suc, List, [], ◌∷◌, ◌++◌, length, refl, sym, ap, subst, arith, Bool, true, false, true≢false, ◌||◌, ◌&&◌, rules, map, nat_lt, nat_le, if◌then◌else◌, length-append}
use Rattle.std.specs.Prelude.{Option, Some, None, All}
use Rattle.std.specs.List.{IsDistinct, list_all, list_any}
use Rattle.std.specs.Str.{bytes_eq}
use Rattle.std.specs.Cmp.Lexicographic.{nat_list_eq_equiv}
use Rattle.std.proofs.lemmas.Bool.{cases_Bool}
use Rattle.std.proofs.lemmas.List.Elements.{All-append, All-cons, All-head, All-nil, All-tail}
use Rattle.std.proofs.lemmas.Map.Keys.{IsDistinct-push}
use Rattle.std.proofs.lemmas.List.{map_push}
use Rattle.versions.specs.NameLaws.{same_name}
use Rattle.versions.specs.Words.{Text, same_precedence}
use Rattle.versions.specs.declared.refusal.Refusal.{Refusal}
use Rattle.versions.specs.Precedence.{EqualPrecedenceIsAnEquivalence}
use Rattle.registry.specs.Lawful.{IsPackage, IsPublication, IsRegistry}
use Rattle.registry.specs.Needs.{has_name, names_of, repeats_name}
use Rattle.registry.specs.Registry.{Package, Packages, Publication, has_version, is_known, is_named, versions_of}
use Rattle.registry.specs.Step.{publish, publish_refusal, set_yanked, with_listed, with_name, with_named, with_versions}
use Rattle.registry.proofs.GrowthLemmas.{is_known-grows}
use Rattle.registry.specs.declared.registry.TheConstants.{NEED_LIMIT, PACKAGE_LIMIT, VERSION_LIMIT}

abbrev names_in : Packages → List Text
names_in packages = map (λ (p : Package). p.name) packages

abbrev versions_in : List Publication → List Text
versions_in versions = map (λ (v : Publication). v.version) versions

-- a package that was just numbered
abbrev fresh : Text → Package
fresh name = record { name = name; versions = [] }

abbrev no_versions : List Publication
no_versions = []

-- ---- where one package's publications change

names-versions : (name : Text) (change : List Publication → List Publication) (packages : Packages) → names_in (with_versions name change packages) ≡ names_in packages
names-versions name change [] = refl
names-versions name change (p ∷ rest) = elim (cases_Bool (is_named name p)) [
  | inl t ↦ ap (λ b. names_in (if b then (record { name = p.name; versions = change p.versions }) ∷ rest else p ∷ with_versions name change rest)) t
  | inr f ↦
      ap (λ b. names_in (if b then (record { name = p.name; versions = change p.versions }) ∷ rest else p ∷ with_versions name change rest)) f
      ∙ ap (λ l. p.name ∷ l) (names-versions name change rest)
]

known-names : (packages : Packages) (name : Text) → is_known packages name ≡ list_any (bytes_eq name) (names_in packages)
known-names [] name = refl
known-names (p ∷ rest) name = ap (λ b. bytes_eq name p.name || b) (known-names rest name)

known-versions : (name : Text) (change : List Publication → List Publication) (packages : Packages) (other : Text) → is_known (with_versions name change packages) other ≡ is_known packages other
known-versions name change packages other =
    known-names (with_versions name change packages) other ∙ ap (λ l. list_any (bytes_eq other) l) (names-versions name change packages) ∙ sym (known-names packages other)

length-versions : (name : Text) (change : List Publication → List Publication) (packages : Packages) → length (with_versions name change packages) ≡ length packages
length-versions name change [] = refl
length-versions name change (p ∷ rest) = elim (cases_Bool (is_named name p)) [
  | inl t ↦ ap (λ b. length (if b then (record { name = p.name; versions = change p.versions }) ∷ rest else p ∷ with_versions name change rest)) t
  | inr f ↦
      ap (λ b. length (if b then (record { name = p.name; versions = change p.versions }) ∷ rest else p ∷ with_versions name change rest)) f
      ∙ ap suc (length-versions name change rest)
]

module _ (P : Packages) (name : Text) (change : List Publication → List Publication) where
  packs-versions : (packages : Packages) → All (IsPackage P) packages
      → ((p : Package) → is_named name p ≡ true → p.versions ≡ versions_of packages name → IsPackage P p → IsPackage P (record { name = p.name; versions = change p.versions }))
      → All (IsPackage P) (with_versions name change packages)
  packs-versions [] packs changed = packs
  packs-versions (p ∷ rest) packs changed =
      let head = All-head (IsPackage P) p rest packs in
      let tail = All-tail (IsPackage P) p rest packs in
      let goal : Bool → Type 0 = λ (b : Bool). All (IsPackage P) (if b then (record { name = p.name; versions = change p.versions }) ∷ rest else p ∷ with_versions name change rest) in
      elim (cases_Bool (is_named name p)) [
        | inl t ↦
            subst goal (sym t) (All-cons (IsPackage P) (record { name = p.name; versions = change p.versions }) rest
            (changed p t (sym (ap (λ b. if b then p.versions else versions_of rest name) t)) head) tail)
        | inr f ↦
            subst goal (sym f) (All-cons (IsPackage P) p (with_versions name change rest) head
            (packs-versions rest tail (λ q t e. changed q t (e ∙ sym (ap (λ b. if b then p.versions else versions_of rest name) f)))))
      ]

-- ---- where names are added

distinct-name : (packages : Packages) (added : Text) → IsDistinct bytes_eq (names_in packages) → IsDistinct bytes_eq (names_in (with_name packages added))
distinct-name packages added distinct = elim (cases_Bool (is_known packages added)) [
  | inl t ↦ subst (λ (b : Bool). IsDistinct bytes_eq (names_in (if b then packages else packages ++ fresh added ∷ []))) (sym t) distinct
  | inr f ↦
      subst (λ (b : Bool). IsDistinct bytes_eq (names_in (if b then packages else packages ++ fresh added ∷ []))) (sym f)
      (subst (λ (l : List Text). IsDistinct bytes_eq l) (sym (map_push (λ (p : Package). p.name) packages (fresh added)))
      (IsDistinct-push nat_list_eq_equiv (names_in packages) added distinct (sym (known-names packages added) ∙ f)))
]

distinct-listed : (packages : Packages) (added : List Text) → IsDistinct bytes_eq (names_in packages) → IsDistinct bytes_eq (names_in (with_listed packages added))
distinct-listed packages [] distinct = distinct
distinct-listed packages (x ∷ rest) distinct = distinct-listed (with_name packages x) rest (distinct-name packages x distinct)

fresh-package : (P : Packages) (name : Text) → IsPackage P (fresh name)
unfolding IsDistinct
fresh-package P name = record { few = omega arith; distinct = tt; publications = All-nil (IsPublication P name) }

packs-name : (P packages : Packages) (added : Text) → All (IsPackage P) packages → All (IsPackage P) (with_name packages added)
packs-name P packages added packs =
    elim (is_known packages added) as (λ b. All (IsPackage P) (if b then packages else packages ++ fresh added ∷ [])) [
      | true ↦ packs
      | false ↦ All-append (IsPackage P) packages (fresh added ∷ []) packs (All-cons (IsPackage P) (fresh added) [] (fresh-package P added) (All-nil (IsPackage P)))
    ]

packs-listed : (P packages : Packages) (added : List Text) → All (IsPackage P) packages → All (IsPackage P) (with_listed packages added)
packs-listed P packages [] packs = packs
packs-listed P packages (x ∷ rest) packs = packs-listed P (with_name packages x) rest (packs-name P packages x packs)

known-listed : (packages : Packages) (added : List Text) (name : Text) → is_known packages name ≡ true → is_known (with_listed packages added) name ≡ true
known-listed packages [] name t = t
known-listed packages (x ∷ rest) name t = known-listed (with_name packages x) rest name (is_known-grows packages x name t)

-- a name that is added is known
known-added : (packages : Packages) (name : Text) → is_known (with_name packages name) name ≡ true
known-added packages name = elim (cases_Bool (is_known packages name)) [
  | inl t ↦ ap (λ b. is_known (if b then packages else packages ++ fresh name ∷ []) name) t ∙ t
  | inr f ↦ ap (λ b. is_known (if b then packages else packages ++ fresh name ∷ []) name) f ∙ last packages
]
  where
    last : (ps : Packages) → is_known (ps ++ fresh name ∷ []) name ≡ true
    last [] = ap (λ b. b || false) (nat_list_eq_equiv.refl name)
    last (p ∷ ps) = elim (is_named name p) as (λ b. (b || is_known (ps ++ fresh name ∷ []) name) ≡ true) [ true ↦ refl | false ↦ last ps ]

numbered-listed : (packages : Packages) (needs : List (Text × Text)) → list_all (λ (d : Text × Text). is_known (with_listed packages (names_of needs)) d.0) needs ≡ true
numbered-listed packages [] = refl
numbered-listed packages (d ∷ rest) =
    let larger = with_listed (with_name packages d.0) (names_of rest) in
    ap (λ b. b && list_all (λ (e : Text × Text). is_known larger e.0) rest) (known-listed (with_name packages d.0) (names_of rest) d.0 (known-added packages d.0))
    ∙ numbered-listed (with_name packages d.0) rest

versions-name : (packages : Packages) (added name : Text) → versions_of (with_name packages added) name ≡ versions_of packages name
versions-name packages added name =
    elim (is_known packages added) as (λ b. versions_of (if b then packages else packages ++ fresh added ∷ []) name ≡ versions_of packages name) [
      | true ↦ refl
      | false ↦ by packages
    ]
  where
    none : (b : Bool) → (if b then no_versions else no_versions) ≡ no_versions
    none true = refl
    none false = refl

    by : (ps : Packages) → versions_of (ps ++ fresh added ∷ []) name ≡ versions_of ps name
    by [] = none (bytes_eq name added)
    by (p ∷ ps) = ap (λ (l : List Publication). if is_named name p then p.versions else l) (by ps)

versions-listed : (packages : Packages) (added : List Text) (name : Text) → versions_of (with_listed packages added) name ≡ versions_of packages name
versions-listed packages [] name = refl
versions-listed packages (x ∷ rest) name = versions-listed (with_name packages x) rest name ∙ versions-name packages x name

-- a publication numbers names, and publishes nothing of other packages
pub versions-named : (packages : Packages) (name : Text) (added : List Text) (other : Text) → versions_of (with_listed (with_name packages name) added) other ≡ versions_of packages other
versions-named packages name added other = versions-listed (with_name packages name) added other ∙ versions-name packages name other

-- ---- where more names are known

module _ (P Q : Packages) (more : (name : Text) → is_known P name ≡ true → is_known Q name ≡ true) where
  numbered-more : (needs : List (Text × Text)) → list_all (λ (d : Text × Text). is_known P d.0) needs ≡ true → list_all (λ (d : Text × Text). is_known Q d.0) needs ≡ true
  numbered-more [] e = refl
  numbered-more (d ∷ rest) e = elim (cases_Bool (is_known P d.0)) [
    | inl t ↦
        ap (λ b. b && list_all (λ (x : Text × Text). is_known Q x.0) rest) (more d.0 t)
        ∙ numbered-more rest (sym (ap (λ b. b && list_all (λ (x : Text × Text). is_known P x.0) rest) t) ∙ e)
    | inr f ↦ absurd (true≢false (sym e ∙ ap (λ b. b && list_all (λ (x : Text × Text). is_known P x.0) rest) f))
  ]

  publication-more : (name : Text) (v : Publication) → IsPublication P name v → IsPublication Q name v
  publication-more name v h = record { few = h.few; once = h.once; others = h.others; numbered = numbered-more v.needs h.numbered }

  pack-more : (p : Package) → IsPackage P p → IsPackage Q p
  pack-more p h = record { few = h.few; distinct = h.distinct; publications = λ k d lt. publication-more p.name _ (h.publications k d lt) }

  packs-more : (packages : Packages) → All (IsPackage P) packages → All (IsPackage Q) packages
  packs-more packages packs = λ k d lt. pack-more _ (packs k d lt)

-- ---- a publication

none-first : (t : Bool) (e : Refusal) (rest : Option Refusal) → (if t then Some e else rest) ≡ None → (t ≡ false) × (rest ≡ None)
none-first true e rest h = absurd (cc h)
none-first false e rest h = (refl, h)

-- what is known of a publication that is accepted
pub record Accepted (packages : Packages) (name version : Text) (needs : List (Text × Text)) : Type 0 where
  pub once : repeats_name needs ≡ false
  pub others : has_name needs name ≡ false
  pub few : length needs ≤ NEED_LIMIT
  pub new : has_version (versions_of packages name) version ≡ false
  pub room : length (versions_of packages name) < VERSION_LIMIT
  pub names : length (with_named packages name needs) ≤ PACKAGE_LIMIT

pub accepted_by : (packages : Packages) (name version : Text) (needs : List (Text × Text)) → publish_refusal packages name version needs ≡ None → Accepted packages name version needs
accepted_by packages name version needs e =
    let a = none-first (repeats_name needs) _ _ e in
    let b = none-first (has_name needs name) _ _ a.1 in
    let c = none-first (nat_lt NEED_LIMIT (length needs)) _ _ b.1 in
    let d = none-first (has_version (versions_of packages name) version) _ _ c.1 in
    let f = none-first (nat_le VERSION_LIMIT (length (versions_of packages name))) _ _ d.1 in
    let g = none-first (nat_lt PACKAGE_LIMIT (length (with_named packages name needs))) _ _ f.1 in
    record { once = a.0; others = b.0; few = not_above NEED_LIMIT (length needs) c.0; new = d.0; room = not_from VERSION_LIMIT (length (versions_of packages name)) f.0; names = not_above PACKAGE_LIMIT (length (with_named packages name needs)) g.0 }
  where
    not_above : (m n : ℕ) → nat_lt m n ≡ false → n ≤ m
    not_above m n h = search rules

    not_from : (m n : ℕ) → nat_le m n ≡ false → n < m
    not_from m n h = search rules

module _ (equal : EqualPrecedenceIsAnEquivalence) (packages : Packages) (name version : Text) (needs : List (Text × Text)) (lawful : IsRegistry packages) (accepted : Accepted packages name version needs) where
  abbrev publication : Publication
  publication = record { version = version; needs = needs; yanked = false }

  abbrev add : List Publication → List Publication
  add versions = versions ++ publication ∷ []

  abbrev larger : Packages
  larger = with_named packages name needs

  abbrev final : Packages
  final = with_versions name add larger

  larger-knows : (other : Text) → is_known packages other ≡ true → is_known final other ≡ true
  larger-knows other t = known-versions name add larger other ∙ known-listed (with_name packages name) (names_of needs) other (is_known-grows packages name other t)

  final-knows : (other : Text) → is_known larger other ≡ true → is_known final other ≡ true
  final-knows other t = known-versions name add larger other ∙ t

  published : (p : Package) → is_named name p ≡ true → p.versions ≡ versions_of larger name → IsPackage final p → IsPackage final (record { name = p.name; versions = add p.versions })
  published p named same h =
      let versions : p.versions ≡ versions_of packages name = same ∙ versions-listed (with_name packages name) (names_of needs) name ∙ versions-name packages name name in
      let own : name ≡ p.name = same_name name p.name named in
      record {
        few = omega (arith, length-append p.versions (publication ∷ []), ap length versions, accepted.room);
        distinct = subst (λ (l : List Text). IsDistinct same_precedence l) (sym (map_push (λ (v : Publication). v.version) p.versions publication))
            (IsDistinct-push equal (versions_in p.versions) version h.distinct (listed p.versions ∙ ap (λ (l : List Publication). has_version l version) versions ∙ accepted.new));
        publications = All-append (IsPublication final p.name) p.versions (publication ∷ []) h.publications
            (All-cons (IsPublication final p.name) publication [] (record {
              few = accepted.few;
              once = accepted.once;
              others = ap (λ n. has_name needs n) (sym own) ∙ accepted.others;
              numbered = numbered-more larger final final-knows needs (numbered-listed (with_name packages name) needs);
            }) (All-nil (IsPublication final p.name)));
      }
    where
      listed : (vs : List Publication) → list_any (same_precedence version) (versions_in vs) ≡ has_version vs version
      listed [] = refl
      listed (v ∷ vs) = ap (λ b. same_precedence version v.version || b) (listed vs)

  lawful-final : IsRegistry final
  lawful-final = record {
    few = omega (arith, length-versions name add larger, accepted.names);
    distinct = subst (λ (l : List Text). IsDistinct bytes_eq l) (sym (names-versions name add larger)) (distinct-listed (with_name packages name) (names_of needs) (distinct-name packages name lawful.distinct));
    packs = packs-versions final name add larger
        (packs-listed final (with_name packages name) (names_of needs) (packs-name final packages name (packs-more packages final larger-knows packages lawful.packs)))
        published;
  }

pub lawful-publish : EqualPrecedenceIsAnEquivalence → (packages : Packages) (name version : Text) (needs : List (Text × Text)) → IsRegistry packages → publish_refusal packages name version needs ≡ None → IsRegistry (publish packages name version needs)
lawful-publish equal packages name version needs lawful accepted = lawful-final equal packages name version needs lawful (accepted_by packages name version needs accepted)

-- ---- a yank

module _ (version : Text) (yanked : Bool) where
  length-yanked : (versions : List Publication) → length (set_yanked version yanked versions) ≡ length versions
  length-yanked [] = refl
  length-yanked (v ∷ rest) = elim (same_precedence version v.version) as (λ b. length (if b then (record { version = v.version; needs = v.needs; yanked = yanked }) ∷ rest else v ∷ set_yanked version yanked rest) ≡ suc (length rest)) [
    | true ↦ refl
    | false ↦ ap suc (length-yanked rest)
  ]

  versions-yanked : (versions : List Publication) → versions_in (set_yanked version yanked versions) ≡ versions_in versions
  versions-yanked [] = refl
  versions-yanked (v ∷ rest) = elim (same_precedence version v.version) as (λ b. versions_in (if b then (record { version = v.version; needs = v.needs; yanked = yanked }) ∷ rest else v ∷ set_yanked version yanked rest) ≡ v.version ∷ versions_in rest) [
    | true ↦ refl
    | false ↦ ap (λ l. v.version ∷ l) (versions-yanked rest)
  ]

  publications-yanked : (P : Packages) (name : Text) (versions : List Publication) → All (IsPublication P name) versions → All (IsPublication P name) (set_yanked version yanked versions)
  publications-yanked P name [] all = all
  publications-yanked P name (v ∷ rest) all =
      let head = All-head (IsPublication P name) v rest all in
      let tail = All-tail (IsPublication P name) v rest all in
      elim (same_precedence version v.version) as (λ b. All (IsPublication P name) (if b then (record { version = v.version; needs = v.needs; yanked = yanked }) ∷ rest else v ∷ set_yanked version yanked rest)) [
        | true ↦ All-cons (IsPublication P name) (record { version = v.version; needs = v.needs; yanked = yanked }) rest
            (record { few = head.few; once = head.once; others = head.others; numbered = head.numbered }) tail
        | false ↦ All-cons (IsPublication P name) v (set_yanked version yanked rest) head (publications-yanked P name rest tail)
      ]

pub lawful-mark : (packages : Packages) (name version : Text) (yanked : Bool) → IsRegistry packages → IsRegistry (with_versions name (set_yanked version yanked) packages)
lawful-mark packages name version yanked lawful =
    let change : List Publication → List Publication = set_yanked version yanked in
    let final = with_versions name change packages in
    record {
      few = omega (arith, length-versions name change packages, lawful.few);
      distinct = subst (λ (l : List Text). IsDistinct bytes_eq l) (sym (names-versions name change packages)) lawful.distinct;
      packs = packs-versions final name change packages
          (packs-more packages final (λ other t. known-versions name change packages other ∙ t) packages lawful.packs)
          (λ p named same h. record {
            few = omega (arith, length-yanked version yanked p.versions, h.few);
            distinct = subst (λ (l : List Text). IsDistinct same_precedence l) (sym (versions-yanked version yanked p.versions)) h.distinct;
            publications = publications-yanked version yanked final p.name p.versions h.publications;
          });
    }
