-- What an accepted command leaves as it was.
use Rattle.std.proofs.Common.{◌≡◌, ◌∙◌, ◌⊎◌, ◌+◌, ◌-◌, inl, inr, ℕ, zero, suc, Bool, true, false, List, [], ◌∷◌, ◌++◌, length, length-append, refl, sym, ap, subst, arith}
use Rattle.std.proofs.lemmas.Bool.{cases_Bool}
use Rattle.std.specs.Prelude.{Contains, None, Option, Some, slice_get, if◌then◌else◌}
use Rattle.std.specs.Option.{option_and_then}
use Rattle.versions.specs.Words.{Text, same_precedence}
use Rattle.registry.specs.Needs.{names_of}
use Rattle.registry.specs.Registry.{Package, Packages, Publication, is_known, is_named, meets_at, needs_of, needs_or_none, number_from, number_of, package_at, publication_at, publication_meets, versions_or_none}
use Rattle.registry.specs.Step.{publish, set_yanked, with_listed, with_name, with_named, with_versions}
use Rattle.registry.specs.Laws.{NumbersLast}

-- packages keep their numbers and versions what they depend on, and what now meets a requirement did before, but for fresh versions
pub record Grows (old new : Packages) (Fresh : ℕ → ℕ → Type 0) : Type 0 where
  pub numbers : (name : Text) (n : ℕ) → number_of old name ≡ Some n → number_of new name ≡ Some n
  pub needs : (q k : ℕ) (d : Text × Text) → Contains (needs_of old q k) d → Contains (needs_of new q k) d
  pub meets : (q k : ℕ) (need : Text) → meets_at new q k need ≡ true → (meets_at old q k need ≡ true) ⊎ Fresh q k

-- no version is fresh
abbrev pub Nothing : ℕ → ℕ → Type 0
Nothing q k = ⊥

-- ---- names that are added

at_push : (packages : Packages) (name : Text) (i k : ℕ)
    → option_and_then (λ (pack : Package). slice_get pack.versions k) (slice_get (packages ++ (record { name = name; versions = [] }) ∷ []) i)
    ≡ option_and_then (λ (pack : Package). slice_get pack.versions k) (slice_get packages i)
at_push [] name zero k = refl
at_push [] name (suc i) k = refl
at_push (p ∷ rest) name zero k = refl
at_push (p ∷ rest) name (suc i) k = at_push rest name i k

publication_at-push : (packages : Packages) (name : Text) (q k : ℕ) → publication_at (packages ++ (record { name = name; versions = [] }) ∷ []) q k ≡ publication_at packages q k
unfolding publication_at package_at
publication_at-push packages name zero k = refl
publication_at-push packages name (suc i) k = at_push packages name i k

publication_at-name : (packages : Packages) (name : Text) (q k : ℕ) → publication_at (with_name packages name) q k ≡ publication_at packages q k
publication_at-name packages name q k =
    elim (is_known packages name) as (λ b. publication_at (if b then packages else packages ++ (record { name = name; versions = [] }) ∷ []) q k ≡ publication_at packages q k) [
      | true ↦ refl
      | false ↦ publication_at-push packages name q k
    ]

publication_at-listed : (packages : Packages) (added : List Text) (q k : ℕ) → publication_at (with_listed packages added) q k ≡ publication_at packages q k
publication_at-listed packages [] q k = refl
publication_at-listed packages (name ∷ rest) q k = publication_at-listed (with_name packages name) rest q k ∙ publication_at-name packages name q k

-- ---- one package's publications

number_from-versions : (n : ℕ) (name : Text) (change : List Publication → List Publication) (packages : Packages) (other : Text)
    → number_from n (with_versions name change packages) other ≡ number_from n packages other
number_from-versions n name change [] other = refl
number_from-versions n name change (p ∷ rest) other = elim (cases_Bool (is_named name p)) [
  | inl t ↦ rw t refl
  | inr f ↦ rw f (ap (λ (o : Option ℕ). if is_named other p then Some n else o) (number_from-versions (suc n) name change rest other))
]

-- the package at this place is the one of the name, and its publications are changed
record Placed (n : ℕ) (name : Text) (change : List Publication → List Publication) (packages : Packages) (i : ℕ) : Type 0 where
  pack : Package
  number : number_from n packages name ≡ Some (n + i)
  was : slice_get packages i ≡ Some pack
  now_is : slice_get (with_versions name change packages) i ≡ Some (record { name = pack.name; versions = change pack.versions })

placed : (n : ℕ) (name : Text) (change : List Publication → List Publication) (packages : Packages) (i : ℕ)
    → (slice_get (with_versions name change packages) i ≡ slice_get packages i) ⊎ Placed n name change packages i
placed n name change [] i = inl refl
placed n name change (p ∷ rest) zero = elim (cases_Bool (is_named name p)) [
  | inl t ↦
      let same : n ≡ n + 0 = omega arith in
      inr (record { pack = p; number = rw t (ap (λ k. Some k) same); was = refl; now_is = rw t refl })
  | inr f ↦ inl (rw f refl)
]
placed n name change (p ∷ rest) (suc i) = elim (cases_Bool (is_named name p)) [
  | inl t ↦ inl (rw t refl)
  | inr f ↦ elim (placed (suc n) name change rest i) [
    | inl same ↦ inl (rw f same)
    | inr there ↦
        let place : suc n + i ≡ n + suc i = omega arith in
        inr (record { pack = there.pack; number = rw f (there.number ∙ ap (λ k. Some k) place); was = there.was; now_is = rw f there.now_is })
  ]
]

-- how a change of publications lets them be: what is fresh is told by the publications before and an ordinal
record IsGentle (change : List Publication → List Publication) (Fresh : List Publication → ℕ → Type 0) : Type 0 where
  needs : (versions : List Publication) (k : ℕ) (d : Text × Text) → Contains (needs_or_none (slice_get versions k)) d → Contains (needs_or_none (slice_get (change versions) k)) d
  meets : (versions : List Publication) (k : ℕ) (need : Text) → publication_meets (slice_get (change versions) k) need ≡ true
      → (publication_meets (slice_get versions k) need ≡ true) ⊎ Fresh versions k

-- the version is fresh in the package of the name
record IsFreshAt (name : Text) (change : List Publication → List Publication) (Fresh : List Publication → ℕ → Type 0) (packages : Packages) (q k : ℕ) : Type 0 where
  versions : List Publication
  number : number_of (with_versions name change packages) name ≡ Some q
  now_is : versions_or_none (package_at (with_versions name change packages) q) ≡ change versions
  fresh : Fresh versions k

number_of-versions : (name : Text) (change : List Publication → List Publication) (packages : Packages) (other : Text) → number_of (with_versions name change packages) other ≡ number_of packages other
unfolding number_of
number_of-versions name change packages other = number_from-versions 1 name change packages other

at_versions : (name : Text) (change : List Publication → List Publication) (packages : Packages) (i : ℕ) (there : Placed 1 name change packages i)
    → (number_of packages name ≡ Some (suc i)) × (package_at packages (suc i) ≡ Some there.pack)
    × (package_at (with_versions name change packages) (suc i) ≡ Some (record { name = there.pack.name; versions = change there.pack.versions }))
unfolding number_of package_at
at_versions name change packages i there = let place : 1 + i ≡ suc i = omega arith in (there.number ∙ ap (λ k. Some k) place, there.was, there.now_is)

same_place : (name : Text) (change : List Publication → List Publication) (packages : Packages) (i : ℕ) → slice_get (with_versions name change packages) i ≡ slice_get packages i
    → package_at (with_versions name change packages) (suc i) ≡ package_at packages (suc i)
unfolding package_at
same_place name change packages i e = e

no_package : (packages : Packages) → package_at packages zero ≡ None
unfolding package_at
no_package packages = refl

publication_in : (packages : Packages) (q k : ℕ) (o : Option Package) → package_at packages q ≡ o → publication_at packages q k ≡ option_and_then (λ (pack : Package). slice_get pack.versions k) o
unfolding publication_at
publication_in packages q k o e = ap (λ (u : Option Package). option_and_then (λ (pack : Package). slice_get pack.versions k) u) e

module _ (name : Text) (change : List Publication → List Publication) (Fresh : List Publication → ℕ → Type 0) (gentle : IsGentle change Fresh) (packages : Packages) where
  needs_same : (q k : ℕ) (d : Text × Text) → package_at (with_versions name change packages) q ≡ package_at packages q
      → Contains (needs_of packages q k) d → Contains (needs_of (with_versions name change packages) q k) d
  needs_same q k d e h =
      subst (λ (o : Option Publication). Contains (needs_or_none o) d)
      (publication_in packages q k (package_at packages q) refl ∙ sym (publication_in (with_versions name change packages) q k (package_at packages q) e)) h

  meets_same : (q k : ℕ) (need : Text) → package_at (with_versions name change packages) q ≡ package_at packages q
      → meets_at (with_versions name change packages) q k need ≡ true → meets_at packages q k need ≡ true
  meets_same q k need e h =
      subst (λ (o : Option Publication). publication_meets o need ≡ true)
      (publication_in (with_versions name change packages) q k (package_at packages q) e ∙ sym (publication_in packages q k (package_at packages q) refl)) h

  needs_grow : (q k : ℕ) (d : Text × Text) → Contains (needs_of packages q k) d → Contains (needs_of (with_versions name change packages) q k) d
  needs_grow zero k d h = needs_same zero k d (no_package (with_versions name change packages) ∙ sym (no_package packages)) h
  needs_grow (suc i) k d h = elim (placed 1 name change packages i) [
    | inl same ↦ needs_same (suc i) k d (same_place name change packages i same) h
    | inr there ↦
        let at = at_versions name change packages i there in
        subst (λ (o : Option Publication). Contains (needs_or_none o) d) (sym (publication_in (with_versions name change packages) (suc i) k _ at.2))
        (gentle.needs there.pack.versions k d (subst (λ (o : Option Publication). Contains (needs_or_none o) d) (publication_in packages (suc i) k _ at.1) h))
  ]

  meets_grow : (q k : ℕ) (need : Text) → meets_at (with_versions name change packages) q k need ≡ true → (meets_at packages q k need ≡ true) ⊎ IsFreshAt name change Fresh packages q k
  meets_grow zero k need h = inl (meets_same zero k need (no_package (with_versions name change packages) ∙ sym (no_package packages)) h)
  meets_grow (suc i) k need h = elim (placed 1 name change packages i) [
    | inl same ↦ inl (meets_same (suc i) k need (same_place name change packages i same) h)
    | inr there ↦
        let at = at_versions name change packages i there in
        elim (gentle.meets there.pack.versions k need (subst (λ (o : Option Publication). publication_meets o need ≡ true) (publication_in (with_versions name change packages) (suc i) k _ at.2) h)) [
          | inl before ↦ inl (subst (λ (o : Option Publication). publication_meets o need ≡ true) (sym (publication_in packages (suc i) k _ at.1)) before)
          | inr fresh ↦ inr (record {
            versions = there.pack.versions;
            number = number_of-versions name change packages name ∙ at.0;
            now_is = ap versions_or_none at.2;
            fresh = fresh;
          })
        ]
  ]

  grows_versions : Grows packages (with_versions name change packages) (IsFreshAt name change Fresh packages)
  grows_versions = record {
    numbers = λ other n e. number_of-versions name change packages other ∙ e;
    needs = needs_grow;
    meets = meets_grow;
  }

-- ---- yanks

needs-set_yanked : (version : Text) (yanked : Bool) (versions : List Publication) (k : ℕ) → needs_or_none (slice_get (set_yanked version yanked versions) k) ≡ needs_or_none (slice_get versions k)
needs-set_yanked version yanked [] k = refl
needs-set_yanked version yanked (v ∷ rest) zero = elim (cases_Bool (same_precedence version v.version)) [ inl t ↦ rw t refl | inr f ↦ rw f refl ]
needs-set_yanked version yanked (v ∷ rest) (suc k) = elim (cases_Bool (same_precedence version v.version)) [ inl t ↦ rw t refl | inr f ↦ rw f (needs-set_yanked version yanked rest k) ]

meets-set_yanked : (version : Text) (yanked : Bool) (versions : List Publication) (k : ℕ) (need : Text)
    → publication_meets (slice_get (set_yanked version yanked versions) k) need ≡ publication_meets (slice_get versions k) need
meets-set_yanked version yanked [] k need = refl
meets-set_yanked version yanked (v ∷ rest) zero need = elim (cases_Bool (same_precedence version v.version)) [ inl t ↦ rw t refl | inr f ↦ rw f refl ]
meets-set_yanked version yanked (v ∷ rest) (suc k) need = elim (cases_Bool (same_precedence version v.version)) [ inl t ↦ rw t refl | inr f ↦ rw f (meets-set_yanked version yanked rest k need) ]

-- a yank, or its undoing, lets every version be what it was to requirements
pub grows_yanked : (packages : Packages) (name version : Text) (yanked : Bool) → Grows packages (with_versions name (set_yanked version yanked) packages) Nothing
grows_yanked packages name version yanked =
    let grows = grows_versions name (set_yanked version yanked) (λ versions k. ⊥) (record {
      needs = λ versions k d h. subst (λ (l : List (Text × Text)). Contains l d) (sym (needs-set_yanked version yanked versions k)) h;
      meets = λ versions k need h. inl (sym (meets-set_yanked version yanked versions k need) ∙ h);
    }) packages in
    record {
      numbers = grows.numbers;
      needs = grows.needs;
      meets = λ q k need h. elim (grows.meets q k need h) [ inl before ↦ inl before | inr fresh ↦ absurd fresh.fresh ];
    }

-- ---- publications

needs-push : (versions : List Publication) (v : Publication) (k : ℕ) (d : Text × Text) → Contains (needs_or_none (slice_get versions k)) d → Contains (needs_or_none (slice_get (versions ++ v ∷ []) k)) d
needs-push [] v k d h = absurd (omega (arith, h.1))
needs-push (x ∷ rest) v zero d h = h
needs-push (x ∷ rest) v (suc k) d h = needs-push rest v k d h

meets-push : (versions : List Publication) (v : Publication) (k : ℕ) (need : Text) → publication_meets (slice_get (versions ++ v ∷ []) k) need ≡ true
    → (publication_meets (slice_get versions k) need ≡ true) ⊎ (k ≡ length versions)
meets-push [] v zero need h = inr refl
meets-push [] v (suc k) need h = inl h
meets-push (x ∷ rest) v zero need h = inl h
meets-push (x ∷ rest) v (suc k) need h = elim (meets-push rest v k need h) [ inl before ↦ inl before | inr last ↦ inr (ap suc last) ]

-- the version is the last one of the package of the name
pub record IsLast (packages : Packages) (name : Text) (q k : ℕ) : Type 0 where
  pub number : number_of packages name ≡ Some q
  pub place : k ≡ length (versions_or_none (package_at packages q)) - 1

-- after a publication only its own version is fresh
pub grows_published : NumbersLast → (packages : Packages) (name version : Text) (needs : List (Text × Text)) → Grows packages (publish packages name version needs) (IsLast (publish packages name version needs) name)
grows_published lasting packages name version needs =
    let added : Publication = record { version = version; needs = needs; yanked = false } in
    let grows = grows_versions name (λ versions. versions ++ added ∷ []) (λ versions k. k ≡ length versions) (record {
      needs = λ versions k d h. needs-push versions added k d h;
      meets = λ versions k need h. meets-push versions added k need h;
    }) (with_named packages name needs) in
    record {
      numbers = λ other n e. grows.numbers other n (lasting packages (name ∷ names_of needs) other n e);
      needs = λ q k d h. grows.needs q k d (subst (λ (o : Option Publication). Contains (needs_or_none o) d) (sym (publication_at-listed packages (name ∷ names_of needs) q k)) h);
      meets = λ q k need h. elim (grows.meets q k need h) [
        | inl before ↦ inl (subst (λ (o : Option Publication). publication_meets o need ≡ true) (publication_at-listed packages (name ∷ names_of needs) q k) before)
        | inr fresh ↦
            let e : length (fresh.versions ++ added ∷ []) ≡ length fresh.versions + 1 = length-append fresh.versions (added ∷ []) in
            let whole : length (versions_or_none (package_at (publish packages name version needs) q)) ≡ length fresh.versions + 1 = ap length fresh.now_is ∙ e in
            inr (record { number = fresh.number; place = fresh.fresh ∙ (omega (arith, whole)) })
      ];
    }
