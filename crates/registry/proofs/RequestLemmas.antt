-- Requests: which there are, and what their lines say of a version.
use Rattle.std.proofs.Common.{◌≡◌, ◌<◌, ◌≤◌, ◌∙◌, inl, inr, ℕ, zero, suc, List, [], ◌∷◌, length, refl, sym, ap, arith, Bool, true, false, true≢false, ◌||◌, ◌&&◌, not, nat_lt, cond}
use Rattle.std.specs.Prelude.{Option, Some, None, Ok, Err, is_some, slice_get}
use Rattle.std.specs.Cmp.Lexicographic.{nat_list_eq_equiv}
use Rattle.std.specs.List.{IsDistinct}
use Rattle.std.specs.Map.{keys_of, lookup}
use Rattle.std.specs.Option.{option_and_then, option_map}
use Rattle.std.specs.Str.{bytes_eq}
use Rattle.std.proofs.lemmas.Bool.{cases_Bool, le-ltb, lt-ltb, or_parts}
use Rattle.std.proofs.lemmas.Map.{NonePasses}
use Rattle.std.proofs.lemmas.Map.Entries.{none_past_head}
use Rattle.std.proofs.lemmas.Map.Keys.{IsDistinct-tail}
use Rattle.std.proofs.lemmas.Option.{slice_get_past}
use Rattle.versions.specs.Words.{Text, meets, same_precedence}
use Rattle.versions.specs.declared.refusal.Refusal.{Refusal}
use Rattle.versions.specs.declared.refusal.Refusal.TheVariants as refusal
use Rattle.registry.specs.Needs.{repeats, repeats_name}
use Rattle.registry.specs.Preference.{admits, meets_needs}
use Rattle.registry.specs.Registry.{Package, Packages, Publication, is_published, package_at, publication_at, versions_or_none}
use Rattle.registry.specs.Requests.{Wanted, allows, allows_some, is_allowed, is_locked, locks, request_in, request_refusal, unless_refused}
use Rattle.registry.specs.Step.{first_that_holds}
use Rattle.registry.proofs.NeedLemmas.{distinct-once, repeats_name-names}
use Rattle.registry.proofs.RegistryLaws.{publication_at-package}
use Rattle.registry.specs.declared.registry.TheConstants.{NEED_LIMIT}
use Rattle.registry.specs.declared.requests.TheConstants.{LOCK_LIMIT}

-- ---- which requests there are

or-true : (b : Bool) → (b || true) ≡ true
or-true true = refl
or-true false = refl

abbrev refused : Bool → Bool → Option Refusal
refused repeated many = first_that_holds ((repeated, refusal.RepeatedDependency) ∷ (many, refusal.TooManyDependencies) ∷ [])

module _ (needs lock : List (Text × Text)) where
  abbrev wanted : Wanted
  wanted = record { needs = needs; lock = lock }

  abbrev many_lines : Bool
  many_lines = nat_lt NEED_LIMIT (length needs) || nat_lt LOCK_LIMIT (length lock)

  repeated-names : (repeats_name needs || repeats_name lock) ≡ (repeats (keys_of needs) || repeats (keys_of lock))
  repeated-names =
      ap (λ b. b || repeats_name lock) (repeats_name-names needs) ∙ ap (λ b. repeats (keys_of needs) || b) (repeats_name-names lock)

  refuses : (repeated many : Bool) → (repeats (keys_of needs) || repeats (keys_of lock)) ≡ repeated → many_lines ≡ many → request_refusal wanted ≡ refused repeated many
  refuses repeated many e f = ap (λ b. refused b many_lines) (repeated-names ∙ e) ∙ ap (λ b. refused repeated b) f

  -- a name comes twice among the needs
  pub request-repeated_need : repeats (keys_of needs) ≡ true → request_in needs lock ≡ Err refusal.RepeatedDependency
  request-repeated_need t = ap (λ o. unless_refused o wanted) (refuses true many_lines (ap (λ b. b || repeats (keys_of lock)) t) refl)

  -- a name comes twice among the lock's lines
  pub request-repeated_line : repeats (keys_of lock) ≡ true → request_in needs lock ≡ Err refusal.RepeatedDependency
  request-repeated_line t =
      ap (λ o. unless_refused o wanted) (refuses true many_lines (ap (λ b. repeats (keys_of needs) || b) t ∙ or-true (repeats (keys_of needs))) refl)

  module _ (no_need : repeats (keys_of needs) ≡ false) (no_line : repeats (keys_of lock) ≡ false) where
    once : (repeats (keys_of needs) || repeats (keys_of lock)) ≡ false
    once = ap (λ b. b || repeats (keys_of lock)) no_need ∙ no_line

    -- no name comes twice, and there are too many needs
    pub request-many_needs : NEED_LIMIT < length needs → request_in needs lock ≡ Err refusal.TooManyDependencies
    request-many_needs lt =
        ap (λ o. unless_refused o wanted) (refuses false true once (ap (λ b. b || nat_lt LOCK_LIMIT (length lock)) (lt-ltb NEED_LIMIT (length needs) lt)))

    -- no name comes twice, and the lock has too many lines
    pub request-many_lines : LOCK_LIMIT < length lock → request_in needs lock ≡ Err refusal.TooManyDependencies
    request-many_lines lt =
        ap (λ o. unless_refused o wanted)
        (refuses false true once (ap (λ b. nat_lt NEED_LIMIT (length needs) || b) (lt-ltb LOCK_LIMIT (length lock) lt) ∙ or-true (nat_lt NEED_LIMIT (length needs))))

    -- there is no fault
    pub request-lawful : length needs ≤ NEED_LIMIT → length lock ≤ LOCK_LIMIT → request_refusal wanted ≡ None
    request-lawful few lines =
        refuses false false once (ap (λ b. b || nat_lt LOCK_LIMIT (length lock)) (le-ltb NEED_LIMIT (length needs) few) ∙ le-ltb LOCK_LIMIT (length lock) lines)

  pub request-made : request_refusal wanted ≡ None → request_in needs lock ≡ Ok wanted
  request-made e = ap (λ o. unless_refused o wanted) e

  -- a request names no package twice among its needs, nor among its lock's lines
  pub lawful-once : request_refusal wanted ≡ None → (repeats (keys_of needs) ≡ false) × (repeats (keys_of lock) ≡ false)
  lawful-once e = elim (cases_Bool (repeats (keys_of needs) || repeats (keys_of lock))) [
    | inl t ↦ absurd (cc (sym (refuses true many_lines t refl) ∙ e))
    | inr f ↦ or_parts (repeats (keys_of needs)) (repeats (keys_of lock)) f
  ]

-- ---- what the line of a package says

or-false : (b : Bool) → (b || false) ≡ b
or-false true = refl
or-false false = refl

and-true : (b : Bool) → (b && true) ≡ b
and-true true = refl
and-true false = refl

module _ (name version : Text) where
  not_locked : (lock : List (Text × Text)) → NonePasses (bytes_eq name) lock → is_locked lock name version ≡ false
  not_locked [] h = refl
  not_locked (l ∷ rest) h = ap (λ b. (b && same_precedence l.1 version) || is_locked rest name version) h.0 ∙ not_locked rest h.1

  not_needed : (needs : List (Text × Text)) → NonePasses (bytes_eq name) needs → meets_needs needs name version ≡ true
  not_needed [] h = refl
  not_needed (n ∷ rest) h = ap (λ b. (not b || meets n.1 version) && meets_needs rest name version) h.0 ∙ not_needed rest h.1

  -- the lock names a version by its line of the package
  pub is_locked-lookup : (lock : List (Text × Text)) → IsDistinct bytes_eq (keys_of lock) → is_locked lock name version ≡ locks (lookup (bytes_eq name) lock) version
  is_locked-lookup [] h = refl
  is_locked-lookup (l ∷ rest) h = elim (cases_Bool (bytes_eq name l.0)) [
    | inl t ↦
        ap (λ b. (b && same_precedence l.1 version) || is_locked rest name version) t
        ∙ ap (λ b. same_precedence l.1 version || b) (not_locked rest (none_past_head nat_list_eq_equiv name l rest h t))
        ∙ or-false (same_precedence l.1 version)
        ∙ sym (ap (λ b. locks (cond b (Some l.1) (lookup (bytes_eq name) rest)) version) t)
    | inr f ↦
        ap (λ b. (b && same_precedence l.1 version) || is_locked rest name version) f
        ∙ is_locked-lookup rest (IsDistinct-tail bytes_eq l.0 (keys_of rest) h)
        ∙ sym (ap (λ b. locks (cond b (Some l.1) (lookup (bytes_eq name) rest)) version) f)
  ]

  -- a version meets the needs by the one on its package
  pub meets_needs-lookup : (needs : List (Text × Text)) → IsDistinct bytes_eq (keys_of needs) → meets_needs needs name version ≡ admits (lookup (bytes_eq name) needs) version
  meets_needs-lookup [] h = refl
  meets_needs-lookup (n ∷ rest) h = elim (cases_Bool (bytes_eq name n.0)) [
    | inl t ↦
        ap (λ b. (not b || meets n.1 version) && meets_needs rest name version) t
        ∙ ap (λ b. meets n.1 version && b) (not_needed rest (none_past_head nat_list_eq_equiv name n rest h t))
        ∙ and-true (meets n.1 version)
        ∙ sym (ap (λ b. admits (cond b (Some n.1) (lookup (bytes_eq name) rest)) version) t)
    | inr f ↦
        ap (λ b. (not b || meets n.1 version) && meets_needs rest name version) f
        ∙ meets_needs-lookup rest (IsDistinct-tail bytes_eq n.0 (keys_of rest) h)
        ∙ sym (ap (λ b. admits (cond b (Some n.1) (lookup (bytes_eq name) rest)) version) f)
  ]

  -- what the line that was found of the package says of the version
  pub is_locked-found : (lock : List (Text × Text)) (o : Option Text) → repeats (keys_of lock) ≡ false → o ≡ lookup (bytes_eq name) lock → is_locked lock name version ≡ locks o version
  is_locked-found lock o once e = is_locked-lookup lock (distinct-once (keys_of lock) once) ∙ sym (ap (λ x. locks x version) e)

  pub meets_needs-found : (needs : List (Text × Text)) (o : Option Text) → repeats (keys_of needs) ≡ false → o ≡ lookup (bytes_eq name) needs → meets_needs needs name version ≡ admits o version
  meets_needs-found needs o once e = meets_needs-lookup needs (distinct-once (keys_of needs) once) ∙ sym (ap (λ x. admits x version) e)

-- ---- which versions are allowed

allowed-of : (wanted : Wanted) (name : Text) (publication : Publication) (pack : Option Package) (o : Option Publication)
    → o ≡ Some publication → option_map (λ (p : Package). p.name) pack ≡ Some name → allows_some wanted pack o ≡ allows wanted name publication
allowed-of wanted name publication None o e n = absurd (cc n)
allowed-of wanted name publication (Some p) o e n =
    let own : p.name ≡ name = cc n in
    ap (λ (x : Option Publication). allows_some wanted (Some p) x) e ∙ ap (λ t. allows wanted t publication) own

-- a published version is allowed as its publication is
pub is_allowed-published : (packages : Packages) (wanted : Wanted) (p k : ℕ) (name : Text) (publication : Publication) → publication_at packages p k ≡ Some publication
    → option_map (λ (x : Package). x.name) (package_at packages p) ≡ Some name → is_allowed packages wanted p k ≡ allows wanted name publication
unfolding is_allowed
is_allowed-published packages wanted p k name publication e n = allowed-of wanted name publication (package_at packages p) (publication_at packages p k) e n

-- a published version that is not yanked is allowed
pub is_allowed-unyanked : (packages : Packages) (wanted : Wanted) (p k : ℕ) (publication : Publication) → publication_at packages p k ≡ Some publication
    → publication.yanked ≡ false → is_allowed packages wanted p k ≡ true
is_allowed-unyanked packages wanted p k publication e free =
    let found = publication_at-package packages p k publication e in
    is_allowed-published packages wanted p k found.0.name publication e (ap (λ o. option_map (λ (x : Package). x.name) o) found.1)
    ∙ ap (λ b. not b || is_locked wanted.lock found.0.name publication.version) free

-- one that is not published is not allowed
pub is_allowed-unpublished : (packages : Packages) (wanted : Wanted) (p k : ℕ) → publication_at packages p k ≡ None → is_allowed packages wanted p k ≡ false
unfolding is_allowed
is_allowed-unpublished packages wanted p k e = ap (λ o. allows_some wanted (package_at packages p) o) e ∙ by (package_at packages p)
  where
    by : (pack : Option Package) → allows_some wanted pack None ≡ false
    by None = refl
    by (Some x) = refl

-- one that is allowed is published
pub allowed-published : (packages : Packages) (wanted : Wanted) (p k : ℕ) → is_allowed packages wanted p k ≡ true → is_published packages p k ≡ true
allowed-published packages wanted p k t = by (publication_at packages p k) refl
  where
    by : (o : Option Publication) → publication_at packages p k ≡ o → is_some o ≡ true
    by None e = absurd (true≢false (sym t ∙ is_allowed-unpublished packages wanted p k e))
    by (Some v) e = refl

-- ---- what the lines of a request say

-- the lock names a version exactly where its line of the package does
pub locked-by_line : (wanted : Wanted) (name version : Text) (line : Option Text) → request_refusal wanted ≡ None → line ≡ lookup (bytes_eq name) wanted.lock
    → is_locked wanted.lock name version ≡ locks line version
locked-by_line wanted name version line lawful e = is_locked-found name version wanted.lock line (lawful-once wanted.needs wanted.lock lawful).1 e

-- a version meets the needs exactly where it meets the one on its package
pub met-by_need : (wanted : Wanted) (name version : Text) (need : Option Text) → request_refusal wanted ≡ None → need ≡ lookup (bytes_eq name) wanted.needs
    → meets_needs wanted.needs name version ≡ admits need version
met-by_need wanted name version need lawful e = meets_needs-found name version wanted.needs need (lawful-once wanted.needs wanted.lock lawful).0 e

-- ---- what a package's number and count tell

-- a version that is published is one of a package that is numbered
pub published-numbered : (packages : Packages) (p k : ℕ) → is_published packages p k ≡ true → p ≤ length packages
unfolding publication_at package_at
published-numbered packages zero k e = absurd (true≢false (sym e))
published-numbered packages (suc n) k e = let within = by packages n e in omega (arith, within)
  where
    by : (ps : Packages) (i : ℕ) → is_some (option_and_then (λ (pack : Package). slice_get pack.versions k) (slice_get ps i)) ≡ true → i < length ps
    by [] i t = absurd (true≢false (sym t))
    by (x ∷ rest) zero t = omega arith
    by (x ∷ rest) (suc i) t = let less = by rest i t in omega (arith, less)

-- an ordinal from the number of its package's versions on is not published
pub unpublished-from : (packages : Packages) (p k : ℕ) → length (versions_or_none (package_at packages p)) ≤ k → publication_at packages p k ≡ None
unfolding publication_at
unpublished-from packages p k le = by (package_at packages p) le
  where
    by : (o : Option Package) → length (versions_or_none o) ≤ k → option_and_then (λ (pack : Package). slice_get pack.versions k) o ≡ None
    by None h = refl
    by (Some pack) h = slice_get_past pack.versions k h
