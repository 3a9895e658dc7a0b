-- What is found of a package's versions is the only one.
use Rattle.std.proofs.Common.{◌≡◌, ◌<◌, ◌∙◌, ℕ, zero, suc, List, [], ◌∷◌, Bool, length, refl, sym, ap, arith, true, false, true≢false}
use Rattle.std.specs.Prelude.{IfNone, IfSome, None, Option, Some, is_some, slice_get}
use Rattle.std.specs.Ordering.{is_eq, ordering_reverse}
use Rattle.std.specs.declared.cmp.Ordering.{Ordering}
use Rattle.std.specs.declared.cmp.Ordering.TheVariants.{Less, Equal, Greater}
use Rattle.std.proofs.lemmas.Bool.{or_parts}
use Rattle.versions.specs.Precedence.{EqualPrecedenceIsATie, EqualPrecedenceIsAnEquivalence, PrecedenceIsATotalPreorder}
use Rattle.versions.specs.Words.{Text, precedence, same_precedence}
use Rattle.registry.specs.Highest.{IsHighest}
use Rattle.registry.specs.Lawful.{IsRegistry}
use Rattle.registry.specs.Registry.{Packages, Publication, equals_at, has_version, package_at, publication_at, publication_equals, versions_or_none}
use Rattle.registry.proofs.PackageLemmas.{publication_at-versions}
use Rattle.registry.proofs.RegistryLaws.{distinct-precedence}

-- ---- by precedence

-- what equals a version is published and has its precedence
equals : (packages : Packages) (p k : ℕ) (version : Text) → equals_at packages p k version ≡ true
    → (v : Publication) × (publication_at packages p k ≡ Some v) × (same_precedence version v.version ≡ true)
equals packages p k version t = by (publication_at packages p k) refl t
  where
    by : (o : Option Publication) → publication_at packages p k ≡ o → publication_equals o version ≡ true
        → (v : Publication) × (publication_at packages p k ≡ Some v) × (same_precedence version v.version ≡ true)
    by None at e = absurd (true≢false (sym e))
    by (Some v) at e = (v, at, e)

equal-once : EqualPrecedenceIsAnEquivalence → (packages : Packages) (p i j : ℕ) (version : Text) → IsRegistry packages
    → equals_at packages p i version ≡ true → equals_at packages p j version ≡ true → i ≡ j
equal-once equal packages p i j version lawful one two =
    let u = equals packages p i version one in
    let v = equals packages p j version two in
    distinct-precedence equal packages p i j u.0 v.0 lawful u.1 v.1 (equal.congr u.0.version version v.0.version (equal.symm u.0.version version ∙ u.2) ∙ v.2)

pub found-only : EqualPrecedenceIsAnEquivalence → (packages : Packages) (p : ℕ) (version : Text) (result : Option ℕ) → IsRegistry packages
    → IfSome result (λ k. equals_at packages p k version ≡ true) → IfSome result (λ k. (j : ℕ) → equals_at packages p j version ≡ true → j ≡ k)
found-only equal packages p version None lawful found = tt
found-only equal packages p version (Some k) lawful found = λ j t. equal-once equal packages p j k version lawful t found

-- where no version has equal precedence, none is found
pub none-equals : (packages : Packages) (p : ℕ) (version : Text) (result : Option ℕ) → is_some result ≡ has_version (versions_or_none (package_at packages p)) version
    → IfNone result ((k : ℕ) → equals_at packages p k version ≡ false)
none-equals packages p version (Some k) e = tt
none-equals packages p version None e = λ k.
    ap (λ o. publication_equals o version) (publication_at-versions packages p k) ∙ each (versions_or_none (package_at packages p)) k (sym e)
  where
    each : (xs : List Publication) (i : ℕ) → has_version xs version ≡ false → publication_equals (slice_get xs i) version ≡ false
    each [] i f = refl
    each (x ∷ xs) zero f = (or_parts (same_precedence version x.version) (has_version xs version) f).0
    each (x ∷ xs) (suc i) f = each xs i (or_parts (same_precedence version x.version) (has_version xs version) f).1

-- ---- the highest

there : (xs : List Publication) (i : ℕ) → i < length xs → (v : Publication) × (slice_get xs i ≡ Some v)
there [] i lt = absurd (omega arith)
there (x ∷ xs) zero lt = (x, refl)
there (x ∷ xs) (suc i) lt = there xs i (omega arith)

module _ (ordered : PrecedenceIsATotalPreorder) (equal : EqualPrecedenceIsAnEquivalence) (tie : EqualPrecedenceIsATie)
    (packages : Packages) (p : ℕ) (test : ℕ → Bool) (i j : ℕ) (lawful : IsRegistry packages)
    (one : IsHighest (λ k b. test k ≡ b) (versions_or_none (package_at packages p)) i)
    (two : IsHighest (λ k b. test k ≡ b) (versions_or_none (package_at packages p)) j) where
  by_precedence : (u v : Publication) → slice_get (versions_or_none (package_at packages p)) i ≡ Some u → slice_get (versions_or_none (package_at packages p)) j ≡ Some v
      → (o : Ordering) → precedence u.version v.version ≡ o → i ≡ j
  by_precedence u v at_i at_j Less e = absurd (true≢false (sym two.passes ∙ one.fails j u v at_i at_j e))
  by_precedence u v at_i at_j Greater e =
      absurd (true≢false (sym one.passes ∙ two.fails i v u at_j at_i (ordered.antisymm v.version u.version ∙ ap ordering_reverse e)))
  by_precedence u v at_i at_j Equal e =
      distinct-precedence equal packages p i j u v lawful (publication_at-versions packages p i ∙ at_i) (publication_at-versions packages p j ∙ at_j)
      (tie u.version v.version ∙ ap is_eq e)

  -- a package has one highest version that passes a test, at most
  pub highest-once : i ≡ j
  highest-once =
      let u = there (versions_or_none (package_at packages p)) i one.published in
      let v = there (versions_or_none (package_at packages p)) j two.published in
      by_precedence u.0 v.0 u.1 v.1 (precedence u.0.version v.0.version) refl
