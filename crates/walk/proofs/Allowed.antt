-- Which versions are allowed of a package that has no yanked version.
use Rattle.std.proofs.Common.{◌≡◌, ◌<◌, ◌≤◌, ◌∙◌, ◌||◌, ℕ, zero, suc, refl, sym, ap, arith, List, [], ◌∷◌, length, inl, inr, nat_lt, not, true, false}
use Rattle.std.proofs.lemmas.Bool.{cases_Bool, ltb-false, ltb-true, or_parts}
use Rattle.std.proofs.lemmas.Option.{slice_get_past}
use Rattle.std.specs.Option.{option_and_then}
use Rattle.std.specs.Prelude.{None, Option, Some, slice_get}
use Rattle.registry.specs.Registry.{Package, Packages, Publication, has_yank, package_at, publication_at, versions_or_none}
use Rattle.registry.specs.Requests.{Wanted, allows_some, is_allowed, is_locked}

unyanked_at : (wanted : Wanted) (pack : Package) (versions : List Publication) (k : ℕ) → has_yank versions ≡ false → k < length versions
    → allows_some wanted (Some pack) (slice_get versions k) ≡ true
unyanked_at wanted pack [] k none lt = absurd (omega arith)
unyanked_at wanted pack (v ∷ versions) zero none lt = ap (λ b. not b || is_locked wanted.lock pack.name v.version) (or_parts v.yanked (has_yank versions) none).0
unyanked_at wanted pack (v ∷ versions) (suc k) none lt = unyanked_at wanted pack versions k (or_parts v.yanked (has_yank versions) none).1 (omega arith)

module _ (packages : Packages) (wanted : Wanted) (p k : ℕ) where
  published_allowed : has_yank (versions_or_none (package_at packages p)) ≡ false → k < length (versions_or_none (package_at packages p)) → is_allowed packages wanted p k ≡ true
  unfolding is_allowed publication_at
  published_allowed none lt = by (package_at packages p) none lt
    where
      by : (o : Option Package) → has_yank (versions_or_none o) ≡ false → k < length (versions_or_none o)
          → allows_some wanted o (option_and_then (λ (pack : Package). slice_get pack.versions k) o) ≡ true
      by None n l = absurd (omega arith)
      by (Some pack) n l = unyanked_at wanted pack pack.versions k n l

  unpublished_not_allowed : length (versions_or_none (package_at packages p)) ≤ k → is_allowed packages wanted p k ≡ false
  unfolding is_allowed publication_at
  unpublished_not_allowed le = by (package_at packages p) le
    where
      by : (o : Option Package) → length (versions_or_none o) ≤ k → allows_some wanted o (option_and_then (λ (pack : Package). slice_get pack.versions k) o) ≡ false
      by None l = refl
      by (Some pack) l = ap (allows_some wanted (Some pack)) (slice_get_past pack.versions k l)

  -- those that are published are allowed
  pub allowed_by_count : (count : ℕ) → count ≡ length (versions_or_none (package_at packages p)) → has_yank (versions_or_none (package_at packages p)) ≡ false
      → nat_lt k count ≡ is_allowed packages wanted p k
  allowed_by_count count is none = elim (cases_Bool (nat_lt k count)) [
    | inl t ↦ let lt = ltb-true k count t in t ∙ sym (published_allowed none (omega (arith, lt, is)))
    | inr f ↦ let le = ltb-false k count f in f ∙ sym (unpublished_not_allowed (omega (arith, le, is)))
  ]
