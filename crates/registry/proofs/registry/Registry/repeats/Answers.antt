use Rattle.std.proofs.Common.{ℕ, ◌<◌, ◌∙◌, ap, arith, length, subst, sym, true≢false}
use Rattle.std.specs.Prelude.{is_some, slice_get}
use Rattle.registry.specs.Registry.{Packages, Repeats, needs_or_none, package_at, versions_or_none}
use Rattle.registry.proofs.PackageLemmas.{publication_at-versions, publication-within, published-below}
use Rattle.registry.proofs.registry.Registry.repeats.Goals as goal

-- a version that repeats is among those of its package
within : (packages : Packages) (p k : ℕ) → Repeats packages p k → k < length (versions_or_none (package_at packages p))
within packages p k same =
    publication-within (versions_or_none (package_at packages p)) k (ap is_some (sym (publication_at-versions packages p k)) ∙ same.0)

pub returns-in-None-clause-length : goal.returns-in-None-clause-length
returns-in-None-clause-length c = ap length c.in-None.ensures.publications

pub returns-in-None-clause-marks : goal.returns-in-None-clause-marks
returns-in-None-clause-marks c k = (
  λ yes. absurd (true≢false (sym (ap is_some yes))),
  λ same.
      let lt = within c.args.self.now.packages c.args.pkg k same in
      let none = ap length c.in-None.ensures.publications in
      absurd (omega (arith, lt, none)),
)

pub returns-in-Some-clause-length : goal.returns-in-Some-clause-length
returns-in-Some-clause-length c = c.repeats.ensures.length ∙ ap length c.in-Some.ensures.publications

pub returns-in-Some-clause-marks : goal.returns-in-Some-clause-marks
returns-in-Some-clause-marks c k =
    let packages = c.args.self.now.packages in
    let at = publication_at-versions packages c.args.pkg in
    let here = c.in-Some.ensures.publications in (
      λ yes.
          let alike = (c.repeats.ensures.marks k).0 yes in (
            published-below packages c.args.pkg k (subst (λ l. k < length l) here alike.0),
            alike.1,
            alike.2,
            ap needs_or_none (at k)
                ∙ ap (λ l. needs_or_none (slice_get l k)) (sym here)
                ∙ alike.3
                ∙ ap (λ l. needs_or_none (slice_get l alike.1)) here
                ∙ sym (ap needs_or_none (at alike.1)),
          ),
      λ same.
          (c.repeats.ensures.marks k).1 (
            subst (λ l. k < length l) (sym here) (within packages c.args.pkg k same),
            same.1,
            same.2,
            ap (λ l. needs_or_none (slice_get l k)) here
                ∙ ap needs_or_none (sym (at k))
                ∙ same.3
                ∙ ap needs_or_none (at same.1)
                ∙ ap (λ l. needs_or_none (slice_get l same.1)) (sym here),
          ),
    )
