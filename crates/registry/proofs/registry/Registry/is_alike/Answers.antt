use Rattle.std.proofs.Common.{◌<◌, ◌∙◌, ap, arith, length, refl, subst, sym}
use Rattle.std.specs.Prelude.{slice_get}
use Rattle.registry.specs.Registry.{needs_or_none}
use Rattle.registry.proofs.PackageLemmas.{publication_at-versions}
use Rattle.registry.proofs.registry.Registry.is_alike.Goals as goal

pub returns-in-None : goal.returns-in-None
returns-in-None c = (
  λ yes k j e lt. absurd (omega (arith, lt, ap length c.in-None.ensures.publications)),
  λ all. refl,
)

pub returns-in-Some : goal.returns-in-Some
returns-in-Some c =
    let packages = c.args.self.now.packages in
    let at = publication_at-versions packages c.args.pkg in
    let here = c.in-Some.ensures.publications in (
      λ yes k j e lt.
          ap needs_or_none (at k)
          ∙ ap (λ l. needs_or_none (slice_get l k)) (sym here)
          ∙ c.is_alike.ensures.0 yes k j e (subst (λ l. k < length l) (sym here) lt)
          ∙ ap (λ l. needs_or_none (slice_get l j)) here
          ∙ sym (ap needs_or_none (at j)),
      λ all. c.is_alike.ensures.1 (λ k j e lt.
          ap (λ l. needs_or_none (slice_get l k)) here
          ∙ ap needs_or_none (sym (at k))
          ∙ all k j e (subst (λ l. k < length l) here lt)
          ∙ ap needs_or_none (at j)
          ∙ ap (λ l. needs_or_none (slice_get l j)) (sym here)),
    )
