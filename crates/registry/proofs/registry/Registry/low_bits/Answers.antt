use Rattle.std.proofs.Common.{◌≡◌, ◌∙◌, ap, sym, ℕ, List}
use Rattle.std.specs.Prelude.{IfSome, None, Option, Some, slice_get}
use Rattle.terms.specs.Words.{AreLowBits}
use Rattle.versions.specs.Words.{Text}
use Rattle.registry.specs.Registry.{Packages, Publication, meets_at, package_at, publication_meets, versions_or_none}
use Rattle.registry.proofs.PackageLemmas.{publication_at-versions}
use Rattle.registry.proofs.registry.Registry.low_bits.Goals as goal

in-package : (packages : Packages) (p at : ℕ) (list : List Publication) (named named' : List Text) → list ≡ versions_or_none (package_at packages p) → named ≡ named' → (result : Option ℕ)
    → IfSome result (λ bits. (need : Text) × (slice_get named at ≡ Some need) × AreLowBits bits (λ k. publication_meets (slice_get list k) need))
    → IfSome result (λ bits. (need : Text) × (slice_get named' at ≡ Some need) × AreLowBits bits (λ k. meets_at packages p k need))
in-package packages p at list named named' same alike None h = h
in-package packages p at list named named' same alike (Some bits) h = (
  h.0,
  ap (λ l. slice_get l at) (sym alike) ∙ h.1,
  λ k lt. h.2 k lt ∙ ap (λ l. publication_meets (slice_get l k) h.0) same ∙ sym (ap (λ o. publication_meets o h.0) (publication_at-versions packages p k)),
)

pub returns : goal.returns
returns c =
    in-package c.args.self.now.packages c.args.pkg c.args.place c.in_ok-publications_at.field-0.now.publications c.in_ok-publications_at.field-0.now.named _
    c.in_ok-publications_at.ensures.publications c.in_ok-publications_at.ensures.named c.low_bits.result c.low_bits.ensures
