use Rattle.std.proofs.Common.{◌≡◌, ◌∙◌, ap, sym, ℕ, List, true}
use Rattle.std.specs.Prelude.{IfSome, None, Option, Some, is_some, slice_get}
use Rattle.versions.specs.Words.{Text}
use Rattle.registry.specs.Registry.{Packages, Publication, equals_at, has_version, package_at, publication_equals, versions_or_none}
use Rattle.registry.proofs.Finding.{found-only, none-equals}
use Rattle.registry.proofs.PackageLemmas.{publication_at-versions}
use Rattle.registry.proofs.registry.Registry.find.Goals as goal

found : (packages : Packages) (p : ℕ) (version : Text) (list : List Publication) → list ≡ versions_or_none (package_at packages p) → (result : Option ℕ)
    → IfSome result (λ k. publication_equals (slice_get list k) version ≡ true) → IfSome result (λ k. equals_at packages p k version ≡ true)
found packages p version list same None h = h
found packages p version list same (Some k) h =
    ap (λ o. publication_equals o version) (publication_at-versions packages p k) ∙ sym (ap (λ l. publication_equals (slice_get l k) version) same) ∙ h

pub returns-clause-found : goal.returns-clause-found
returns-clause-found c = found c.args.self.now.packages c.args.pkg c.args.version.now c.in_ok-publications_at.field-0.now.publications c.in_ok-publications_at.ensures.publications c.find.result c.find.ensures.found

pub returns-clause-only : goal.returns-clause-only
returns-clause-only c =
    found-only c.equal_precedence_is_an_equivalence.ensures.equivalence c.args.self.now.packages c.args.pkg c.args.version.now c.find.result c.in_ok-publications_at.ensures.reachable
    (found c.args.self.now.packages c.args.pkg c.args.version.now c.in_ok-publications_at.field-0.now.publications c.in_ok-publications_at.ensures.publications c.find.result c.find.ensures.found)

pub returns-clause-none : goal.returns-clause-none
returns-clause-none c =
    none-equals c.args.self.now.packages c.args.pkg c.args.version.now c.find.result
    (c.find.ensures.there ∙ ap (λ l. has_version l c.args.version.now) c.in_ok-publications_at.ensures.publications)

pub returns-in_err-publications_at-clause-none : goal.returns-in_err-publications_at-clause-none
returns-in_err-publications_at-clause-none c =
    none-equals c.args.self.now.packages c.args.pkg c.args.version.now c.from_residual.result
    (ap is_some c.from_residual.ensures ∙ ap (λ l. has_version l c.args.version.now) c.in_err-publications_at.ensures.publications)
