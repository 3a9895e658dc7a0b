use Rattle.std.proofs.Common.{◌≡◌, ap, arith, length, subst, sym}
use Rattle.std.specs.Prelude.{slice_get}
use Rattle.registry.specs.Publications.{PublicationList}
use Rattle.registry.specs.Registry.{needs_or_none}
use Rattle.registry.proofs.Alike.{alike-publications, publications-alike}
use Rattle.registry.proofs.PublicationLemmas.{length-publications_of}
use Rattle.registry.proofs.publications.Publications.is_alike.Goals as goal

pub returns : goal.returns
returns c =
    let releases = c.self.inside.releases.releases in
    let needs = c.self.inside.needs.items in
    let len = length-publications_of releases needs c.self.invariant.0 in
    let seen = ap (λ (l : PublicationList). length l.publications) c.self.view_is in (
      λ yes k j e lt.
          subst (λ (l : PublicationList). needs_or_none (slice_get l.publications k) ≡ needs_or_none (slice_get l.publications j)) c.self.view_is
          (alike-publications releases needs k j c.self.invariant.0 (c.self.invariant.6.0 yes k j e (omega (arith, lt, len, seen, c.self.invariant.0)))),
      λ all. c.self.invariant.6.1 (λ k j e lt.
          publications-alike releases needs k j c.self.invariant.0 lt (omega (arith, e, lt))
          (subst (λ (l : PublicationList). needs_or_none (slice_get l.publications k) ≡ needs_or_none (slice_get l.publications j)) (sym c.self.view_is)
          (all k j e (omega (arith, lt, len, seen, c.self.invariant.0))))),
    )
