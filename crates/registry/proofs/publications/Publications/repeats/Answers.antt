use Rattle.std.proofs.Common.{◌≡◌, ◌<◌, ap, arith, length, subst, sym}
use Rattle.std.specs.Prelude.{slice_get}
use Rattle.registry.specs.Publications.{PublicationList}
use Rattle.registry.specs.Registry.{needs_or_none}
use Rattle.registry.proofs.Alike.{alike-publications, publications-alike}
use Rattle.registry.proofs.PublicationLemmas.{length-publications_of}
use Rattle.registry.proofs.publications.Publications.repeats.Goals as goal

pub returns-clause-length : goal.returns-clause-length
returns-clause-length c =
    let len = length-publications_of c.self.inside.releases.releases c.self.inside.needs.items c.self.invariant.0 in
    let seen = ap (λ (l : PublicationList). length l.publications) c.self.view_is in
    let marks = ap length c.deref.ensures.value in
    omega (arith, c.self.invariant.0, c.self.invariant.1.0, len, seen, marks)

pub returns-clause-marks : goal.returns-clause-marks
returns-clause-marks c k =
    let releases = c.self.inside.releases.releases in
    let needs = c.self.inside.needs.items in
    let len = length-publications_of releases needs c.self.invariant.0 in
    let seen = ap (λ (l : PublicationList). length l.publications) c.self.view_is in (
      λ yes.
          let alike = (c.self.invariant.1.1 k).0 (rw (← c.deref.ensures.value) yes) in (
            omega (arith, c.self.invariant.0, len, seen, alike.0),
            alike.1,
            alike.2,
            rw (← c.self.view_is) (alike-publications releases needs k alike.1 c.self.invariant.0 alike.3),
          ),
      λ alike.
          let within : k < length needs = omega (arith, c.self.invariant.0, len, seen, alike.0) in
          rw c.deref.ensures.value ((c.self.invariant.1.1 k).1 (
            within,
            alike.1,
            alike.2,
            publications-alike releases needs k alike.1 c.self.invariant.0 within (omega (arith, alike.2, within)) (subst (λ (l : PublicationList). needs_or_none (slice_get l.publications k) ≡ needs_or_none (slice_get l.publications alike.1)) (sym c.self.view_is) alike.3),
          )),
    )
