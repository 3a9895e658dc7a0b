use Rattle.std.proofs.Common.{◌∙◌, ap, arith, get_or, length, sym}
use Rattle.std.specs.Prelude.{slice_get}
use Rattle.registry.specs.Publications.{PublicationList}
use Rattle.registry.proofs.PublicationLemmas.{length-publications_of, publication-placed}
use Rattle.registry.proofs.publications.Publications.at.Goals as goal

pub bounds-as_slice-place : goal.bounds-as_slice-place
bounds-as_slice-place c =
    let count = length-publications_of c.self.inside.releases.releases c.self.inside.needs.items c.self.invariant.0 in
    let seen = ap (λ (l : PublicationList). length l.publications) c.self.view_is in
    let read = ap length c.as_slice.ensures in
    omega (arith, count, seen, read, c.requires)

pub index-requires : goal.index-requires
index-requires c =
    let count = length-publications_of c.self.inside.releases.releases c.self.inside.needs.items c.self.invariant.0 in
    let seen = ap (λ (l : PublicationList). length l.publications) c.self.view_is in
    omega (arith, count, seen, c.requires, c.self.invariant.0, c.self.inside.needs.ok.0)

pub returns : goal.returns
returns c =
    let count = length-publications_of c.self.inside.releases.releases c.self.inside.needs.items c.self.invariant.0 in
    let seen = ap (λ (l : PublicationList). length l.publications) c.self.view_is in
    ap (λ (l : PublicationList). slice_get l.publications c.args.ordinal) (sym c.self.view_is)
    ∙ publication-placed c.self.inside.releases.releases c.self.inside.needs.items c.args.ordinal c.index-as_slice-place.result c.index.result.now c.self.invariant.0
    (omega (arith, count, seen, c.requires))
    (c.index-as_slice-place.is ∙ ap (λ l. get_or l c.args.ordinal c.index-as_slice-place.result) c.as_slice.ensures) c.index.ensures
