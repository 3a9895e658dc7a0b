use Rattle.std.proofs.Common.{◌∙◌, ap, arith, get_or, length, sym}
use Rattle.std.specs.Prelude.{Some}
use Rattle.std.proofs.lemmas.List.{length-map}
use Rattle.releases.specs.declared.release.Release.{Release}
use Rattle.std.proofs.Common.{List}
use Rattle.registry.specs.Publications.{PublicationList}
use Rattle.registry.specs.Step.{yank_of}
use Rattle.registry.proofs.PublicationLemmas.{yank_of-found, yank_of-none}
use Rattle.registry.proofs.publications.Publications.yank_of.Goals as goal

pub returns-in_err-ordinal : goal.returns-in_err-ordinal
returns-in_err-ordinal c =
    c.from_residual.ensures
    ∙ sym (yank_of-none c.self.inside.releases.releases c.self.inside.needs.items c.args.version.now (sym c.in_err-ordinal.ensures.there))
    ∙ ap (λ (l : PublicationList). yank_of l.publications c.args.version.now) c.self.view_is

pub bounds-as_slice-ordinal : goal.bounds-as_slice-ordinal
bounds-as_slice-ordinal c =
    omega (arith, c.in_ok-ordinal.ensures.found.0, length-map c.self.inside.releases.releases (λ (r : Release). r.version), ap length c.as_slice.ensures)

pub returns : goal.returns
returns c =
    ap (λ (l : List Release). Some (get_or l c.in_ok-ordinal.ordinal c.index-as_slice-ordinal.result).yanked) c.as_slice.ensures
    ∙ sym (yank_of-found c.self.inside.releases.releases c.self.inside.needs.items c.args.version.now c.in_ok-ordinal.ordinal c.index-as_slice-ordinal.result c.self.invariant.0
    (record { found = c.in_ok-ordinal.ensures.found; only = c.in_ok-ordinal.ensures.only }))
    ∙ ap (λ (l : PublicationList). yank_of l.publications c.args.version.now) c.self.view_is
