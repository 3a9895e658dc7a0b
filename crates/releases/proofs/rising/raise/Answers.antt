use Rattle.std.proofs.Common.{sym, ap, ◌∙◌}
use Rattle.std.specs.List.{insert}
use Rattle.std.proofs.lemmas.List.{length-map}
use Rattle.releases.specs.declared.release.Release.{Release}
use Rattle.releases.specs.Releases.{versions_of}
use Rattle.releases.proofs.Raising.{if-ok, raised}
use Rattle.releases.proofs.rising.raise.Goals as goal

pub returns : goal.returns
returns c =
    let count = length-map c.args.releases.now (λ (r : Release). r.version) in
    let items = if-ok c.insert.result _ _ _ (c.insert.ensures.succeeds c.requires.room) c.insert.ensures.items in
    raised (versions_of c.args.releases.now) c.args.rising.now.items c.args.version.now c.in-Err.place c.requires.in_order (rw c.deref.ensures.value at c.in-Err.ensures)
    _ (items ∙ ap (λ n. insert c.args.rising.now.items c.in-Err.place n) (sym count))
