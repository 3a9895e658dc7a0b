use Rattle.std.proofs.Common.{◌≡◌, ◌∙◌, get_or, sym, ap}
use Rattle.std.proofs.lemmas.Grind.{get_or_default_zero}
use Rattle.releases.specs.Releases.{versions_of}
use Rattle.std.specs.Prelude.{slice_get}
use Rattle.releases.proofs.Marking.{found-yanked}
use Rattle.releases.proofs.Standing.{found-only, gap-none}
use Rattle.releases.proofs.releases.Releases.find.Goals as goal

pub returns-in-Ok-clause-only : goal.returns-in-Ok-clause-only
returns-in-Ok-clause-only c =
    let found = rw (c.deref.ensures.value, c.deref-2.ensures.value) at c.in-Ok.ensures in
    rw (← c.self.view_is) (λ j at.
    found-only c.equal_precedence_is_an_equivalence.ensures.equivalence c.equal_precedence_is_an_equivalence.ensures.tie (versions_of c.self.inside.releases.items) c.self.inside.rising.items c.args.version.now c.in-Ok.place c.self.invariant.in_order found.0 found.1 j at
    ∙ sym (c.index.ensures ∙ get_or_default_zero c.self.inside.rising.items c.in-Ok.place _ found.0))

pub returns-in-Err-clause-there : goal.returns-in-Err-clause-there
returns-in-Err-clause-there c =
    let gap = rw (c.deref.ensures.value, c.deref-2.ensures.value) at c.in-Err.ensures in
    rw (← c.self.view_is) (sym (gap-none c.equal_precedence_is_an_equivalence.ensures.equivalence c.equal_precedence_is_an_equivalence.ensures.tie (versions_of c.self.inside.releases.items) c.self.inside.rising.items c.args.version.now _ c.self.invariant.in_order gap))

pub returns-in-Ok-clause-yanked : goal.returns-in-Ok-clause-yanked
returns-in-Ok-clause-yanked c =
    let found = rw (c.deref.ensures.value, c.deref-2.ensures.value) at c.in-Ok.ensures in
    let k = get_or c.self.inside.rising.items c.in-Ok.place 0 in
    let is : c.index.result.now ≡ k = c.index.ensures ∙ get_or_default_zero c.self.inside.rising.items c.in-Ok.place _ found.0 in
    rw (← c.self.view_is) (λ release at.
    found-yanked c.equal_precedence_is_an_equivalence.ensures.equivalence c.equal_precedence_is_an_equivalence.ensures.tie c.self.inside.releases.items c.self.inside.rising.items c.args.version.now k release c.self.invariant.in_order
    (c.self.invariant.in_order.within c.in-Ok.place found.0, found.1) (ap (λ n. slice_get c.self.inside.releases.items n) (sym is) ∙ at))
