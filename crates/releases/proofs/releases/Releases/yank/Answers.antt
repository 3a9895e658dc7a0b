use Rattle.std.proofs.Common.{◌∙◌, ap, true, set}
use Rattle.releases.specs.declared.release.Release.{Release}
use Rattle.releases.proofs.Marking.{IsKept-marked, marked-found, marked-set}
use Rattle.releases.proofs.releases.Releases.yank.Goals as goal

pub invariant_of-self : goal.invariant_of-self
invariant_of-self c =
    let e = ap (λ (r : Release). set c.self.inside.releases.items c.args.ordinal (record { version = r.version; yanked = true })) c.index_mut-release.ensures.value
    ∙ marked-set c.self.inside.releases.items c.args.ordinal c.index_mut-release.result.now true in
    rw e (IsKept-marked c.self.inside.releases.items _ _ _ _ _ c.args.ordinal true c.self.invariant)

pub returns-clause-releases : goal.returns-clause-releases
returns-clause-releases c =
    rw (← c.self.view_is) (ap (λ (r : Release). set c.self.inside.releases.items c.args.ordinal (record { version = r.version; yanked = true })) c.index_mut-release.ensures.value
    ∙ marked-set c.self.inside.releases.items c.args.ordinal c.index_mut-release.result.now true)

pub returns-clause-stamped : goal.returns-clause-stamped
returns-clause-stamped c =
    let e = ap (λ (r : Release). set c.self.inside.releases.items c.args.ordinal (record { version = r.version; yanked = true })) c.index_mut-release.ensures.value
    ∙ marked-set c.self.inside.releases.items c.args.ordinal c.index_mut-release.result.now true in
    rw (← c.self.view_is) (λ version found.
    e ∙ marked-found c.equal_precedence_is_an_equivalence.ensures.equivalence c.equal_precedence_is_an_equivalence.ensures.tie c.self.inside.releases.items c.self.inside.rising.items version c.args.ordinal true c.self.invariant.in_order found)
