use Rattle.std.proofs.Common.{◌∙◌, refl, sym, true≢false}
use Rattle.std.proofs.lemmas.Bool.{iff_false}
use Rattle.derivations.specs.Facts.{DependsOn}
use Rattle.derivations.proofs.Asking.{asked_all, asked_more, asked_none, asked_one}
use Rattle.derivations.proofs.standing.all_depend.Goals as goal

pub loop-ordinal-init : goal.loop-ordinal-init
loop-ordinal-init c =
    let premise = c.args.premise.now in (
      tt,
      tt,
      asked_none (λ k. DependsOn c.args.registry.now.packages premise.package k premise.target premise.need) premise.versions c.into_iter-ordinal-iterator.result
          (c.into_iter-ordinal-iterator.ensures.into_iter_gives ∙ c.iter-ordinal-items.ensures.same),
    )

pub loop-ordinal-preserved : goal.loop-ordinal-preserved
loop-ordinal-preserved c =
    let premise = c.args.premise.now in (
      tt,
      tt,
      asked_more (λ k. DependsOn c.args.registry.now.packages premise.package k premise.target premise.need) premise.versions c.loop-ordinal.ordinal-iterator c.next.new.self c.in-Some.ordinal
          c.in-Some.ensures.steps (c.depends_on.ensures.0 c.if-not-depends_on.false) c.loop-ordinal.invariant.2,
    )

pub returns-then-not-depends_on : goal.returns-then-not-depends_on
returns-then-not-depends_on c =
    let premise = c.args.premise.now in
    let own = asked_one (λ k. DependsOn c.args.registry.now.packages premise.package k premise.target premise.need) premise.versions c.loop-ordinal.ordinal-iterator c.next.new.self c.in-Some.ordinal
    c.in-Some.ensures.steps c.loop-ordinal.invariant.2 in
    (λ t. absurd (true≢false (sym t)), λ all. absurd (iff_false c.depends_on.ensures c.if-not-depends_on.true (all c.in-Some.ordinal own)))

pub returns : goal.returns
returns c =
    let premise = c.args.premise.now in (
      λ t. asked_all (λ k. DependsOn c.args.registry.now.packages premise.package k premise.target premise.need) premise.versions c.loop-ordinal.ordinal-iterator c.in-None.ensures.steps.0 c.loop-ordinal.invariant.2,
      λ all. refl,
    )
