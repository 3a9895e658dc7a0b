use Rattle.std.proofs.Common.{ap, arith, sym, ◌∙◌, ◌<◌, ◌||◌, get_or, length, nat_eq}
use Rattle.std.proofs.lemmas.List.{length-map}
use Rattle.terms.specs.Sets.{has}
use Rattle.versions.specs.Words.{meets}
use Rattle.releases.specs.declared.release.Release.{Release}
use Rattle.releases.specs.Releases.{versions_of}
use Rattle.releases.proofs.MatchingLemmas.{bounds-at, met-step, unmet-step}
use Rattle.releases.proofs.matching.keep_up.Goals as goal
use Rattle.releases.proofs.matching.keep_up.Goals.{then-admit, else-admit}

pub loop-i-preserved : goal.loop-i-preserved
loop-i-preserved c =
    let within : c.loop-i.i < length c.loop-i.sets = omega arith in
    let count = length-map c.args.releases.now (λ (r : Release). r.version) in
    let answered = ap (λ t. meets t c.args.version.now) (sym c.index-needs-i.is) ∙ sym c.admit.ensures in
    elim c.if-admit.branch [
      | then-admit w ↦
          let added = rw w.unwrap.ensures at w.insert.ensures.added in
          met-step (versions_of c.args.releases.now) c.args.version.now c.args.needs.now c.loop-i.sets c.loop-i.i c.loop-i.invariant within
          _ c.index-sets-i.result c.index-needs-i.result (answered ∙ w.if-admit.true)
          (λ k. added k ∙ ap (λ n. has (get_or c.loop-i.sets c.loop-i.i c.index-sets-i.result).ordinals k || nat_eq n k) (sym count)) _ w.sets-is
      | else-admit w ↦
          unmet-step (versions_of c.args.releases.now) c.args.version.now c.args.needs.now c.loop-i.sets c.loop-i.i c.loop-i.invariant within
          c.index-sets-i.result c.index-needs-i.result (answered ∙ w.if-admit.false) _ w.sets-is
    ]

pub admit-requires : goal.admit-requires
admit-requires c =
    let paired = c.requires.matching.paired in
    bounds-at c.args.needs.now c.args.bounds.now c.loop-i.i c.index-needs-i.result c.index-bounds-i.result c.requires.bounds (omega (arith, paired)) c.index-needs-i.is c.index-bounds-i.is
