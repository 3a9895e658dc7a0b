use Rattle.std.proofs.Common.{ap, arith, sym, ◌∙◌}
use Rattle.std.proofs.lemmas.List.{length-map}
use Rattle.versions.specs.Words.{meets}
use Rattle.releases.specs.declared.release.Release.{Release}
use Rattle.releases.specs.Releases.{versions_of}
use Rattle.releases.proofs.MatchingLemmas.{matching-end, matching-in, matching-out, meets_at-read}
use Rattle.releases.proofs.matching.tested.Goals as goal
use Rattle.releases.proofs.matching.tested.Goals.{then-admit+in_ok-insert, else-admit}

pub loop-ordinal-preserved : goal.loop-ordinal-preserved
loop-ordinal-preserved c =
    let read = meets_at-read c.args.releases.now c.args.need.now c.loop-ordinal.ordinal c.index-releases-ordinal.result c.loop-ordinal-test.true
    ∙ ap (λ (r : Release). meets c.args.need.now r.version) (sym c.index-releases-ordinal.is) ∙ sym c.admit.ensures in
    elim c.if-admit.branch [
      | then-admit+in_ok-insert w ↦
          rw w.set-is (matching-in (versions_of c.args.releases.now) c.args.need.now c.loop-ordinal.ordinal c.loop-ordinal.set.ordinals c.loop-ordinal.invariant
          _ (read ∙ w.if-admit.true) w.in_ok-insert.ensures.added)
      | else-admit w ↦
          rw w.set-is (matching-out (versions_of c.args.releases.now) c.args.need.now c.loop-ordinal.ordinal c.loop-ordinal.set.ordinals c.loop-ordinal.invariant
          (read ∙ w.if-admit.false))
    ]

pub returns : goal.returns
returns c =
    let count = length-map c.args.releases.now (λ (r : Release). r.version) in
    matching-end (versions_of c.args.releases.now) _ c.loop-ordinal.ordinal _ (omega (arith, count)) c.loop-ordinal.invariant
