use Rattle.std.proofs.Common.{◌≡◌, ◌∙◌, ◌<◌, length, arith, ap, take}
use Rattle.replies.specs.Listings.{rows_of}
use Rattle.registry.specs.Registry.{Packages}
use Rattle.std.proofs.lemmas.List.{map-append, take_all}
use Rattle.replies.proofs.ListingLemmas.{rows_of-listed, rows_of-unlisted}
use Rattle.replies.proofs.listing.published.Goals as goal
use Rattle.replies.proofs.listing.published.Goals.{then-versions-gt0+in_ok-push, else-versions-gt0}

pub loop-place-preserved : goal.loop-place-preserved
loop-place-preserved c =
    let within : c.loop-place.place < length c.args.registry.now.packages = omega (arith, c.packages-count.ensures.packages) in
    elim c.if-versions-gt0.branch [
      | then-versions-gt0+in_ok-push w ↦
          let there = rw c.versions.ensures at w.if-versions-gt0.true in
          rw (w.entries-is, w.in_ok-push.ensures.items, map-append)
          (rows_of-listed c.args.registry.now.packages c.loop-place.place _ _ within c.loop-place.invariant w.name-name.ensures there)
      | else-versions-gt0 w ↦
          let there = rw c.versions.ensures at w.if-versions-gt0.false in
          rw w.entries-is (rows_of-unlisted c.args.registry.now.packages c.loop-place.place _ within c.loop-place.invariant there)
    ]

pub returns-clause-rows : goal.returns-clause-rows
returns-clause-rows c =
    let packages = c.args.registry.now.packages in
    let all : take c.loop-place.place packages ≡ packages = take_all c.loop-place.place packages (omega (arith, c.packages-count.ensures.packages)) in
    c.loop-place.invariant ∙ ap (λ (ps : Packages). rows_of ps) all
