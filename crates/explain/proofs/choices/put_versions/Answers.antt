use Rattle.std.proofs.lemmas.Option.{slice_get-get_or}
use Rattle.explain.specs.Choices.{version_text}
use Rattle.explain.proofs.ListedTexts.{put-next}
use Rattle.explain.proofs.choices.put_versions.Goals as goal

pub loop-place-preserved : goal.loop-place-preserved
loop-place-preserved c =
    let here = slice_get-get_or c.args.ordinals.now c.loop-place.place 0 c.loop-place-test.true in
    put-next (version_text c.args.registry.now.packages c.args.pkg) c.args.ordinals.now c.loop-place.place _ _ _ _ here c.loop-place.invariant c.in_ok-put_next.ensures
