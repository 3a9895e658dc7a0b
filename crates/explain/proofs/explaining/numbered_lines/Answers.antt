use Rattle.std.proofs.Common.{◌≡◌, arith, refl, take}
use Rattle.std.proofs.lemmas.List.{take_all}
use Rattle.std.specs.Prelude.{string_bytes}
use Rattle.std.proofs.lemmas.Option.{slice_get_read}
use Rattle.explain.proofs.ListedTexts.{numbered-push}
use Rattle.explain.proofs.explaining.numbered_lines.Goals as goal

pub loop-place-preserved : goal.loop-place-preserved
loop-place-preserved c =
    let here = slice_get_read c.args.lines.now _ c.loop-place.place _ refl c.loop-place-test.true c.index-lines-place.is in
    numbered-push string_bytes c.args.registry.now.packages c.args.request.now c.args.lines.now c.loop-place.place _ c.loop-place.texts.items c.push.new.self.items _ here c.loop-place.invariant c.in_ok-push.ensures.items c.in_ok-text.ensures

pub returns : goal.returns
returns c =
    let all : take c.loop-place.place c.args.lines.now ≡ c.args.lines.now = take_all _ _ (omega arith) in
    rw all at c.loop-place.invariant
