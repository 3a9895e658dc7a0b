use Rattle.std.proofs.Common.{◌≡◌, ◌∙◌, ◌+◌, arith, refl, take, ap}
use Rattle.std.proofs.lemmas.List.{take_all}
use Rattle.std.proofs.lemmas.Option.{slice_get_read}
use Rattle.by_name.proofs.NumberLemmas.{lines_more, lines_none, take_one}
use Rattle.by_name.proofs.numbering.numbered_lines.Goals as goal

pub returns-in_default : goal.returns-in_default
returns-in_default c = λ lines is.
    let here = slice_get_read c.args.lines.now _ c.loop-line.line-index _ refl c.loop-line-test.true c.line-item.is in
    let none = rw c.in_default.is at c.in-Ok.ensures in
    lines_none c.args.registry.now.packages c.args.lines.now c.loop-line.line-index c.line-item.result lines here none is

pub loop-line-preserved : goal.loop-line-preserved
loop-line-preserved c = record {
  told =
      let packages = c.args.registry.now.packages in
      let here = slice_get_read c.args.lines.now _ c.loop-line.line-index _ refl c.loop-line-test.true c.line-item.is in
      let found = rw c.in-Some.is at c.in-Ok.ensures in
      let more = lines_more packages (take c.loop-line.line-index c.args.lines.now) c.loop-line.numbered.items c.line-item.result c.in-Some.found c.loop-line.invariant.told found.0 found.1 in
      rw (take_one c.args.lines.now c.loop-line.line-index c.line-item.result here, c.push_reserved.ensures.items) more;
  count = c.push_reserved.ensures.len ∙ ap (λ n. n + 1) c.loop-line.invariant.count;
  room = rw c.push_reserved.ensures.capacity c.loop-line.invariant.room;
}

pub returns : goal.returns
returns c =
    let all : take c.loop-line.line-index c.args.lines.now ≡ c.args.lines.now = take_all _ _ (omega arith) in
    rw all at c.loop-line.invariant.told
