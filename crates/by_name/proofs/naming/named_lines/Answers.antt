use Rattle.std.proofs.Common.{◌≡◌, ◌∙◌, ◌+◌, arith, refl, take, ap}
use Rattle.std.proofs.lemmas.List.{take_all}
use Rattle.std.proofs.lemmas.Option.{slice_get_read}
use Rattle.by_name.proofs.NumberLemmas.{line_has_names, lines_more, take_one}
use Rattle.by_name.proofs.naming.named_lines.Goals as goal

pub named_line-requires : goal.named_line-requires
named_line-requires c =
    let here = slice_get_read c.args.lines.now _ c.loop-line.line-index _ refl c.loop-line-test.true c.line-item.is in
    line_has_names c.args.registry.now.packages c.args.lines.now c.loop-line.line-index c.line-item.result here c.requires.names

pub loop-line-preserved : goal.loop-line-preserved
loop-line-preserved c = record {
  told =
      let packages = c.args.registry.now.packages in
      let here = slice_get_read c.args.lines.now _ c.loop-line.line-index _ refl c.loop-line-test.true c.line-item.is in
      let more = lines_more packages c.loop-line.named.items (take c.loop-line.line-index c.args.lines.now) c.in-Ok.told c.line-item.result c.loop-line.invariant.told c.in-Ok.ensures.same c.in-Ok.ensures.lawful in
      rw (take_one c.args.lines.now c.loop-line.line-index c.line-item.result here, c.push_reserved.ensures.items) more;
  count = c.push_reserved.ensures.len ∙ ap (λ n. n + 1) c.loop-line.invariant.count;
  room = rw c.push_reserved.ensures.capacity c.loop-line.invariant.room;
}

pub returns : goal.returns
returns c =
    let all : take c.loop-line.line-index c.args.lines.now ≡ c.args.lines.now = take_all _ _ (omega arith) in
    rw c.new.ensures (rw all at c.loop-line.invariant.told)
