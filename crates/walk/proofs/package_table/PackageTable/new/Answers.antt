use Rattle.std.proofs.Common.{arith}
use Rattle.walk.proofs.Paging.{number_first, paged_first, resized_none}
use Rattle.walk.proofs.package_table.PackageTable.new.Goals as goal

pub invariant_of-result : goal.invariant_of-result
invariant_of-result c =
    let new = c.resize.new.self.items in
    paged_first c.new.result.items new c.new.ensures.items (omega (arith, c.in_ok-resize.ensures.len, c.resize.new.self.ok.0))
    (resized_none c.resize.result c.in_ok-numbers.numbers.items new 32 _ c.resize.ensures.items c.in_ok-numbers.ensures.items)

pub returns : goal.returns
returns c =
    let new = c.resize.new.self.items in
    number_first c.new.result.items new (resized_none c.resize.result c.in_ok-numbers.numbers.items new 32 _ c.resize.ensures.items c.in_ok-numbers.ensures.items)
