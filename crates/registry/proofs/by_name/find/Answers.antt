use Rattle.std.proofs.Common.{◌+◌, ◌-◌, ◌/◌, ◌<◌, arith, refl}
use Rattle.registry.proofs.NameOrder.{line-found, line-missing, middle-line, read-compared, searching-begin, searching-down, searching-up}
use Rattle.registry.proofs.by_name.find.Goals as goal

pub halve-init : goal.halve-init
halve-init g c = searching-begin c.args.lines.now c.args.places.now c.args.name.now c.requires.sorted c.requires.once

pub bounds-lines-places : goal.bounds-lines-places
bounds-lines-places g c =
    let under : c.halve.low + (c.halve.high - c.halve.low) / 2 < c.halve.high = omega arith in
    middle-line c.args.lines.now c.args.places.now c.args.name.now c.requires.sorted c.requires.once c.halve.low c.halve.high _ c.halve.invariant under

pub halve-preserved-in-Less : goal.halve-preserved-in-Less
halve-preserved-in-Less g c =
    let middle = c.halve.low + (c.halve.high - c.halve.low) / 2 in
    let under : middle < c.halve.high = omega arith in
    let line = middle-line c.args.lines.now c.args.places.now c.args.name.now c.requires.sorted c.requires.once c.halve.low c.halve.high middle c.halve.invariant under in
    let e = read-compared c.args.lines.now c.args.places.now c.args.name.now c.requires.sorted c.requires.once _ _ _ line c.index-lines-places.is c.in-Less.ensures in
    searching-up c.args.lines.now c.args.places.now c.args.name.now c.requires.sorted c.requires.once c.halve.low c.halve.high middle _ c.halve.invariant (omega arith) under refl e

pub returns-in-Equal : goal.returns-in-Equal
returns-in-Equal g c =
    let middle = c.halve.low + (c.halve.high - c.halve.low) / 2 in
    let under : middle < c.halve.high = omega arith in
    let line = middle-line c.args.lines.now c.args.places.now c.args.name.now c.requires.sorted c.requires.once c.halve.low c.halve.high middle c.halve.invariant under in
    line-found c.args.lines.now c.args.places.now c.args.name.now c.requires.sorted c.requires.once _ _ line c.index-lines-places.is c.in-Equal.ensures

pub halve-preserved : goal.halve-preserved
halve-preserved g c =
    let middle = c.halve.low + (c.halve.high - c.halve.low) / 2 in
    let under : middle < c.halve.high = omega arith in
    let line = middle-line c.args.lines.now c.args.places.now c.args.name.now c.requires.sorted c.requires.once c.halve.low c.halve.high middle c.halve.invariant under in
    let e = read-compared c.args.lines.now c.args.places.now c.args.name.now c.requires.sorted c.requires.once _ _ _ line c.index-lines-places.is c.in-Greater.ensures in
    searching-down c.args.lines.now c.args.places.now c.args.name.now c.requires.sorted c.requires.once c.halve.low c.halve.high middle c.halve.invariant (omega arith) under e

pub returns : goal.returns
returns g c = line-missing c.args.lines.now c.args.places.now c.args.name.now c.requires.sorted c.requires.once c.halve.low c.halve.high c.halve.invariant (omega arith)

pub offset_bounds-lines-places : goal.offset_bounds-lines-places
offset_bounds-lines-places g c =
    let under : c.halve.low + (c.halve.high - c.halve.low) / 2 < c.halve.high = omega arith in
    omega (arith, middle-line c.args.lines.now c.args.places.now c.args.name.now c.requires.sorted c.requires.once c.halve.low c.halve.high _ c.halve.invariant under)
