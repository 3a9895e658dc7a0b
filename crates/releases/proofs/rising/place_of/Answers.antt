use Rattle.std.proofs.Common.{sym, ◌∙◌, ◌+◌, ◌-◌, ◌/◌, ◌<◌, arith, refl, length}
use Rattle.std.proofs.lemmas.List.{length-map}
use Rattle.releases.specs.declared.release.Release.{Release}
use Rattle.releases.proofs.Searching.{gap-top, is_lt-Less, read-compared, searching-begin, searching-down, searching-up, tied-place}
use Rattle.releases.proofs.rising.place_of.Goals as goal

pub bounds-releases-top : goal.bounds-releases-top
bounds-releases-top c = omega (arith, c.requires.within (length c.args.rising.now - 1) (omega arith), length-map c.args.releases.now (λ (r : Release). r.version))

pub bounds-releases-rising : goal.bounds-releases-rising
bounds-releases-rising c =
    let middle = c.halve.low + (c.halve.high - c.halve.low) / 2 in
    omega (arith, c.requires.within middle (omega (arith, c.halve.invariant.within)), length-map c.args.releases.now (λ (r : Release). r.version))

pub halve-init : goal.halve-init
halve-init c = searching-begin _ _ _

pub halve-preserved-in-Less : goal.halve-preserved-in-Less
halve-preserved-in-Less c =
    let middle = c.halve.low + (c.halve.high - c.halve.low) / 2 in
    let under : middle < c.halve.high = omega arith in
    let e = read-compared _ _ c.args.version.now middle _ _ c.requires (omega (arith, c.halve.invariant.within)) c.in-Less.ensures in
    searching-up c.precedence_is_a_total_preorder.ensures _ _ _ c.halve.low c.halve.high middle _ c.requires c.halve.invariant (omega arith) under refl e

pub returns-in-Equal : goal.returns-in-Equal
returns-in-Equal c =
    let middle = c.halve.low + (c.halve.high - c.halve.low) / 2 in
    let under : middle < length c.args.rising.now = omega (arith, c.halve.invariant.within) in
    (under, tied-place c.precedence_is_a_total_preorder.ensures c.equal_precedence_is_an_equivalence.ensures.tie _ _ (read-compared _ _ c.args.version.now middle _ _ c.requires under c.in-Equal.ensures))

pub halve-preserved : goal.halve-preserved
halve-preserved c =
    let middle = c.halve.low + (c.halve.high - c.halve.low) / 2 in
    let under : middle < c.halve.high = omega arith in
    let e = read-compared _ _ c.args.version.now middle _ _ c.requires (omega (arith, c.halve.invariant.within)) c.in-Greater.ensures in
    searching-down c.precedence_is_a_total_preorder.ensures _ _ _ c.halve.low c.halve.high middle c.requires c.halve.invariant (omega arith) under e

pub returns-then-is_lt : goal.returns-then-is_lt
returns-then-is_lt c =
    let top = length c.args.rising.now - 1 in
    let pos : 0 < length c.args.rising.now = omega arith in
    let e = is_lt-Less _ (sym c.is_lt.ensures ∙ c.if-is_lt.true) ∙ c.order.ensures in
    gap-top c.precedence_is_a_total_preorder.ensures _ _ c.args.version.now c.requires pos (read-compared _ _ c.args.version.now top _ _ c.requires (omega arith) e)
