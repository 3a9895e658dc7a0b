use Rattle.std.proofs.Common.{◌∙◌, arith, ◌-◌, ap, max, refl, sym, take, slice_get}
use Rattle.std.proofs.lemmas.List.{length-take-le}
use Rattle.search.specs.Assignments.{decisions}
use Rattle.search.proofs.Saying.{LevelsFrom-take}
use Rattle.search.proofs.Satisfiers.{alone_on, alone_holds, before_within, found}
use Rattle.search.proofs.satisfier.satisfier_of.Goals as goal

pub shortest_on-alone-requires-clause-on : goal.shortest_on-alone-requires-clause-on
shortest_on-alone-requires-clause-on c =
    let l = c.args.trail.now in
    let r = c.reach_of-reach.result in
    alone_on l.made.items l.notes.items (λ p. slice_get l.heads.items p) c.requires.kept.0 c.args.terms.now c.requires.lawful r.count r.own r.others (r.count - 1) c.reach_of-reach.ensures refl
    c.index.result.now c.index.ensures c.index-terms-reach.result c.index-terms-reach.is c.index-2.result.now c.index-2.ensures

pub shortest_on-alone-requires-clause-holds : goal.shortest_on-alone-requires-clause-holds
shortest_on-alone-requires-clause-holds c =
    let l = c.args.trail.now in
    let r = c.reach_of-reach.result in
    alone_holds l.made.items l.notes.items (λ p. slice_get l.heads.items p) c.requires.kept.0 c.args.terms.now c.requires.lawful r.count r.own r.others (r.count - 1) c.reach_of-reach.ensures refl
    c.index.result.now c.index.ensures c.index-terms-reach.result c.index-terms-reach.is c.index-2.result.now c.index-2.ensures c.in_ok-rest_of.field-0 c.in_ok-rest_of.ensures

pub slice_bounds-level_of-end : goal.slice_bounds-level_of-end
slice_bounds-level_of-end c =
    let l = c.args.trail.now in
    let r = c.reach_of-reach.result in
    let within = before_within l.made.items l.notes.items (λ p. slice_get l.heads.items p) c.requires.kept.0 c.args.terms.now c.requires.lawful r.count r.own r.others (r.count - 1) c.reach_of-reach.ensures refl
    c.index.result.now c.index.ensures c.index-terms-reach.result c.index-terms-reach.is c.index-2.result.now c.index-2.ensures
    c.shortest_on-alone.result c.max-before.result c.shortest_on-alone.ensures.within c.max-before.ensures in
    sym (length-take-le c.max-before.result c.deref.result.now (rw c.deref.ensures.value within))

pub level_of-level-requires : goal.level_of-level-requires
level_of-level-requires c = rw c.deref.ensures.value (LevelsFrom-take 0 c.max-before.result c.args.trail.now.made.items c.requires.levels)

pub returns : goal.returns
returns c =
    let l = c.args.trail.now in
    let r = c.reach_of-reach.result in
    found l.made.items l.notes.items (λ p. slice_get l.heads.items p) c.requires.kept.0 c.args.terms.now c.requires.lawful r.count r.own r.others (r.count - 1) c.reach_of-reach.ensures refl
    c.index.result.now c.index.ensures c.index-terms-reach.result c.index-terms-reach.is c.index-2.result.now c.index-2.ensures c.in_ok-rest_of.field-0 c.in_ok-rest_of.ensures
    c.shortest_on-alone.result c.max-before.result c.max.result (c.shortest_on-alone.ensures.shortest (omega arith)) c.shortest_on-alone.ensures.within c.max-before.ensures
    (c.max.ensures ∙ ap (λ d. max d 1) (c.level_of-level.ensures ∙ ap (λ xs. decisions (take c.max-before.result xs)) c.deref.ensures.value))
