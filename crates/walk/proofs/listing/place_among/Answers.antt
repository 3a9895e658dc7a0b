use Rattle.std.proofs.Common.{◌≡◌, ◌∙◌, ◌<◌, ap, arith, get_or, length, map, sym, true, false}
use Rattle.std.proofs.lemmas.List.{length-map}
use Rattle.std.specs.Prelude.{insert}
use Rattle.std.specs.Cmp.Lexicographic.{slice_cmp}
use Rattle.std.specs.Ordering.{is_lt, nat_cmp}
use Rattle.walk.specs.Listing.{need_at}
use Rattle.walk.proofs.NeedsInOrder.{compared, goes_end, goes_first, goes_here, goes_on, mapped_at, within_at}
use Rattle.walk.proofs.listing.place_among.Goals as goal

pub loop-i-init : goal.loop-i-init
loop-i-init c = goes_first (need_at c.args.needs.now c.args.own) (map (need_at c.args.needs.now) c.args.places.now)

pub bounds-needs-places : goal.bounds-needs-places
bounds-needs-places c = within_at _ c.args.places.now c.loop-i.i c.requires.within (omega arith)

pub returns-then-not-is_lt-clause-place : goal.returns-then-not-is_lt-clause-place
returns-then-not-is_lt-clause-place c =
    let needs = c.args.needs.now in
    let places = c.args.places.now in
    let own = c.args.own in
    let i = c.loop-i.i in
    let lt : i < length places = omega arith in
    let high : is_lt (slice_cmp nat_cmp (need_at needs (get_or places i 0)).0 (need_at needs own).0) ≡ false =
    compared needs (get_or places i 0) own c.index-needs-places.result c.index-needs-own.result false (within_at _ places i c.requires.within lt) c.requires.own c.index-needs-places.is c.index-needs-own.is
    (sym (c.is_lt.ensures ∙ ap is_lt c.cmp.ensures) ∙ c.if-not-is_lt.true) in
    c.loop-i.invariant ∙ goes_here (need_at needs own) (map (need_at needs) places) i _ (mapped_at (need_at needs) places i lt) high

pub loop-i-preserved : goal.loop-i-preserved
loop-i-preserved c =
    let needs = c.args.needs.now in
    let places = c.args.places.now in
    let own = c.args.own in
    let i = c.loop-i.i in
    let lt : i < length places = omega arith in
    let low : is_lt (slice_cmp nat_cmp (need_at needs (get_or places i 0)).0 (need_at needs own).0) ≡ true =
    compared needs (get_or places i 0) own c.index-needs-places.result c.index-needs-own.result true (within_at _ places i c.requires.within lt) c.requires.own c.index-needs-places.is c.index-needs-own.is
    (sym (c.is_lt.ensures ∙ ap is_lt c.cmp.ensures) ∙ c.if-not-is_lt.false) in
    c.loop-i.invariant ∙ goes_on (need_at needs own) (map (need_at needs) places) i _ (mapped_at (need_at needs) places i lt) low

pub returns-clause-place : goal.returns-clause-place
returns-clause-place c =
    let lines = map (need_at c.args.needs.now) c.args.places.now in
    let l : length lines ≡ length c.args.places.now = length-map c.args.places.now (need_at c.args.needs.now) in
    let all : c.loop-i.i ≡ length lines = omega (arith, l) in
    let last : c.loop-i.i ≡ length c.args.places.now = omega arith in
    c.loop-i.invariant ∙ goes_end (need_at c.args.needs.now c.args.own) lines c.loop-i.i all ∙ ap (λ n. insert lines n (need_at c.args.needs.now c.args.own)) last
