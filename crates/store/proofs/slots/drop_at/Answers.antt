use Rattle.std.proofs.Common.{◌∙◌, arith, sym}
use Rattle.store.specs.Slots.{is_met}
use Rattle.store.proofs.Thinning.{count_set, fails_own, passes_within}
use Rattle.store.proofs.slots.drop_at.Goals as goal

pub bounds-slots-place : goal.bounds-slots-place
bounds-slots-place c = passes_within (is_met c.args.pkg c.args.version.now) c.args.slots.now c.args.place (sym c.place_is_met.ensures ∙ c.if-not-place_is_met.false)

pub overflow_sub-result : goal.overflow_sub-result
overflow_sub-result c = omega (arith, c.requires, count_set (is_met c.args.pkg c.args.version.now) c.args.slots.now c.args.place (sym c.place_is_met.ensures ∙ c.if-not-place_is_met.false))

pub returns-clause-gone : goal.returns-clause-gone
returns-clause-gone c = fails_own (is_met c.args.pkg c.args.version.now) c.args.slots.now c.args.place

pub returns-clause-count : goal.returns-clause-count
returns-clause-count c = omega (arith, c.requires, count_set (is_met c.args.pkg c.args.version.now) c.args.slots.now c.args.place (sym c.place_is_met.ensures ∙ c.if-not-place_is_met.false))
