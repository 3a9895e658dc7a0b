use Rattle.std.proofs.Common.{◌≡◌, ◌∙◌, ap, arith, inl, inr, refl, sym}
use Rattle.std.proofs.lemmas.Bool.{cases_eq, false≢true}
use Rattle.std.proofs.lemmas.Option.{get_or_from_slice_get, same_Some, slice_get_read}
use Rattle.std.specs.Prelude.{slice_get}
use Rattle.versions.specs.Words.{Text}
use Rattle.facts.proofs.dependents.has_entry.Goals as goal

pub loop-entry-preserved : goal.loop-entry-preserved
loop-entry-preserved c = λ i below here. elim (cases_eq i c.loop-entry.entry-index) [
  | inl same ↦
      let read = slice_get_read c.args.needs.now _ c.loop-entry.entry-index c.entry-item.result refl c.loop-entry-test.true c.entry-item.is in
      let is : c.entry-item.result ≡ (c.args.name.now, c.args.need.now) = same_Some c.entry-item.result (c.args.name.now, c.args.need.now) (sym read ∙ ap (slice_get c.args.needs.now) (sym same) ∙ here) in
      false≢true (sym c.if-is_entry.false ∙ c.is_entry.ensures.1 (ap (λ (x : Text × Text). x.0) is, ap (λ (x : Text × Text). x.1) is))
  | inr apart ↦ c.loop-entry.invariant i (omega (arith, below, apart)) here
]

pub returns-then-is_entry : goal.returns-then-is_entry
returns-then-is_entry c =
    let read = slice_get_read c.args.needs.now _ c.loop-entry.entry-index c.entry-item.result refl c.loop-entry-test.true c.entry-item.is in
    let same = c.is_entry.ensures.0 c.if-is_entry.true in
    let there = get_or_from_slice_get c.args.needs.now c.loop-entry.entry-index c.entry-item.result (c.args.name.now, c.args.need.now) read in
    let is = ap (λ (x : Text). (x, c.entry-item.result.1)) same.0 ∙ ap (λ (y : Text). (c.args.name.now, y)) same.1 in
    (λ _. (c.loop-entry.entry-index, c.loop-entry-test.true, there ∙ is), λ _. refl)

pub returns : goal.returns
returns c = (
  λ e. absurd (false≢true e),
  λ there. absurd (c.loop-entry.invariant there.0 (omega (arith, there.1, c.loop-entry-test.false)) (slice_get_read c.args.needs.now _ there.0 (c.args.name.now, c.args.need.now) refl there.1 (sym there.2))),
)
