use Rattle.std.proofs.Common.{◌≡◌, ◌+◌, ◌-◌, ◌∙◌, ap, arith, sym, true, false, slice_index, inl, inr}
use Rattle.std.proofs.lemmas.Bool.{cases_lt}
use Rattle.std.specs.Map.{keys_of}
use Rattle.registry.specs.ByName.{name_at}
use Rattle.registry.proofs.NameOrder.{side_by_side, repeats-found, repeats-none}
use Rattle.registry.proofs.by_name.repeats.Goals as goal

pub loop-i-init : goal.loop-i-init
loop-i-init g c = λ k lt. absurd (omega arith)

pub returns-then-eq : goal.returns-then-eq
returns-then-eq g c =
    let i = c.loop-i.i in
    let next : i - 1 + 1 ≡ i = omega arith in
    sym (repeats-found (keys_of c.args.lines.now) c.args.places.now (i - 1) c.requires (omega arith)
    (side_by_side (keys_of c.args.lines.now) c.args.places.now (i - 1) i c.name_at.result.now c.name_at-in-loop-i.result.now true next c.name_at.ensures c.name_at-in-loop-i.ensures (sym c.eq.ensures ∙ c.if-eq.true)))

pub loop-i-preserved : goal.loop-i-preserved
loop-i-preserved g c = λ k lt. elim (cases_lt (k + 1) c.loop-i.i) [
  | inl under ↦ c.loop-i.invariant k under
  | inr from ↦
      let next : k + 1 ≡ c.loop-i.i = omega arith in
      let before : k ≡ c.loop-i.i - 1 = omega arith in
      side_by_side (keys_of c.args.lines.now) c.args.places.now k c.loop-i.i c.name_at.result.now c.name_at-in-loop-i.result.now false next
      (c.name_at.ensures ∙ sym (ap (λ j. name_at (keys_of c.args.lines.now) (slice_index c.args.places.now j)) before)) c.name_at-in-loop-i.ensures (sym c.eq.ensures ∙ c.if-eq.false)
]

pub returns : goal.returns
returns g c = sym (repeats-none (keys_of c.args.lines.now) c.args.places.now c.requires (λ k lt. c.loop-i.invariant k (omega arith)))
