use Rattle.std.proofs.Common.{◌∙◌, ap, arith, inl, inr, length, sym, take}
use Rattle.std.proofs.lemmas.List.{length_push, take_all}
use Rattle.walk.proofs.Choices.{front_popped}
use Rattle.walk.proofs.choice_map.ChoiceMap.truncate.Goals as goal

pub taken-preserved : goal.taken-preserved
taken-preserved c =
    let last = c.pop.ensures in
    let longer = ap length last.1 ∙ length_push c.pop.new.self.entries last.0 in
    record {
      front = front_popped c.taken.self.entries c.args.self.now.entries c.pop.new.self.entries last.0 c.taken.invariant.front last.1;
      many = inl (omega (arith, c.taken-test.true, c.len.ensures, longer));
    }

pub returns : goal.returns
returns c = elim c.taken.invariant.many [
  | inl more ↦ c.taken.invariant.front ∙ ap (λ n. take n c.args.self.now.entries) (omega (arith, more, c.taken-test.false, c.len.ensures))
  | inr same ↦ same ∙ sym (take_all c.args.count c.args.self.now.entries (omega (arith, c.taken-test.false, c.len.ensures, ap length same)))
]
