use Rattle.std.proofs.Common.{◌∙◌, ◌∷◌, ◌++◌, [], List, ℕ, ap, arith, get_or, length-set, map, sym}
use Rattle.std.proofs.lemmas.List.{map_more, take_all, take_more_set}
use Rattle.walk.proofs.names.take_order.Goals as goal

pub loop-i-preserved : goal.loop-i-preserved
loop-i-preserved c =
    let second : ℕ × (ℕ × ℕ) → ℕ × ℕ = λ f. f.1 in
    let list = c.loop-i.list in
    let fronted = c.args.fronted.now in
    let chosen : ℕ × ℕ = (get_or fronted c.loop-i.i (0, (0, 0))).1 in
    record {
      front = take_more_set list c.loop-i.i chosen (omega (arith, c.loop-i-test.true, c.loop-i.invariant.long))
          ∙ ap (λ (l : List (ℕ × ℕ)). l ++ chosen ∷ []) c.loop-i.invariant.front
          ∙ sym (map_more second fronted c.loop-i.i (0, (0, 0)) c.loop-i-test.true);
      long = length-set list c.loop-i.i chosen ∙ c.loop-i.invariant.long;
    }

pub returns : goal.returns
returns c =
    let second : ℕ × (ℕ × ℕ) → ℕ × ℕ = λ f. f.1 in
    sym (take_all c.loop-i.i c.loop-i.list (omega (arith, c.loop-i.invariant.long))) ∙ c.loop-i.invariant.front ∙ ap (map second) (take_all c.loop-i.i c.args.fronted.now (omega arith))
