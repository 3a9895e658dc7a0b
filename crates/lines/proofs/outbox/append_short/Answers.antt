use Rattle.std.proofs.Common.{◌∙◌, ◌++◌, ℕ, List, [], ◌∷◌, ap, arith, get_or, length, length-append, sym, take}
use Rattle.std.proofs.lemmas.List.{append-nil, append_assoc, length-take, take_all, take_more}
use Rattle.lines.proofs.outbox.append_short.Goals as goal

pub loop-index-init : goal.loop-index-init
loop-index-init c = record { items = sym (append-nil c.args.waiting.now.items); capacity = omega arith }

pub push_reserved-requires : goal.push_reserved-requires
push_reserved-requires c =
    let here = simp length-append at (ap length c.loop-index.invariant.items) in
    omega (arith, here, length-take c.loop-index.index c.args.text.now, c.loop-index-test.true, c.requires, c.loop-index.invariant.capacity, c.loop-index.waiting.ok.0, c.args.waiting.now.ok.0)

pub loop-index-preserved : goal.loop-index-preserved
loop-index-preserved c =
    let old = c.args.waiting.now.items in
    let text = c.args.text.now in
    let next = get_or text c.loop-index.index 0 in
    record {
      items = c.push_reserved.ensures.items ∙ ap (λ (l : List ℕ). l ++ next ∷ []) c.loop-index.invariant.items ∙ append_assoc old (take c.loop-index.index text) (next ∷ [])
          ∙ ap (λ (l : List ℕ). old ++ l) (sym (take_more text c.loop-index.index 0 c.loop-index-test.true));
      capacity = omega (arith, c.push_reserved.ensures.capacity, c.loop-index.invariant.capacity);
    }

pub returns-clause-items : goal.returns-clause-items
returns-clause-items c = c.loop-index.invariant.items ∙ ap (λ (l : List ℕ). c.args.waiting.now.items ++ l) (take_all c.loop-index.index c.args.text.now (omega arith))
