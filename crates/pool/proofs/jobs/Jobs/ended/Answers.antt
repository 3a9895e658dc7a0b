use Rattle.std.proofs.Common.{All, ◌≡◌, ◌∙◌, ◌||◌, ◌++◌, [], ◌∷◌, List, ℕ, length, sym, ap, subst, append_assoc, length-append, arith, rules}
use Rattle.crossbeam_queue.specs.Passes.{view}
use Rattle.pool.specs.Taking.{IsTakerOf, Took, WereShared, taken_by}
use Rattle.pool.proofs.Steps.{gathers, ends}
use Rattle.pool.proofs.Takers.{all_last, is_any_told, taken_by-push, is_any_told-push, all_there, or_assoc, shared}
use Rattle.pool.proofs.jobs.Jobs.ended.Goals as goal

pub absorb-requires-clause-rule : goal.absorb-requires-clause-rule
absorb-requires-clause-rule c =
    let one = c.last.invariant.1.0 in let parts = c.loop-taker.invariant.parts in
    gathers _ _ _ _ (omega arith)

pub loop-taker-preserved : goal.loop-taker-preserved
loop-taker-preserved c =
    let kept = c.loop-taker.invariant in
    let now = c.absorb.ensures.rule in
    let is = c.taker.view_is in
    let taking = c.taker.invariant.1 in
    let first = view c.last.inside.pass in
    let yielded = c.loop-taker.yielded in
    record {
      rest = append_assoc yielded (c.in-Some-taker.taker ∷ []) c.next.new.self.rest.items ∙ ap (λ l. yielded ++ l) (sym c.in-Some-taker.ensures.steps.0) ∙ kept.rest;
      queue = search rules;
      parts = let p = ap (λ h. h.parts) now in let one = taking.0 in let was = kept.parts in omega (arith, length-append {A = Took});
      count = ap (λ h. h.count) now ∙ kept.count;
      all_parts = ap (λ h. h.all_parts) now ∙ kept.all_parts;
      taken = ap (λ h. h.taken) now ∙ (λ i. kept.taken i ++ (is i).taken) ∙ append_assoc first.taken (taken_by yielded) c.in-Some-taker.taker.taken ∙ ap (λ l. first.taken ++ l) (sym (taken_by-push yielded c.in-Some-taker.taker));
      told = ap (λ h. h.told) now ∙ (λ i. kept.told i || (taking.1 ∙ ap (λ t. t.told) is) i) ∙ sym (or_assoc first.told (is_any_told yielded) c.in-Some-taker.taker.told) ∙ ap (λ b. first.told || b) (sym (is_any_told-push yielded c.in-Some-taker.taker));
    }

pub learn_as-requires-clause-rule : goal.learn_as-requires-clause-rule
learn_as-requires-clause-rule c =
    let all = all_there c.loop-taker.yielded c.loop-taker.taker-iterator.rest.items c.into_iter-taker-iterator.result.rest.items c.loop-taker.invariant.rest (sym c.loop-taker.taker-iterator.rest.ok.0 ∙ c.in-None.ensures.steps.0) in
    let others : c.args.takers.items ≡ c.loop-taker.yielded ++ c.in-Some.last ∷ [] = c.in-Some.ensures.items ∙ ap (λ l. l ++ c.in-Some.last ∷ []) (sym (all ∙ c.into_iter-taker-iterator.ensures.into_iter_gives.0)) in
    let counts : length c.args.takers.items ≡ length (c.loop-taker.yielded ++ c.in-Some.last ∷ []) = ap (length {A = Took}) others in
    let missing = c.requires.none_missing in
    let mine : c.in-Some.last.jobs ≡ c.args.self = all_last (IsTakerOf c.args.self) c.in-Some.last c.loop-taker.yielded (subst (λ (l : List Took). All (IsTakerOf c.args.self) l) others c.requires.each) in
    let is = ap (λ t. t.jobs.takers) c.last.view_is ∙ ap (λ j. j.takers) mine in
    let one = c.last.invariant.1.0 in
    let parts = c.loop-taker.invariant.parts in let all_parts = c.loop-taker.invariant.all_parts in
    let same : (view c.loop-taker.whole).all_parts ≡ c.args.self.takers = all_parts ∙ is in
    ends _ _ (omega arith) (omega (arith, length-append {A = Took}))

pub returns : goal.returns
returns c =
    let all = all_there c.loop-taker.yielded c.loop-taker.taker-iterator.rest.items c.into_iter-taker-iterator.result.rest.items c.loop-taker.invariant.rest (sym c.loop-taker.taker-iterator.rest.ok.0 ∙ c.in-None.ensures.steps.0) in
    let others : c.args.takers.items ≡ c.loop-taker.yielded ++ c.in-Some.last ∷ [] = c.in-Some.ensures.items ∙ ap (λ l. l ++ c.in-Some.last ∷ []) (sym (all ∙ c.into_iter-taker-iterator.ensures.into_iter_gives.0)) in
    let mine : c.in-Some.last.jobs ≡ c.args.self = all_last (IsTakerOf c.args.self) c.in-Some.last c.loop-taker.yielded (subst (λ (l : List Took). All (IsTakerOf c.args.self) l) others c.requires.each) in
    let kept = c.loop-taker.invariant in
    let v = view c.loop-taker.whole in
    let learned = c.learn_as.ensures.rule in
    let is = c.last.view_is in
    let told = c.last.invariant.1.1 ∙ ap (λ t. t.told) is in
    let count : v.count ≡ c.args.self.count = kept.count ∙ ap (λ t. t.jobs.count) is ∙ ap (λ j. j.count) mine in
    let were = shared c.loop-taker.yielded c.in-Some.last v learned.0 (kept.taken ∙ ap (λ l. l ++ taken_by c.loop-taker.yielded) (ap (λ t. t.taken) is)) (kept.told ∙ ap (λ b. b || is_any_told c.loop-taker.yielded) told) learned.1 in
    subst (λ (x : ℕ × List Took). WereShared x.0 x.1) (λ i. (count i, sym others i)) were
