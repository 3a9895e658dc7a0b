use Rattle.std.proofs.Common.{ℕ, ◌+◌, ◌∙◌, ap, arith, subst, sym}
use Rattle.pool.specs.Answering.{IsAnswerAt}
use Rattle.pool.proofs.Filling.{begun_more}
use Rattle.pool.proofs.answers.KeepingConsumer.consume.Goals as goal

pub loop-at-preserved : goal.loop-at-preserved
loop-at-preserved g c =
    let kept = c.loop-at.invariant in
    let here = kept.here in let whole = kept.whole in let inside = c.loop-at-test.true in let all = c.requires.can in
    let now = c.push_reserved.ensures in let len = now.len in let capacity = now.capacity in
    record {
      begun = begun_more g.Q.Query.packages g.Q.Query.asked c.loop-at.self.answers c.push_reserved.new.self c.next.result kept.begun (omega arith)
          (subst (λ (k : ℕ). IsAnswerAt g.Q.Query.packages g.Q.Query.asked k c.next.result) (kept.at ∙ sym here) c.next.ensures.answer) now.items (omega arith) (omega arith);
      here = omega arith;
      at = c.next.ensures.one ∙ ap (λ (n : ℕ). n + 1) kept.at;
      whole = whole;
    }
