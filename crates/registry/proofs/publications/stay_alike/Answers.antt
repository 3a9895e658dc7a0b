use Rattle.std.proofs.Common.{◌∙◌, inr, sym, true≢false}
use Rattle.registry.proofs.Alike.{same-next}
use Rattle.registry.proofs.publications.stay_alike.Goals as goal

pub returns-then-repeats : goal.returns-then-repeats
returns-then-repeats c = λ next same ends.
    let all = same-next c.args.are_alike c.args.repeats c.args.needs.now next same ends in
    (λ yes. all.0 (c.if-are_alike.true, inr c.if-repeats.true), λ are. c.if-repeats.true)

pub returns-else-are_alike : goal.returns-else-are_alike
returns-else-are_alike c = λ next same ends.
    let all = same-next c.args.are_alike c.args.repeats c.args.needs.now next same ends in
    (λ no. absurd (true≢false (sym no ∙ c.if-are_alike.false)), λ are. (all.1 are).0)
