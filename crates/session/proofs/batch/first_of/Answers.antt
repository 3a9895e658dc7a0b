use Rattle.std.proofs.Common.{ℕ, ap, take, ◌∙◌}
use Rattle.std.proofs.lemmas.List.{take_min}
use Rattle.session.proofs.batch.first_of.Goals as goal

pub returns : goal.returns
returns c = ap (λ (n : ℕ). take n c.args.asked.now) c.min.ensures ∙ take_min c.args.most c.args.asked.now
