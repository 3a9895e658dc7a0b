use Rattle.checker.proofs.by_chains.is_ruled_out_by.Goals as goal

pub returns-in-Some-terms_at : goal.returns-in-Some-terms_at
returns-in-Some-terms_at c = λ yes. (c.in-Some-terms_at.terms.now, c.in-Some-terms_at.ensures.shown, c.are_all_true.ensures yes)
