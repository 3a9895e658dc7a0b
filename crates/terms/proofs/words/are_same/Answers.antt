use Rattle.std.proofs.Common.{rules}
use Rattle.terms.proofs.SameWords.{same_tested}
use Rattle.terms.proofs.words.are_same.Goals as goal

pub returns : goal.returns
returns c = same_tested _ (λ x y. search rules) c.args.first.now c.args.second.now c.eq.result c.requires.first c.requires.second c.eq.ensures
