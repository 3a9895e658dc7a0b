use Rattle.terms.proofs.WordLists.{IsAscending-ordinals_of}
use Rattle.terms.proofs.sets.VSet.from_words.Goals as goal

pub returns-clause-ascending : goal.returns-clause-ascending
returns-clause-ascending c = IsAscending-ordinals_of c.args.words.items c.requires
