use Rattle.terms.proofs.WordLists.{IsAscending-ordinals_of}
use Rattle.terms.proofs.sets.VSet.insert.Goals as goal

pub returns-clause-ascending : goal.returns-clause-ascending
returns-clause-ascending c = IsAscending-ordinals_of c.insert_ordinal.new.words.items c.insert_ordinal.ensures.words
