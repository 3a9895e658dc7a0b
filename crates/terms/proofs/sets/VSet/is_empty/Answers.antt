use Rattle.terms.proofs.WordLists.{no_words}
use Rattle.terms.proofs.sets.VSet.is_empty.Goals as goal

pub returns : goal.returns
returns c = rw (c.is_empty.ensures, ← c.self.view_is) (no_words c.self.inside.words.items c.self.invariant)
