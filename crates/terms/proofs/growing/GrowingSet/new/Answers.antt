use Rattle.std.proofs.Common.{◌∙◌, ap}
use Rattle.terms.specs.Words.{ordinals_of}
use Rattle.terms.proofs.WordLists.{nil_ordinals}
use Rattle.terms.proofs.growing.GrowingSet.new.Goals as goal

pub returns : goal.returns
returns c = ap ordinals_of c.new.ensures.items ∙ nil_ordinals
