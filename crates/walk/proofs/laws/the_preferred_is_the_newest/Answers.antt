use Rattle.walk.proofs.PreferredNewest.{newest-preferred, preferred-newest}
use Rattle.walk.proofs.laws.the_preferred_is_the_newest.Goals as goal

pub returns-clause-preferred : goal.returns-clause-preferred
returns-clause-preferred c =
    preferred-newest c.names_have_their_numbers.ensures c.ordinals_are_below_the_count.ensures.numbered c.equal_precedence_is_an_equivalence.ensures.equivalence c.equal_precedence_is_an_equivalence.ensures.tie

pub returns-clause-newest : goal.returns-clause-newest
returns-clause-newest c = newest-preferred c.there_is_one_newest_selection.ensures (returns-clause-preferred c)
