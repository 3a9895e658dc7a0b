use Rattle.pool.proofs.ahead.search_all.Goals as goal

pub search_by-requires-clause-takers : goal.search_by-requires-clause-takers
search_by-requires-clause-takers g c = λ κs lives. rw c.as_mut_slice.ensures.value c.requires.takers
