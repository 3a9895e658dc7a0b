use Rattle.walk.proofs.newest.is_plainly_newest.Goals as goal

pub is_newest_by-requires : goal.is_newest_by-requires
is_newest_by-requires c = λ before p j shown. absurd shown
