use Rattle.std.proofs.Common.{[], inl, inr, refl}
use Rattle.std.proofs.KnownBytes.{Appends-nil}
use Rattle.registryd.proofs.run_program.advise.Goals as goal

pub returns-in-Words : goal.returns-in-Words
returns-in-Words g c = (c.show_advice.ensures.0, inr c.in-Words.is, c.show_advice.ensures.1)

pub returns-in_default : goal.returns-in_default
returns-in_default g c = ([], inl refl, Appends-nil _)
