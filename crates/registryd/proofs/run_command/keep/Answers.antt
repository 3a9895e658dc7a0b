use Rattle.std.proofs.Common.{inl, ◌∙◌}
use Rattle.std.proofs.KnownBytes.{Keeps-refl}
use Rattle.registryd.proofs.EndLemmas.{kept}
use Rattle.registryd.proofs.run_command.keep.Goals as goal

pub returns-in-Err : goal.returns-in-Err
returns-in-Err g c =
    let ends = c.end_without.ensures in
    kept _ c.args.journal.now _ _ (λ is. absurd (ends.done is)) (λ is. absurd (ends.input is)) (λ is. absurd (ends.output is))
    (λ told is. (ends.kept told is ∙ c.in-Ok.ensures, inl (Keeps-refl _, Keeps-refl _))) (λ is. (Keeps-refl _, Keeps-refl _)) ends.no_journal ends.words
