use Rattle.std.proofs.Common.{inr, ◌∙◌}
use Rattle.registryd.proofs.EndLemmas.{kept}
use Rattle.registryd.proofs.KeptLemmas.{backed_of, ends_of, err_same, keeps_of, stops_of, told_items}
use Rattle.registryd.proofs.run_command.keep_in.Goals as goal

pub returns-in-Ok : goal.returns-in-Ok
returns-in-Ok g c =
    let served = c.in-Ok.ensures.served in
    let begun = c.requires in
    ends_of _ _ _ _ _ begun.served begun.history begun.found c.in-Ok.ensures.backed _ served.0 served.1

pub returns-in-Err : goal.returns-in-Err
returns-in-Err g c =
    let ends = c.end_of_keeping.ensures in
    let begun = c.requires in
    let durably = c.in-Err.ensures.backed in
    kept _ c.args.journal.now _ _ (λ is. absurd (ends.done is))
    (λ is. stops_of _ _ _ _ _ begun.served begun.history begun.found durably (c.in-Err.ensures.input (err_same _ _ _ (ends.input is))))
    (λ is. backed_of _ _ _ _ _ begun.served begun.history begun.found durably)
    (λ told is. (told_items _ _ (ends.kept told is).1 ∙ begun.named, inr (backed_of _ _ _ _ _ begun.served begun.history begun.found durably)))
    (λ is. let none = c.in-Err.ensures.memory (err_same _ _ _ (ends.memory is)) in (none.0, keeps_of _ _ none.1))
    ends.no_journal ends.words
