use Rattle.std.proofs.Common.{◌∙◌, sym}
use Rattle.walk.proofs.checking.meets_named.Goals as goal

pub returns-in-Some-matching_named : goal.returns-in-Some-matching_named
returns-in-Some-matching_named c = λ yes.
    let told = rw c.in-Some-matching_named.is at c.matching_named.ensures in
    record { need = told.0; stands = told.1; meeting = sym (told.2 c.args.ordinal) ∙ sym c.has.ensures ∙ yes }
