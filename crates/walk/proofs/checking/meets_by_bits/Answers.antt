use Rattle.std.proofs.Common.{◌<◌, ◌∙◌, ap, arith, nat_eq, sym}
use Rattle.std.proofs.lemmas.Nat.Bits.{shr_and_one}
use Rattle.walk.proofs.checking.meets_by_bits.Goals as goal

pub returns : goal.returns
returns c = λ yes.
    let k = c.args.ordinal in
    let told = c.in_ok-bits.ensures in
    let low : k < 64 = omega arith in
    record { need = told.0; stands = told.1; meeting = sym (told.2 k low) ∙ sym (ap (λ n. nat_eq n 1) (shr_and_one c.in_ok-bits.bits k)) ∙ yes }
