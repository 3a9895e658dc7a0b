use Rattle.std.proofs.Common.{◌∙◌, ◌++◌, ◌∷◌, [], List, ap, arith, refl}
use Rattle.terms.specs.Growing.{Growing}
use Rattle.releases.proofs.matching.keep_set.Goals as goal

pub returns-then-place-ge-KEPT_SETS-clause-kept : goal.returns-then-place-ge-KEPT_SETS-clause-kept
returns-then-place-ge-KEPT_SETS-clause-kept c = record { first = λ early. absurd (omega arith); later = λ late. refl }

pub returns-clause-kept : goal.returns-clause-kept
returns-clause-kept c =
    let set_in = rw c.unwrap.ensures at c.push.ensures.items in
    record {
      first = λ early. (c.in_ok-set.set, set_in ∙ ap (λ (l : List Growing). l ++ c.in_ok-set.set ∷ []) c.in_ok-reserve.ensures.items, c.in_ok-set.ensures);
      later = λ late. absurd (omega arith);
    }
