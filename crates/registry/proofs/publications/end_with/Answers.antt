use Rattle.std.proofs.Common.{◌≡◌, ◌-◌, ◌∙◌, ap, arith, length, refl, sym}
use Rattle.std.specs.Prelude.{Some, slice_get}
use Rattle.std.proofs.lemmas.Option.{same_Some, slice_get_read}
use Rattle.registry.proofs.publications.end_with.Goals as goal

pub returns-in-len1-up : goal.returns-in-len1-up
returns-in-len1-up c =
    let needs = c.args.needs.now in
    let last : slice_get needs (length needs - 1) ≡ Some c.last-item.result =
    slice_get_read needs (length needs) (length needs - 1) c.last-item.result refl (omega (arith, c.in-len1-up.len_at_least)) c.last-item.is in (
      λ yes. (length needs - 1, omega (arith, c.in-len1-up.len_at_least), last ∙ ap Some (sym c.needs.ensures ∙ c.are_same.ensures.0 yes ∙ c.needs-in-len1-up.ensures)),
      λ end.
          let place : length needs - 1 ≡ end.0 = omega (arith, end.1) in
          let same = same_Some c.last-item.result c.args.next.now (sym last ∙ ap (slice_get needs) place ∙ end.2) in
          c.are_same.ensures.1 (c.needs.ensures ∙ same ∙ sym c.needs-in-len1-up.ensures),
    )
