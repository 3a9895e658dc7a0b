use Rattle.std.proofs.Common.{◌∙◌, inl, inr, length, refl, sym}
use Rattle.std.proofs.lemmas.Option.{slice_get_read}
use Rattle.walk.proofs.listing.pass_need.Goals as goal

pub returns-in_default : goal.returns-in_default
returns-in_default g c =
    let needs = c.args.needs.now in
    let line = c.index-needs-place.result in
    (line, slice_get_read needs (length needs) c.args.place line refl c.requires c.index-needs-place.is, inr (sym c.number.ensures ∙ c.in_default.is, refl))

pub returns-then-branch : goal.returns-then-branch
returns-then-branch g c =
    let needs = c.args.needs.now in
    let line = c.index-needs-place.result in (
      line,
      slice_get_read needs (length needs) c.args.place line refl c.requires c.index-needs-place.is,
      inl (c.in-Some.target, sym c.number.ensures ∙ c.in-Some.is, rw c.if-branch.true at c.in_ok-visit.ensures),
    )

pub returns-else-branch : goal.returns-else-branch
returns-else-branch g c =
    let needs = c.args.needs.now in
    let line = c.index-needs-place.result in (
      line,
      slice_get_read needs (length needs) c.args.place line refl c.requires c.index-needs-place.is,
      (sym c.number.ensures ∙ c.in-Some.is, rw c.if-branch.false at c.in_ok-visit.ensures),
    )
