use Rattle.std.proofs.Common.{◌≡◌, refl, subst}
use Rattle.std.proofs.lemmas.Option.{slice_get_past, slice_get_read}
use Rattle.std.specs.Prelude.{Some, slice_get}
use Rattle.checker.proofs.Joining.{no-place, none-there, other-there}
use Rattle.checker.proofs.table.place_of.Goals as goal

pub returns-in-None-clause-none : goal.returns-in-None-clause-none
returns-in-None-clause-none c = no-place c.args.places.now c.args.terms.now c.args.pkg c.requires (slice_get_past c.args.places.now c.args.pkg c.in-None.ensures.lookup.3)

pub returns-in-Some-get-clause-there : goal.returns-in-Some-get-clause-there
returns-in-Some-get-clause-there c =
    let found = c.in-Some-get.ensures.lookup in
    let entry = c.in-Some-get.entry.now in
    (entry.1, subst (λ p. slice_get c.args.terms.now c.in-Some.place.now ≡ Some (p, entry.1)) c.if-entry-pkg.true (slice_get_read c.args.terms.now _ c.in-Some.place.now entry refl found.3.0 found.1))

pub returns-in_default-clause-none : goal.returns-in_default-clause-none
returns-in_default-clause-none c =
    let kept = c.in-Some.ensures.lookup in
    let found = c.in-Some-get.ensures.lookup in
    other-there c.args.places.now c.args.terms.now c.args.pkg c.in-Some.place.now c.in-Some-get.entry.now c.requires
    (slice_get_read c.args.places.now _ c.args.pkg c.in-Some.place.now refl kept.3.0 kept.1)
    (slice_get_read c.args.terms.now _ c.in-Some.place.now c.in-Some-get.entry.now refl found.3.0 found.1) c.if-entry-pkg.false

pub returns-in_default-2-clause-none : goal.returns-in_default-2-clause-none
returns-in_default-2-clause-none c =
    let kept = c.in-Some.ensures.lookup in
    let gives = rw c.in_default.is at c.get-in-Some.ensures.lookup in
    none-there c.args.places.now c.args.terms.now c.args.pkg c.in-Some.place.now c.requires
    (slice_get_read c.args.places.now _ c.args.pkg c.in-Some.place.now refl kept.3.0 kept.1)
    (slice_get_past c.args.terms.now c.in-Some.place.now gives.3)
