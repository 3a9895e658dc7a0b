use Rattle.std.proofs.Common.{◌≡◌, ◌∙◌, inl, inr, nat_eq, refl, sym}
use Rattle.std.specs.Prelude.{None}
use Rattle.indexmap.proofs.CallerLemmas.{insert_entry-new}
use Rattle.walk.specs.Choosing.{choice_of}
use Rattle.walk.proofs.Lists.{no_value, some_value}
use Rattle.walk.proofs.listing.visit.Goals as goal

pub returns-then-contains_key : goal.returns-then-contains_key
returns-then-contains_key g c =
    let here = some_value (choice_of c.args.found.now.entries c.args.target) (sym c.contains_key.ensures ∙ c.if-contains_key.true) in
    inl (refl, here.0, here.1)

pub returns-in_default : goal.returns-in_default
returns-in_default g c = (refl, no_value (choice_of c.args.found.now.entries c.args.target) (sym c.contains_key.ensures ∙ c.if-contains_key.false), sym c.choose.ensures ∙ c.in_default.is)

pub returns : goal.returns
returns g c =
    let new : choice_of c.args.found.now.entries c.args.target ≡ None = no_value (choice_of c.args.found.now.entries c.args.target) (sym c.contains_key.ensures ∙ c.if-contains_key.false) in
    inr (c.in-Some.ordinal, new, sym c.choose.ensures ∙ c.in-Some.is, c.in_ok-insert.ensures.entries ∙ insert_entry-new nat_eq c.args.found.now c.args.target c.in-Some.ordinal new)
