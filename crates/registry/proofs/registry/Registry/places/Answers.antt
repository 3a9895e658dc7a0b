use Rattle.std.proofs.Common.{◌∙◌, ap, sym}
use Rattle.std.specs.Prelude.{slice_get}
use Rattle.registry.proofs.PlacedNeeds.{places-few}
use Rattle.registry.proofs.registry.Registry.places.Goals as goal

pub returns-in-Some-clause-right : goal.returns-in-Some-clause-right
returns-in-Some-clause-right c = λ index place at.
    c.in-Some.ensures.placed c.args.ordinal index place (λ past. sym c.places.ensures.kept ∙ c.places.ensures.past past)
    (ap (λ l. slice_get l index) (sym c.places.ensures.kept) ∙ at)

pub returns-in-Some-clause-few : goal.returns-in-Some-clause-few
returns-in-Some-clause-few c =
    places-few c.args.self.now.packages c.args.self.now.named c.args.pkg c.args.ordinal c.places.result.now (returns-in-Some-clause-right c)
