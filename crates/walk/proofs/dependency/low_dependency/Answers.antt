use Rattle.std.proofs.Common.{◌≡◌, ◌<◌, length, nat_lt, refl, rules, sym, true}
use Rattle.std.proofs.lemmas.Option.{slice_get_read}
use Rattle.walk.proofs.dependency.low_dependency.Goals as goal

pub returns : goal.returns
returns c =
    let places = c.args.places.now in
    let place = c.in_ok-place.place.now in
    let there : nat_lt c.args.index (length places) ≡ true = sym c.in_ok-place.ensures.lookup.0 in
    let within : c.args.index < length places = search rules in
    c.in_ok-set.ensures c.args.version.0 c.args.version.1 c.args.index
    (c.requires c.args.index place (slice_get_read places (length places) c.args.index place refl within c.in_ok-place.ensures.lookup.1))
