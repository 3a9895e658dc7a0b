use Rattle.std.proofs.Common.{◌≡◌, ◌<◌, length, nat_lt, refl, rules, sym, true}
use Rattle.std.proofs.lemmas.Option.{slice_get_read}
use Rattle.walk.proofs.Lows.{place_names}
use Rattle.walk.proofs.dependency.target_at.Goals as goal

pub returns-in-Some : goal.returns-in-Some
returns-in-Some c =
    let places = c.args.places.now in
    let place = c.in-Some.place.now in
    let there : nat_lt c.args.index (length places) ≡ true = sym c.in-Some.ensures.lookup.0 in
    let within : c.args.index < length places = search rules in
    place_names c.args.registry.now.packages c.args.registry.now.named c.args.version.0 c.args.version.1 c.args.index place
    (c.requires.places c.args.index place (slice_get_read places (length places) c.args.index place refl within c.in-Some.ensures.lookup.1))
