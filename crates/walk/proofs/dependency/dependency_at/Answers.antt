use Rattle.std.proofs.Common.{◌≡◌, ◌<◌, length, nat_lt, refl, rules, sym, true}
use Rattle.std.proofs.lemmas.Option.{slice_get_read}
use Rattle.releases.specs.Matching.{ordinals_of}
use Rattle.walk.proofs.Lows.{low_is_dependency}
use Rattle.walk.proofs.dependency.dependency_at.Goals as goal

pub returns-in-Some-matching_named : goal.returns-in-Some-matching_named
returns-in-Some-matching_named c =
    let registry = c.args.registry.now in
    let places = c.args.places.now in
    let place = c.in-Some.place.now in
    let named = c.in-Some-matching_named.ensures in
    let there : nat_lt c.args.index (length places) ≡ true = sym c.in-Some.ensures.lookup.0 in
    let within : c.args.index < length places = search rules in
    low_is_dependency registry.packages registry.named place (ordinals_of c.in-Some-matching_named.matching) named.0 named.1 named.2 c.args.version.0 c.args.version.1 c.args.index
    (c.requires.places c.args.index place (slice_get_read places (length places) c.args.index place refl within c.in-Some.ensures.lookup.1))
