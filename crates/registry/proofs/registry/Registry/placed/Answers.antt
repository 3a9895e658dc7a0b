use Rattle.std.proofs.Common.{◌≡◌, ◌∙◌, ◌<◌, ℕ, length, nat_lt, refl, rules, subst, sym, true}
use Rattle.std.proofs.lemmas.Option.{same_Some, slice_get_read}
use Rattle.releases.specs.Matching.{ordinals_of}
use Rattle.terms.specs.Sets.{has}
use Rattle.versions.specs.Words.{Text}
use Rattle.registry.specs.Registry.{meets_at}
use Rattle.registry.proofs.registry.Registry.placed.Goals as goal

pub returns : goal.returns
returns c =
    let places = c.places.result.now in
    let place = c.in_ok-place.place.now in
    let there : nat_lt c.args.index (length places) ≡ true = sym c.in_ok-place.ensures.lookup.0 in
    let within : c.args.index < length places = search rules in
    let told = c.places.ensures.right c.args.index place (slice_get_read places (length places) c.args.index place refl within c.in_ok-place.ensures.lookup.1) in
    let named = c.in_ok-matching.ensures in
    let same : named.0 ≡ told.need = same_Some named.0 told.need (sym named.1 ∙ told.stands) in
    record {
      name = told.name;
      need = told.need;
      at = told.at;
      number = told.number;
      members = subst (λ (need : Text). (j : ℕ) → has (ordinals_of c.in_ok-matching.matching) j ≡ meets_at c.args.self.now.packages place.target j need) same named.2;
    }
