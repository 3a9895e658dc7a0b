use Rattle.std.proofs.Common.{◌∙◌, ap, ℕ, List}
use Rattle.std.proofs.lemmas.Option.{IfSome_then}
use Rattle.terms.specs.Sets.{has}
use Rattle.walk.proofs.Lows.{low_is_dependency}
use Rattle.walk.proofs.dependency.low_set_at.Goals as goal

pub returns : goal.returns
returns c =
    let named = c.in_ok-matching.ensures in
    IfSome_then c.as_low.result c.as_low.ensures.some (λ set same.
    low_is_dependency c.args.registry.now.packages c.args.registry.now.named c.args.place.now set named.0 named.1 (λ k. ap (λ (l : List ℕ). has l k) same ∙ named.2 k))
