use Rattle.std.proofs.Common.{◌≡◌, rules, subst}
use Rattle.std.proofs.lemmas.Bool.{eqb-true}
use Rattle.walk.specs.PlainlyNewest.{AreHigherOut}
use Rattle.walk.proofs.Better.{higher_out}
use Rattle.walk.proofs.newest.is_highest_left.Goals as goal

pub returns-in-Some : goal.returns-in-Some
returns-in-Some g c = λ yes.
    let prefix = c.args.prefix.now in
    let packages = prefix.registry.now.packages in
    let wanted = prefix.request.now in
    let before = prefix.choosing.now.found.entries in
    let this : c.in-Some.highest ≡ c.args.ordinal = eqb-true c.in-Some.highest c.args.ordinal yes in
    subst (λ k. AreHigherOut packages wanted before c.args.pkg k) this (higher_out packages wanted c.args.pkg c.in-Some.highest before _ c.in-Some.ensures.some (λ j fails. let out = fails in search rules))
