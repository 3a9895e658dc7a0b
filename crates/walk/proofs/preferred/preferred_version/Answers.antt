use Rattle.std.proofs.Common.{◌≡◌, ◌∙◌, rules, sym}
use Rattle.std.specs.Prelude.{None}
use Rattle.walk.proofs.Preferring.{package-unnamed, preferred-locked, preferred-unlocked, preferred-unnumbered}
use Rattle.walk.proofs.preferred.preferred_version.Goals as goal

pub returns-in_err-name : goal.returns-in_err-name
returns-in_err-name c =
    let packages = c.args.registry.now.packages in
    let gone = package-unnamed packages c.args.pkg c.in_err-name.ensures.name in
    let none : c.from_residual.result ≡ None = search rules in
    none ∙ sym (preferred-unnumbered packages c.args.request.now c.args.pkg gone)

pub returns-in-Some : goal.returns-in-Some
returns-in-Some c =
    preferred-locked c.args.registry.now.packages c.args.request.now c.args.pkg c.in_ok-name.name.now c.in_ok-name.ensures.name
    _ _ c.need_on-need.ensures.met c.locked-locked.ensures.named c.in-Some.ordinal c.in-Some.ensures.some c.in-Some.ensures.only

pub returns-in-None : goal.returns-in-None
returns-in-None c =
    preferred-unlocked c.args.registry.now.packages c.args.request.now c.args.pkg c.in_ok-name.name.now c.in_ok-name.ensures.name
    _ _ c.need_on-need.ensures.met c.locked-locked.ensures.named c.the_highest_is_one.ensures c.in_ok-name.ensures.reachable
    c.in-None.ensures.none c.highest_open.result c.highest_open.ensures.some c.highest_open.ensures.none
