use Rattle.std.proofs.Common.{◌∙◌, ◌+◌, ◌≤◌, sym, ap, arith, rules}
use Rattle.registry.specs.Registry.{number_of}
use Rattle.registry.specs.Rooms.{State}
use Rattle.registry.proofs.PackageLemmas.{length-packages_in}
use Rattle.registry.proofs.GrowthLemmas.{number-found, number-placed}
use Rattle.registry.proofs.registry.Registry.number.Goals as goal
use Rattle.registry.proofs.registry.Registry.number.Goals.{In_ok-index}
use Rattle.registry.specs.declared.registry.TheConstants.{PACKAGE_LIMIT}

small : (c : In_ok-index) → c.in_ok-index.index + 1 ≤ PACKAGE_LIMIT
small c =
    let len = length-packages_in c.self.inside.names.keys c.self.inside.lists.items c.self.invariant.0 in
    omega (arith, len, c.self.invariant.1.few, c.in_ok-index.ensures.within)

pub overflow_cast-result : goal.overflow_cast-result
overflow_cast-result c = let most = small c in search rules

pub overflow_add-result : goal.overflow_add-result
overflow_add-result c = let most = small c in search rules

pub returns-in_err-index : goal.returns-in_err-index
returns-in_err-index c =
    c.from_residual.ensures
    ∙ sym (number-placed c.self.inside.names.keys c.self.inside.lists.items c.args.name.now c.self.invariant.0 _ c.in_err-index.ensures.index)
    ∙ ap (λ (s : State). number_of s.packages c.args.name.now) c.self.view_is

pub returns : goal.returns
returns c =
    sym (number-found c.self.inside.names.keys c.self.inside.lists.items c.args.name.now c.self.invariant.0 c.in_ok-index.index c.in_ok-index.ensures.index)
    ∙ ap (λ (s : State). number_of s.packages c.args.name.now) c.self.view_is
