use Rattle.std.proofs.Common.{◌≤◌, ℕ, arith, length, rules}
use Rattle.walk.specs.Choosing.{choice_of}
use Rattle.walk.specs.Walks.{IsChecked}
use Rattle.walk.proofs.Checked.{checked_all}
use Rattle.walk.proofs.Lists.{one_more}
use Rattle.walk.proofs.checking.is_met_by.Goals as goal

pub loop-place-preserved : goal.loop-place-preserved
loop-place-preserved c =
    let packages = c.args.registry.now.packages in
    let found = c.args.found.now.entries in
    one_more (λ (e : ℕ × ℕ). IsChecked packages c.args.request.now (choice_of found) e.0 e.1) found c.loop-place.place c.at.result c.loop-place.invariant c.at.ensures.at (c.in_ok-is_checked.ensures (search rules))

pub returns : goal.returns
returns c = λ yes.
    let found = c.args.found.now.entries in
    let all : length found ≤ c.loop-place.place = omega (arith, c.len-place-end.ensures, c.loop-place-test.false) in
    record { needs = c.are_needs_met.ensures (search rules); checked = checked_all c.args.registry.now.packages c.args.request.now found c.loop-place.place all c.loop-place.invariant }
