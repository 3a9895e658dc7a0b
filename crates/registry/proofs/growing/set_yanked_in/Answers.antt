use Rattle.std.proofs.Common.{◌∙◌, ◌<◌, length, rules, sym}
use Rattle.registry.specs.Step as step
use Rattle.registry.proofs.PackageLemmas.{is_known-packages_in}
use Rattle.registry.proofs.GrowthLemmas.{number-found, packages-changed, unchanged}
use Rattle.registry.proofs.PlaceLemmas.{extends-none, extends-set}
use Rattle.registry.proofs.growing.set_yanked_in.Goals as goal

pub returns-in-Some-clause-packages : goal.returns-in-Some-clause-packages
returns-in-Some-clause-packages c =
    packages-changed c.args.names.now.keys c.args.lists.now.items c.args.name.now c.in-Some.index c.index_mut-list.result.now _ (step.set_yanked c.args.version.now c.args.yanked)
    (number-found c.args.names.now.keys c.args.lists.now.items c.args.name.now c.requires.paired c.in-Some.index c.in-Some.ensures.index)
    c.index_mut-list.ensures.value c.set_yanked.ensures.publications

pub returns-in_default-clause-packages : goal.returns-in_default-clause-packages
returns-in_default-clause-packages c =
    sym (unchanged _ c.args.name.now (step.set_yanked c.args.version.now c.args.yanked)
    (is_known-packages_in c.args.names.now.keys c.args.lists.now.items c.args.name.now c.requires.paired ∙ sym c.in_default.ensures.found))

pub returns-in-Some-clause-extends : goal.returns-in-Some-clause-extends
returns-in-Some-clause-extends c =
    let within : c.in-Some.index < length c.args.lists.now.items = search rules in
    extends-set c.args.names.now.keys c.args.lists.now.items c.in-Some.index c.index_mut-list.result.now c.set_yanked.new.self within c.index_mut-list.ensures.value
    c.set_yanked.ensures.grown

pub returns-in_default-clause-extends : goal.returns-in_default-clause-extends
returns-in_default-clause-extends c = extends-none c.args.names.now.keys c.args.lists.now.items
