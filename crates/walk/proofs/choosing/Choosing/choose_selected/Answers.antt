use Rattle.std.proofs.Common.{◌∙◌, ◌++◌, length, refl, sym}
use Rattle.std.proofs.lemmas.Option.{slice_get_read}
use Rattle.walk.specs.Choosing.{choice_of}
use Rattle.walk.specs.Newest.{dependencies_of, in_name_order}
use Rattle.walk.proofs.Bests.{chosen_choosing, first_target, passed_here, passed_more}
use Rattle.walk.proofs.Lists.{no_value, some_value}
use Rattle.walk.proofs.choosing.Choosing.choose_selected.Goals as goal

pub returns-then-contains-clause-passed : goal.returns-then-contains-clause-passed
returns-then-contains-clause-passed g c = λ whole.
    let old = c.args.self.now in
    let here = slice_get_read old.asked.items (length old.asked.items) c.args.at c.index-pkg.result.now refl c.requires.within c.index-pkg.ensures in
    let chosen = some_value (choice_of old.found.entries c.index-pkg.result.now) (sym c.contains.ensures ∙ c.if-contains.true) in
    passed_here old c.args.at c.index-pkg.result.now chosen.0 c.requires.passed here chosen.1

pub add_version-requires : goal.add_version-requires
add_version-requires g c = record { new = no_value (choice_of c.args.self.now.found.entries c.index-pkg.result.now) (sym c.contains.ensures ∙ c.if-contains.false) }

pub returns-clause-choosing : goal.returns-clause-choosing
returns-clause-choosing g c = λ whole.
    let old = c.args.self.now in
    let packages = c.args.registry.now.packages in
    let wanted = c.args.request.now in
    let pkg = c.index-pkg.result.now in
    let here = slice_get_read old.asked.items (length old.asked.items) c.args.at pkg refl c.requires.within c.index-pkg.ensures in
    let next =
    first_target packages old.found.entries (in_name_order wanted.needs ++ dependencies_of packages old.found.entries) old.asked.items c.args.at pkg c.requires.choosing.targets here c.requires.passed
    (no_value (choice_of old.found.entries pkg) (sym c.contains.ensures ∙ c.if-contains.false)) in
    let e = c.in_ok-add_version.ensures in
    chosen_choosing packages wanted old c.add_version.new.self pkg _ c.requires.choosing next (c.is_best.ensures c.if-not-is_best.false) e.found (e.asks whole) (e.holds wanted c.requires.choosing.holds)

pub returns-clause-passed : goal.returns-clause-passed
returns-clause-passed g c = λ whole.
    let old = c.args.self.now in
    let here = slice_get_read old.asked.items (length old.asked.items) c.args.at c.index-pkg.result.now refl c.requires.within c.index-pkg.ensures in
    let none = no_value (choice_of old.found.entries c.index-pkg.result.now) (sym c.contains.ensures ∙ c.if-contains.false) in
    let e = c.in_ok-add_version.ensures in
    passed_more old c.add_version.new.self c.args.at c.index-pkg.result.now _ e.grown.asked.0 c.requires.passed here none e.found e.grown.asked.1
