use Rattle.std.proofs.Common.{◌∙◌, ◌++◌, length, refl, sym}
use Rattle.std.proofs.lemmas.Option.{slice_get_read}
use Rattle.walk.specs.Choosing.{choice_of}
use Rattle.walk.specs.Newest.{dependencies_of, in_name_order}
use Rattle.walk.proofs.Bests.{first_target, passed_here, passed_more}
use Rattle.walk.proofs.Lists.{no_value, some_value}
use Rattle.walk.proofs.choosing.Choosing.come_to.Goals as goal

pub returns-then-contains-clause-passed : goal.returns-then-contains-clause-passed
returns-then-contains-clause-passed c = λ whole.
    let old = c.args.self.now in
    let here = slice_get_read old.asked.items (length old.asked.items) c.args.at c.index-pkg.result.now refl c.requires.within c.index-pkg.ensures in
    let chosen = some_value (choice_of old.found.entries c.index-pkg.result.now) (sym c.contains.ensures ∙ c.if-contains.true) in
    passed_here old c.args.at c.index-pkg.result.now chosen.0 c.requires.passed here chosen.1

pub choose-requires-clause-next : goal.choose-requires-clause-next
choose-requires-clause-next c =
    let old = c.args.self.now in
    let packages = c.args.registry.now.packages in
    let needs = c.args.request.now.needs in
    let here = slice_get_read old.asked.items (length old.asked.items) c.args.at c.index-pkg.result.now refl c.requires.within c.index-pkg.ensures in
    first_target packages old.found.entries (in_name_order needs ++ dependencies_of packages old.found.entries) old.asked.items c.args.at c.index-pkg.result.now c.requires.choosing.targets here c.requires.passed
    (no_value (choice_of old.found.entries c.index-pkg.result.now) (sym c.contains.ensures ∙ c.if-contains.false))

pub returns-clause-passed : goal.returns-clause-passed
returns-clause-passed c = λ whole.
    let old = c.args.self.now in
    let here = slice_get_read old.asked.items (length old.asked.items) c.args.at c.index-pkg.result.now refl c.requires.within c.index-pkg.ensures in
    let none = no_value (choice_of old.found.entries c.index-pkg.result.now) (sym c.contains.ensures ∙ c.if-contains.false) in
    let grown = c.in_ok-choose.ensures.grown whole in
    let asked = c.in_ok-choose.ensures.asked whole in
    passed_more old c.choose.new.self c.args.at c.index-pkg.result.now grown.0 asked.0 c.requires.passed here none grown.1 asked.1
