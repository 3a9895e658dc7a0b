use Rattle.std.proofs.Common.{◌≡◌, ◌∙◌, ℕ, List, ap, rules, subst, sym}
use Rattle.walk.specs.Newest.{IsOut}
use Rattle.walk.proofs.Bests.{chosen_choosing, choosing_same, holds_taken, out_tried, taken_same}
use Rattle.walk.proofs.choosing.Choosing.try_version.Goals as goal

pub returns-then-branch : goal.returns-then-branch
returns-then-branch c =
    let packages = c.args.registry.now.packages in
    let wanted = c.args.request.now in
    let old = c.args.self.now in
    let new = c.choose_version.new.self in
    let e = c.in_ok-choose_version.ensures in (
      chosen_choosing packages wanted old new c.args.version.0 c.args.version.1 c.requires.choosing c.requires.next c.requires.best e.found (e.asks (search rules)) (e.holds wanted c.requires.choosing.holds),
      e.found,
      e.grown.asked,
    )

pub returns : goal.returns
returns c =
    let packages = c.args.registry.now.packages in
    let wanted = c.args.request.now in
    let old = c.args.self.now in
    let tried = c.choose_version.new.self in
    let back = c.take_back.new.self in
    let new = c.rule_out.new.self in
    let e = c.in_ok-choose_version.ensures in
    let found : back.found.entries ≡ old.found.entries = c.take_back.ensures.found ∙ taken_same old.found.entries _ tried.found.entries c.kept-kept.result.found e.found c.kept-kept.ensures.found in
    let asked : back.asked.items ≡ old.asked.items = c.take_back.ensures.asked ∙ taken_same old.asked.items _ tried.asked.items c.kept-kept.result.asked e.grown.asked.1 c.kept-kept.ensures.asked in
    let needed : back.needed.items ≡ old.needed.items = c.take_back.ensures.needed ∙ taken_same old.needed.items _ tried.needed.items c.kept-kept.result.needed e.grown.needed.1 c.kept-kept.ensures.needed in
    let holds = holds_taken packages wanted old back found needed c.take_back.ensures.fresh c.requires.choosing.holds in
    let none = c.is_at_end.ensures c.if-not-is_at_end.false packages wanted (e.holds wanted c.requires.choosing.holds) in
    let out = out_tried packages wanted old.found.entries tried.found.entries c.args.version.0 c.args.version.1 e.found none in
    let here = subst (λ (xs : List (ℕ × ℕ)). IsOut packages wanted xs c.args.version.0 c.args.version.1) (sym found) out in
    let r = c.in_ok-rule_out.ensures in
    let new_found : new.found.entries ≡ old.found.entries = ap (λ m. m.entries) r.found ∙ found in
    let new_asked : new.asked.items ≡ old.asked.items = r.asked (search rules) ∙ asked in
    (choosing_same packages wanted old new new_found new_asked c.requires.choosing (r.holds wanted here holds), new_found, new_asked)
