use Rattle.std.proofs.Common.{◌≡◌, ◌∙◌, ◌++◌, ap, arith, Contains, drop, length, subst, sym, true, List, ℕ}
use Rattle.registry.specs.Requests.{is_allowed}
use Rattle.walk.specs.Choosing.{choice_of}
use Rattle.walk.specs.Walks.{IsChecked, IsWalk}
use Rattle.walk.proofs.Steps.{dependency_stands, forbidden_stands, need_stands, walk_chosen, walk_meets, walk_more, walk_start}
use Rattle.walk.proofs.walking.reach_into.Goals as goal

pub returns-in-Some : goal.returns-in-Some
returns-in-Some g c =
    let place = rw c.in-Some.is at c.in_ok-index.ensures.unmet in
    record { asks = tt; place = place; none = need_stands c.args.registry.now.packages c.args.request.now (g.C.Chooser.chooses c.args.chooser.now) c.in-Some.index place }

pub walk-init : goal.walk-init
walk-init g c =
    let met = rw c.in_default.is at c.in_ok-index.ensures.met in
    let found = c.follow_all.new.found.entries in
    let all : c.extend_from_slice.new.self.items ≡ found =
    c.in_ok-extend_from_slice.ensures.items ∙ ap (λ (l : List (ℕ × ℕ)). l ++ c.since.result.now) c.in_ok-left.ensures.items ∙ c.since.ensures.since in
    walk_start c.args.registry.now.packages c.args.request.now (g.C.Chooser.chooses c.args.chooser.now) c.args.found.now.entries found c.extend_from_slice.new.self.items
    c.requires c.in_ok-index.ensures.follows c.in_ok-index.ensures.come met all
    (λ p k h. c.since.ensures.chosen p k (subst (λ (l : List (ℕ × ℕ)). Contains l (p, k)) (all ∙ sym c.since.ensures.since) h))

pub returns-then-not-is_allowed : goal.returns-then-not-is_allowed
returns-then-not-is_allowed g c =
    let packages = c.args.registry.now.packages in
    let wanted = c.args.request.now in
    let chooses = g.C.Chooser.chooses c.args.chooser.now in
    let p = c.in-Some-pop.pkg in
    let k = c.in-Some-pop.ordinal in
    let walk = subst (λ (l : List (ℕ × ℕ)). IsWalk packages wanted chooses c.walk.found.entries l) c.in-Some-pop.ensures.items c.walk.invariant in
    let chosen = walk_chosen packages wanted chooses c.walk.found.entries c.pop.new.self.items p k walk in
    let forbidden = sym c.is_allowed.ensures ∙ c.if-not-is_allowed.true in
    record { chosen = chosen; forbidden = forbidden; none = forbidden_stands packages wanted chooses p k chosen forbidden }

pub returns-in-Some-2 : goal.returns-in-Some-2
returns-in-Some-2 g c =
    let packages = c.args.registry.now.packages in
    let wanted = c.args.request.now in
    let chooses = g.C.Chooser.chooses c.args.chooser.now in
    let p = c.in-Some-pop.pkg in
    let k = c.in-Some-pop.ordinal in
    let allowed : is_allowed packages wanted p k ≡ true = sym c.is_allowed.ensures ∙ c.if-not-is_allowed.false in
    let walk = subst (λ (l : List (ℕ × ℕ)). IsWalk packages wanted chooses c.walk.found.entries l) c.in-Some-pop.ensures.items c.walk.invariant in
    let chosen = walk_chosen packages wanted chooses c.walk.found.entries c.pop.new.self.items p k walk in
    let place = rw c.in-Some-2.is at c.in_ok-index-2.ensures.unmet in
    record { asks = (chosen, allowed); place = place; none = dependency_stands packages wanted chooses p k c.in-Some-2.index chosen place }

pub walk-preserved : goal.walk-preserved
walk-preserved g c =
    let packages = c.args.registry.now.packages in
    let wanted = c.args.request.now in
    let chooses = g.C.Chooser.chooses c.args.chooser.now in
    let found = c.walk.found.entries in
    let new = c.follow_all-in-Some-pop.new.found.entries in
    let rest = c.pop.new.self.items in
    let later = c.since-in-Some-pop.result.now in
    let walk = subst (λ (l : List (ℕ × ℕ)). IsWalk packages wanted chooses found l) c.in-Some-pop.ensures.items c.walk.invariant in
    let done = c.in_ok-index-2.ensures in
    let later_is = c.since-in-Some-pop.ensures.since ∙ ap (λ n. drop n new) c.len-before.ensures in
    let checked : IsChecked packages wanted (choice_of new) c.in-Some-pop.pkg c.in-Some-pop.ordinal = record { allowed = sym c.is_allowed.ensures ∙ c.if-not-is_allowed.false; met = rw c.in_default-2.is at done.met } in
    subst (λ (l : List (ℕ × ℕ)). IsWalk packages wanted chooses new l) (sym c.in_ok-extend_from_slice-2.ensures.items)
    (walk_more packages wanted chooses found new rest later c.in-Some-pop.pkg c.in-Some-pop.ordinal walk done.grown later_is c.since-in-Some-pop.ensures.chosen checked done.follows done.come)

pub returns : goal.returns
returns g c =
    let done = c.in_ok-list.ensures in
    let none : length c.walk.left.items ≡ 0 = omega (arith, c.in_default-pop.ensures.cases.0, c.walk.left.ok.0) in
    rw done.list (walk_meets c.args.registry.now.packages c.args.request.now (g.C.Chooser.chooses c.args.chooser.now) c.walk.found.entries c.walk.left.items c.walk.invariant none c.allowed_is_published.ensures done.once)
