use Rattle.std.proofs.Common.{◌≡◌, ◌∙◌, ◌<◌, ℕ, Option, None, List, length, true, refl, ap, arith, inl, subst, sym}
use Rattle.std.specs.Prelude.{Some, is_some, slice_get}
use Rattle.versions.specs.Words.{Text}
use Rattle.versions.specs.declared.refusal.Refusal.{Refusal}
use Rattle.versions.specs.declared.refusal.Refusal.TheVariants as refusal
use Rattle.facts.specs.Tasks.{MayRefuse}
use Rattle.std.proofs.lemmas.Option.{none-some, slice_get_within}
use Rattle.std.proofs.lemmas.Result.{IfOk-from_err, err_from_is_err_and}
use Rattle.search.proofs.Decisions.{acts_as}
use Rattle.registry.specs.Registry.{Publication, needs_of, needs_or_none, publication_at}
use Rattle.search.proofs.InOrder.{turn_kept}
use Rattle.search.proofs.Naming.{dependency_apart, dependency_numbered}
use Rattle.search.proofs.Obstacles.{dependency_decides, entry_at, entry_contained, entry_unmet}
use Rattle.facts.proofs.Pushed.{exactly_dependents}
use Rattle.search.proofs.Kept.{extends_search}
use Rattle.search.proofs.meeting.meet_dependency.Goals as goal

pub unreachable-requires : goal.unreachable-requires
unreachable-requires c =
    let found = dependency_numbered c.publications_are_lawful.ensures.numbered c.args.task.now.registry.now.packages c.args.pkg c.args.ordinal _ c.packages-packages.ensures.reachable
    (entry_contained c.args.task.now.registry.now.packages c.args.search.now.partial c.args.pkg c.args.ordinal c.args.index _ c.index-facts-index.result c.facts-facts.ensures c.requires.unmet c.index-facts-index.is) in
    none-some found.0 (sym c.in_default.is ∙ c.number.ensures ∙ found.1)

pub push_dependency-requires-clause-apart : goal.push_dependency-requires-clause-apart
push_dependency-requires-clause-apart c =
    dependency_apart c.publications_are_lawful.ensures.lawful c.args.task.now.registry.now.packages c.args.pkg c.args.ordinal c.in-Some.target _ c.packages-packages.ensures.reachable
    (entry_contained c.args.task.now.registry.now.packages c.args.search.now.partial c.args.pkg c.args.ordinal c.args.index _ c.index-facts-index.result c.facts-facts.ensures c.requires.unmet c.index-facts-index.is)
    (sym c.number.ensures ∙ c.in-Some.is)

pub push_dependency-requires-clause-dependents : goal.push_dependency-requires-clause-dependents
push_dependency-requires-clause-dependents c =
    exactly_dependents c.args.task.now.registry.now.packages c.args.pkg c.args.ordinal _ c.in_ok-versions.versions c.in_ok-versions.ensures
    (entry_contained c.args.task.now.registry.now.packages c.args.search.now.partial c.args.pkg c.args.ordinal c.args.index _ c.index-facts-index.result c.facts-facts.ensures c.requires.unmet c.index-facts-index.is)

pub propagate_incompatibility-requires-clause-within : goal.propagate_incompatibility-requires-clause-within
propagate_incompatibility-requires-clause-within c = slice_get_within c.push_dependency.new.known.items c.in_ok-at.at c.in_ok-at.ensures.place.0 c.in_ok-at.ensures.place.1

pub decide_on-requires-clause-decide : goal.decide_on-requires-clause-decide
decide_on-requires-clause-decide c =
    let packages = c.args.task.now.registry.now.packages in
    let made = c.args.search.now.partial in
    let unused = rw c.in-Neither.is at c.in_ok-acted.ensures.acts in
    let used = entry_contained packages made c.args.pkg c.args.ordinal c.args.index _ c.index-facts-index.result c.facts-facts.ensures c.requires.unmet c.index-facts-index.is in
    let unmet = entry_unmet packages made c.args.pkg c.args.ordinal c.args.index _ c.index-facts-index.result c.facts-facts.ensures c.requires.unmet c.index-facts-index.is in
    let numbered = sym c.number.ensures ∙ c.in-Some.is in
    let here = (c.in_ok-versions.ensures c.args.ordinal).1 used in
    dependency_decides c.args.task.now made c.propagate_incompatibility.new.search.partial c.push_dependency.new.known.items c.in_ok-at.at c.args.pkg c.args.ordinal c.in-Some.target _ c.in_ok-versions.versions c.in_ok-within.within c.assignments-made.ensures.lawful
    (dependency_apart c.publications_are_lawful.ensures.lawful packages c.args.pkg c.args.ordinal c.in-Some.target _ c.packages-packages.ensures.reachable used numbered) c.requires.chosen here numbered unmet c.in_ok-within.ensures.members c.in_ok-at.ensures.place unused.0.0 unused.1

pub decide_on-requires-clause-turn : goal.decide_on-requires-clause-turn
decide_on-requires-clause-turn c =
    let packages = c.args.task.now.registry.now.packages in
    let made = c.args.search.now.partial in
    let unused = rw c.in-Neither.is at c.in_ok-acted.ensures.acts in
    let at = entry_at packages made c.args.pkg c.args.ordinal c.args.index _ c.index-facts-index.result c.facts-facts.ensures c.requires.unmet c.index-facts-index.is in
    turn_kept c.args.task.now made c.propagate_incompatibility.new.search.partial (needs_of packages c.args.pkg c.args.ordinal) c.args.index c.in-Some.target _ c.requires.turn at
    (sym c.number.ensures ∙ c.in-Some.is) unused.0.0 (decide_on-requires-clause-decide c).undecided

pub propagate_incompatibility-requires-clause-search : goal.propagate_incompatibility-requires-clause-search
propagate_incompatibility-requires-clause-search c = extends_search c.in_ok-at.ensures.extends c.requires.search

pub decide_on-requires-clause-search : goal.decide_on-requires-clause-search
decide_on-requires-clause-search c =
    let unused = rw c.in-Neither.is at c.in_ok-acted.ensures.acts in
    rw (unused.0.0, unused.0.1) (extends_search c.in_ok-at.ensures.extends c.requires.search)

pub returns-in_ok-decide_on-in-Neither-clause-acts : goal.returns-in_ok-decide_on-in-Neither-clause-acts
returns-in_ok-decide_on-in-Neither-clause-acts c =
    let unused = rw c.in-Neither.is at c.in_ok-acted.ensures.acts in
    acts_as c.args.task.now c.args.search.now c.propagate_incompatibility.new.search c.decide_on.new.search ⊥ ⊥ c.in_ok-decide_on-in-Neither.field-0 unused.0.0 (λ none. none) c.in_ok-decide_on-in-Neither.ensures.acts

pub returns-in_err-versions-clause-acts : goal.returns-in_err-versions-clause-acts
returns-in_err-versions-clause-acts c = IfOk-from_err _ _ c.from_residual.ensures.0

pub returns-in_err-within-clause-acts : goal.returns-in_err-within-clause-acts
returns-in_err-within-clause-acts c = IfOk-from_err _ _ c.from_residual-in_err-within.ensures.0

pub returns-in_err-at-clause-acts : goal.returns-in_err-at-clause-acts
returns-in_err-at-clause-acts c = IfOk-from_err _ _ c.from_residual-in_err-at.ensures.0

pub returns-in_err-note-clause-acts : goal.returns-in_err-note-clause-acts
returns-in_err-note-clause-acts c = IfOk-from_err _ _ c.from_residual-in_err-note.ensures.0

pub returns-in_err-acted-clause-acts : goal.returns-in_err-acted-clause-acts
returns-in_err-acted-clause-acts c = IfOk-from_err _ _ c.from_residual-in_err-acted.ensures.0

pub returns-in_err-decide_on-in-Neither-clause-acts : goal.returns-in_err-decide_on-in-Neither-clause-acts
returns-in_err-decide_on-in-Neither-clause-acts c = IfOk-from_err _ _ c.from_residual-in_err-decide_on-in-Neither.ensures.0

pub push_dependency-requires-clause-numbered : goal.push_dependency-requires-clause-numbered
push_dependency-requires-clause-numbered c = sym c.number.ensures ∙ c.in-Some.is

pub push_dependency-requires-clause-within : goal.push_dependency-requires-clause-within
push_dependency-requires-clause-within c = c.in_ok-within.ensures.members

pub bounds-facts-index : goal.bounds-facts-index
bounds-facts-index c =
    slice_get_within _ c.args.index (c.requires.unmet.name, c.requires.unmet.need)
    (subst (λ (ns : List (Text × Text)). slice_get ns c.args.index ≡ Some (c.requires.unmet.name, c.requires.unmet.need)) (ap needs_or_none c.facts-facts.ensures) c.requires.unmet.at)

-- a lack of memory is refused with a budget and with none
may_refuse : (budget : Option ℕ) (e : Refusal) → e ≡ refusal.NoMemory → MayRefuse budget e
may_refuse None e is = is
may_refuse (Some n) e is = inl is

pub returns-in_err-versions-clause-only : goal.returns-in_err-versions-clause-only
returns-in_err-versions-clause-only c =
    let err = err_from_is_err_and c.from_residual.result c.from_residual.ensures.1 in rw err.1 (may_refuse c.args.task.now.options.budget err.0 err.2)

pub returns-in_err-at-clause-only : goal.returns-in_err-at-clause-only
returns-in_err-at-clause-only c =
    let err = err_from_is_err_and c.from_residual-in_err-at.result c.from_residual-in_err-at.ensures.1 in rw err.1 (may_refuse c.args.task.now.options.budget err.0 err.2)

pub returns-in_err-note-clause-only : goal.returns-in_err-note-clause-only
returns-in_err-note-clause-only c =
    let err = err_from_is_err_and c.from_residual-in_err-note.result c.from_residual-in_err-note.ensures.1 in rw err.1 (may_refuse c.args.task.now.options.budget err.0 err.2)

pub returns-in_err-within-clause-only : goal.returns-in_err-within-clause-only
returns-in_err-within-clause-only c =
    let err = err_from_is_err_and c.from_residual-in_err-within.result c.from_residual-in_err-within.ensures.1 in rw err.1 (may_refuse c.args.task.now.options.budget err.0 (err.2 ∙ c.in_err-within.ensures.only))

pub returns-in_err-acted-clause-only : goal.returns-in_err-acted-clause-only
returns-in_err-acted-clause-only c =
    let err = err_from_is_err_and c.from_residual-in_err-acted.result c.from_residual-in_err-acted.ensures.1 in
    rw err.1 (subst (MayRefuse c.args.task.now.options.budget) (sym err.2) c.in_err-acted.ensures.only)

pub returns-in_err-decide_on-in-Neither-clause-only : goal.returns-in_err-decide_on-in-Neither-clause-only
returns-in_err-decide_on-in-Neither-clause-only c =
    let err = err_from_is_err_and c.from_residual-in_err-decide_on-in-Neither.result c.from_residual-in_err-decide_on-in-Neither.ensures.1 in
    rw err.1 (subst (MayRefuse c.args.task.now.options.budget) (sym err.2) c.in_err-decide_on-in-Neither.ensures.only)

-- a version that needs something is published
needing : (o : Option Publication) (i : ℕ) → i < length (needs_or_none o) → is_some o ≡ true
needing None i lt = absurd (omega arith)
needing (Some publication) i lt = refl

pub facts-facts-requires : goal.facts-facts-requires
facts-facts-requires c =
    needing (publication_at c.args.task.now.registry.now.packages c.args.pkg c.args.ordinal) c.args.index
    (slice_get_within (needs_of c.args.task.now.registry.now.packages c.args.pkg c.args.ordinal) c.args.index (c.requires.unmet.name, c.requires.unmet.need) c.requires.unmet.at)
