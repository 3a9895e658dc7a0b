use Rattle.std.proofs.Common.{◌≡◌, ◌<◌, ◌∙◌, ℕ, List, ap, arith, length, refl, subst, sym, true}
use Rattle.std.specs.Prelude.{Contains, None, Option, Some, is_some}
use Rattle.terms.specs.Sets.{has}
use Rattle.versions.specs.Words.{Text}
use Rattle.registry.specs.Registry.{Packages, Publication, is_published, meets_at, needs_of, needs_or_none, number_of, publication_at}
use Rattle.std.proofs.lemmas.Result.{IfOk-from_err, IfOk-at_ok}
use Rattle.facts.specs.Pushing.{same_lines}
use Rattle.facts.proofs.Entries.{entry_there, entry_used, index_read}
use Rattle.facts.proofs.shared.push_shared.Goals as goal

-- a version that needs something is published
published-needing : (packages : Packages) (p k i : ℕ) → i < length (needs_of packages p k) → is_published packages p k ≡ true
published-needing packages p k i lt = by (publication_at packages p k) lt
  where
    by : (o : Option Publication) → i < length (needs_or_none o) → is_some o ≡ true
    by None h = absurd (omega arith)
    by (Some v) h = refl

pub facts-requires : goal.facts-requires
facts-requires c = published-needing c.args.task.now.registry.now.packages c.args.pkg c.args.ordinal c.args.index c.requires

pub bounds-facts-index : goal.bounds-facts-index
bounds-facts-index c = index_read c.args.task.now.registry.now.packages c.args.pkg c.args.ordinal _ c.args.index c.facts.ensures c.requires

pub push_dependency-requires-clause-numbered : goal.push_dependency-requires-clause-numbered
push_dependency-requires-clause-numbered c =
    let packages = c.args.task.now.registry.now.packages in
    let found = c.in_ok-target.ensures in
    let there = entry_there packages c.args.pkg c.args.ordinal _ c.args.index c.index-facts-index.result (found.name, found.need) c.facts.ensures found.at in
    subst (λ (x : Text × Text). number_of packages x.0 ≡ Some c.in_ok-target.target) (sym there) found.number

pub versions_sharing-requires : goal.versions_sharing-requires
versions_sharing-requires c =
    let packages = c.args.task.now.registry.now.packages in
    let lt = index_read packages c.args.pkg c.args.ordinal _ c.args.index c.facts.ensures c.requires in
    let used = entry_used packages c.args.pkg c.args.ordinal _ c.args.index c.index-facts-index.result c.facts.ensures lt c.index-facts-index.is in
    subst (λ (x : Text × Text). Contains (needs_of packages c.args.pkg c.args.ordinal) x) c.index-facts-index.is used

pub push_dependency-requires-clause-within : goal.push_dependency-requires-clause-within
push_dependency-requires-clause-within c k =
    let packages = c.args.task.now.registry.now.packages in
    let found = c.in_ok-target.ensures in
    let there = entry_there packages c.args.pkg c.args.ordinal _ c.args.index c.index-facts-index.result (found.name, found.need) c.facts.ensures found.at in
    ap (λ (s : List ℕ). has s k) (IfOk-at_ok _ c.in_ok-within.was c.set-members.ensures.same) ∙ found.members k ∙ ap (λ (x : Text × Text). meets_at packages c.in_ok-target.target k x.1) (sym there)

pub push_dependency-requires-clause-dependents : goal.push_dependency-requires-clause-dependents
push_dependency-requires-clause-dependents c = c.in_ok-versions.ensures

pub push_dependency-requires-clause-apart : goal.push_dependency-requires-clause-apart
push_dependency-requires-clause-apart c = λ same. c.if-target-pkg.false (sym same)

-- where nothing is added

pub returns-then-target-pkg : goal.returns-then-target-pkg
returns-then-target-pkg c = same_lines

-- where memory is refused

pub returns-in_err-at : goal.returns-in_err-at
returns-in_err-at c = IfOk-from_err c.from_residual-in_err-at.result _ c.from_residual-in_err-at.ensures.0

pub returns-in_err-target : goal.returns-in_err-target
returns-in_err-target c = IfOk-from_err c.from_residual.result _ c.from_residual.ensures.0

pub returns-in_err-versions : goal.returns-in_err-versions
returns-in_err-versions c = IfOk-from_err c.from_residual-in_err-versions.result _ c.from_residual-in_err-versions.ensures.0

pub returns-in_err-within : goal.returns-in_err-within
returns-in_err-within c = IfOk-from_err c.from_residual-in_err-within.result _ c.from_residual-in_err-within.ensures.0
