use Rattle.std.proofs.Common.{◌≡◌, ◌∙◌, ℕ, Option, None, Some, inl, sym, subst, get_or, List, ap, arith, length}
use Rattle.versions.specs.Words.{Text}
use Rattle.std.proofs.lemmas.Option.{slice_get_within}
use Rattle.std.proofs.lemmas.Result.{err_from_is_err_and}
use Rattle.versions.specs.declared.refusal.Refusal.{Refusal}
use Rattle.versions.specs.declared.refusal.Refusal.TheVariants as refusal
use Rattle.facts.specs.Tasks.{MayRefuse}
use Rattle.search.proofs.Decisions.{acts_as}
use Rattle.search.proofs.Obstacles.{need_decides, need_numbered, need_turn}
use Rattle.search.proofs.Kept.{extends_search}
use Rattle.search.proofs.meeting.meet_need.Goals as goal

pub unreachable-requires : goal.unreachable-requires
unreachable-requires c =
    let unused = rw c.in-Neither.is at c.in_ok-acted.ensures.acts in
    need_numbered c.args.task.now c.args.search.now.partial c.push_need.new.known.items c.in_ok-at.at c.args.index c.args.task.now.request.now.needs c.index-needs-index.result c.requires.search.begins
    c.in_ok-at.ensures.place c.requires.unmet unused.1 (subst (λ (ns : List (Text × Text)). c.index-needs-index.result ≡ get_or ns c.args.index c.index-needs-index.result) c.needs.ensures.needs c.index-needs-index.is)
    (sym c.number.ensures ∙ c.in-None.is)

pub decide_on-requires-clause-decide : goal.decide_on-requires-clause-decide
decide_on-requires-clause-decide c =
    let unused = rw c.in-Neither.is at c.in_ok-acted.ensures.acts in
    need_decides c.args.task.now c.args.search.now.partial c.push_need.new.known.items c.in_ok-at.at c.args.index c.args.task.now.request.now.needs c.index-needs-index.result c.requires.search.begins
    c.in_ok-at.ensures.place c.requires.unmet unused.1 (subst (λ (ns : List (Text × Text)). c.index-needs-index.result ≡ get_or ns c.args.index c.index-needs-index.result) c.needs.ensures.needs c.index-needs-index.is)
    c.matching_is_what_meets.ensures c.propagate_incompatibility.new.search.partial c.in-Some.target c.assignments-made.ensures.lawful (sym c.number.ensures ∙ c.in-Some.is) unused.0.0

pub decide_on-requires-clause-turn : goal.decide_on-requires-clause-turn
decide_on-requires-clause-turn c =
    let unused = rw c.in-Neither.is at c.in_ok-acted.ensures.acts in
    need_turn c.args.task.now c.args.search.now.partial c.push_need.new.known.items c.in_ok-at.at c.args.index c.args.task.now.request.now.needs c.index-needs-index.result c.requires.search.begins
    c.in_ok-at.ensures.place c.requires.unmet unused.1 (subst (λ (ns : List (Text × Text)). c.index-needs-index.result ≡ get_or ns c.args.index c.index-needs-index.result) c.needs.ensures.needs c.index-needs-index.is)
    c.requires.turn c.propagate_incompatibility.new.search.partial c.in-Some.target (sym c.number.ensures ∙ c.in-Some.is) unused.0.0 (decide_on-requires-clause-decide c).undecided

pub push_need-requires : goal.push_need-requires
push_need-requires c = slice_get_within c.args.task.now.request.now.needs c.args.index (c.requires.unmet.name, c.requires.unmet.need) c.requires.unmet.at

pub bounds-needs-index : goal.bounds-needs-index
bounds-needs-index c =
    let within = slice_get_within c.args.task.now.request.now.needs c.args.index (c.requires.unmet.name, c.requires.unmet.need) c.requires.unmet.at in
    omega (arith, within, ap length c.needs.ensures.needs)

pub propagate_incompatibility-requires-clause-within : goal.propagate_incompatibility-requires-clause-within
propagate_incompatibility-requires-clause-within c = slice_get_within c.push_need.new.known.items c.in_ok-at.at c.in_ok-at.ensures.place.line.0 c.in_ok-at.ensures.place.line.1

pub propagate_incompatibility-requires-clause-search : goal.propagate_incompatibility-requires-clause-search
propagate_incompatibility-requires-clause-search c = extends_search c.in_ok-at.ensures.extends c.requires.search

pub decide_on-requires-clause-search : goal.decide_on-requires-clause-search
decide_on-requires-clause-search c =
    let unused = rw c.in-Neither.is at c.in_ok-acted.ensures.acts in
    rw (unused.0.0, unused.0.1) (extends_search c.in_ok-at.ensures.extends c.requires.search)

pub returns-in_ok-decide_on-in-Some-clause-acts : goal.returns-in_ok-decide_on-in-Some-clause-acts
returns-in_ok-decide_on-in-Some-clause-acts c =
    let unused = rw c.in-Neither.is at c.in_ok-acted.ensures.acts in
    acts_as c.args.task.now c.args.search.now c.propagate_incompatibility.new.search c.decide_on.new.search ⊥ ⊥ c.in_ok-decide_on-in-Some.field-0 unused.0.0 (λ none. none) c.in_ok-decide_on-in-Some.ensures.acts

-- a lack of memory is refused with a budget and with none
may_refuse : (budget : Option ℕ) (e : Refusal) → e ≡ refusal.NoMemory → MayRefuse budget e
may_refuse None e is = is
may_refuse (Some n) e is = inl is

pub returns-in_err-at-clause-only : goal.returns-in_err-at-clause-only
returns-in_err-at-clause-only c =
    let err = err_from_is_err_and c.from_residual.result c.from_residual.ensures.1 in rw err.1 (may_refuse c.args.task.now.options.budget err.0 err.2)

pub returns-in_err-note-clause-only : goal.returns-in_err-note-clause-only
returns-in_err-note-clause-only c =
    let err = err_from_is_err_and c.from_residual-in_err-note.result c.from_residual-in_err-note.ensures.1 in rw err.1 (may_refuse c.args.task.now.options.budget err.0 err.2)

pub returns-in_err-acted-clause-only : goal.returns-in_err-acted-clause-only
returns-in_err-acted-clause-only c =
    let err = err_from_is_err_and c.from_residual-in_err-acted.result c.from_residual-in_err-acted.ensures.1 in
    rw err.1 (subst (MayRefuse c.args.task.now.options.budget) (sym err.2) c.in_err-acted.ensures.only)

pub returns-in_err-decide_on-in-Some-clause-only : goal.returns-in_err-decide_on-in-Some-clause-only
returns-in_err-decide_on-in-Some-clause-only c =
    let err = err_from_is_err_and c.from_residual-in_err-decide_on-in-Some.result c.from_residual-in_err-decide_on-in-Some.ensures.1 in
    rw err.1 (subst (MayRefuse c.args.task.now.options.budget) (sym err.2) c.in_err-decide_on-in-Some.ensures.only)
