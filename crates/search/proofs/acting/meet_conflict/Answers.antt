use Rattle.std.proofs.Common.{inl, inr, arith}
use Rattle.std.proofs.lemmas.Option.{slice_get_within}
use Rattle.std.proofs.lemmas.Result.{IfOk-from_err}
use Rattle.search.proofs.GoingBack.{back_place, back_search, not_satisfied, not_neither, back_falls}
use Rattle.search.proofs.acting.meet_conflict.Goals as goal

pub unreachable-requires : goal.unreachable-requires
unreachable-requires c = elim c.in-Satisfied.is [
  | inl e ↦ not_satisfied c.args.search.now.partial c.back_to.new.self c.resolve_conflict.new.known.items c.in-Back.line c.in-Back.level (rw c.in-Back.is at c.in_ok-end.ensures.resolved) c.index.result.now c.index.ensures c.back_to.ensures (rw e at c.relation.ensures.stands)
  | inr e ↦ not_neither c.args.search.now.partial c.back_to.new.self c.resolve_conflict.new.known.items c.in-Back.line c.in-Back.level (rw c.in-Back.is at c.in_ok-end.ensures.resolved) c.index.result.now c.index.ensures c.back_to.ensures (rw e at c.relation.ensures.stands)
]

pub derive_by-requires-clause-search : goal.derive_by-requires-clause-search
derive_by-requires-clause-search c =
    rw c.deref.ensures.value (back_search c.args.search.now.partial c.back_to.new.self c.resolve_conflict.new.known.items c.in-Back.line c.in-Back.level (rw c.in-Back.is at c.in_ok-end.ensures.resolved) c.index.result.now c.index.ensures c.back_to.ensures
    c.args.task.now.registry.now.packages c.args.task.now.request.now c.assignments-made.ensures.lawful c.in_ok-end.ensures.search)

pub derive_by-requires-clause-almost : goal.derive_by-requires-clause-almost
derive_by-requires-clause-almost c =
    rw c.deref.ensures.value (c.index.result.now, back_place c.args.search.now.partial c.back_to.new.self c.resolve_conflict.new.known.items c.in-Back.line c.in-Back.level (rw c.in-Back.is at c.in_ok-end.ensures.resolved) c.index.result.now c.index.ensures c.back_to.ensures, c.in-Almost.ensures.stands)

pub returns-in_ok-derive_by-in-Almost-clause-acts : goal.returns-in_ok-derive_by-in-Almost-clause-acts
returns-in_ok-derive_by-in-Almost-clause-acts c = (
  rw c.deref.ensures.value at c.in_ok-derive_by-in-Almost.ensures.search,
  back_falls c.args.search.now.partial c.back_to.new.self c.resolve_conflict.new.known.items c.in-Back.line c.in-Back.level (rw c.in-Back.is at c.in_ok-end.ensures.resolved) c.index.result.now c.index.ensures c.back_to.ensures
      c.derive_by.new.partial c.assignments-made.ensures.lawful c.in_ok-derive_by-in-Almost.ensures.falls_back,
)

pub resolve_conflict-requires-clause-search : goal.resolve_conflict-requires-clause-search
resolve_conflict-requires-clause-search c = c.requires.search

pub resolve_conflict-requires-clause-satisfied : goal.resolve_conflict-requires-clause-satisfied
resolve_conflict-requires-clause-satisfied c = c.requires.satisfied

pub returns-in-Refused-clause-acts : goal.returns-in-Refused-clause-acts
returns-in-Refused-clause-acts c = rw c.in-Refused.is at c.in_ok-end.ensures.resolved

pub index-requires : goal.index-requires
index-requires c =
    let there = rw c.in-Back.is at c.in_ok-end.ensures.resolved in
    let within = slice_get_within c.resolve_conflict.new.known.items c.in-Back.line there.0 there.1 in
    omega (arith, within, c.resolve_conflict.new.known.ok.0)

pub returns-in_err-count_conflict-clause-acts : goal.returns-in_err-count_conflict-clause-acts
returns-in_err-count_conflict-clause-acts c = IfOk-from_err _ _ c.from_residual.ensures.0

pub returns-in_err-end-clause-acts : goal.returns-in_err-end-clause-acts
returns-in_err-end-clause-acts c = IfOk-from_err _ _ c.from_residual-in_err-end.ensures.0

pub returns-in_err-derive_by-in-Almost-clause-acts : goal.returns-in_err-derive_by-in-Almost-clause-acts
returns-in_err-derive_by-in-Almost-clause-acts c = IfOk-from_err _ _ c.from_residual-in_err-derive_by-in-Almost.ensures.0
