use Rattle.std.proofs.Common.{arith, refl}
use Rattle.std.proofs.lemmas.Option.{slice_get_read}
use Rattle.search.proofs.Decisions.{acts_as}
use Rattle.search.specs.Searching.{IsUnused}
use Rattle.search.proofs.acting.propagate_incompatibility.Goals as goal

pub index-requires : goal.index-requires
index-requires c = omega (arith, c.requires.within, c.args.search.now.known.ok.0)

pub derive_by-requires-clause-search : goal.derive_by-requires-clause-search
derive_by-requires-clause-search c = rw c.deref.ensures.value c.requires.search

pub derive_by-requires-clause-almost : goal.derive_by-requires-clause-almost
derive_by-requires-clause-almost c =
    let read = slice_get_read c.args.search.now.known.items _ c.args.at c.index.result.now refl c.requires.within c.index.ensures in
    rw c.deref.ensures.value (c.index.result.now, read, c.in-Almost.ensures.stands)

pub meet_conflict-requires-clause-search : goal.meet_conflict-requires-clause-search
meet_conflict-requires-clause-search c = c.requires.search

pub meet_conflict-requires-clause-satisfied : goal.meet_conflict-requires-clause-satisfied
meet_conflict-requires-clause-satisfied c =
    let read = slice_get_read c.args.search.now.known.items _ c.args.at c.index.result.now refl c.requires.within c.index.ensures in
    (c.index.result.now, read, c.in-Satisfied.ensures.stands)

pub returns-in-Other-clause-acts : goal.returns-in-Other-clause-acts
returns-in-Other-clause-acts c =
    let read = slice_get_read c.args.search.now.known.items _ c.args.at c.index.result.now refl c.requires.within c.index.ensures in
    ((refl, refl), (c.index.result.now, read, c.in-Other.ensures.stands))

pub returns-in_ok-derive_by-in-Almost-clause-acts : goal.returns-in_ok-derive_by-in-Almost-clause-acts
returns-in_ok-derive_by-in-Almost-clause-acts c =
    let done = c.in_ok-derive_by-in-Almost.ensures in
    (rw c.deref.ensures.value at done.search, done.falls)

pub returns-in_ok-meet_conflict-in-Satisfied-clause-acts : goal.returns-in_ok-meet_conflict-in-Satisfied-clause-acts
returns-in_ok-meet_conflict-in-Satisfied-clause-acts c =
    acts_as c.args.task.now c.args.search.now c.args.search.now c.meet_conflict.new.search ⊥ (IsUnused c.args.search.now c.meet_conflict.new.search c.args.at) c.in_ok-meet_conflict-in-Satisfied.field-0
    refl (λ none. absurd none) c.in_ok-meet_conflict-in-Satisfied.ensures.acts
