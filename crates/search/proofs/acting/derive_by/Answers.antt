use Rattle.std.proofs.Common.{ap, get_or}
use Rattle.std.proofs.lemmas.Option.{slice_get_within}
use Rattle.search.proofs.Kept.{derive_search, derive_takes_away, derive_open}
use Rattle.search.proofs.acting.derive_by.Goals as goal

pub returns-clause-search : goal.returns-clause-search
returns-clause-search c =
    rw c.in_ok-derive.ensures.ok (derive_search c.args.partial.now c.args.known.now c.args.at c.args.pkg c.in_ok-term.term c.requires.almost
    (get_or c.args.known.now c.args.at c.index-known-at.result) (ap (λ d. get_or c.args.known.now c.args.at d) c.index-known-at.is) c.in_ok-term.ensures
    c.args.task.now.registry.now.packages c.args.task.now.request.now c.requires.search)

pub returns-clause-falls : goal.returns-clause-falls
returns-clause-falls c =
    c.in_ok-derive.ensures.falls (derive_takes_away c.args.partial.now c.args.known.now c.args.at c.args.pkg c.in_ok-term.term c.requires.almost
    (get_or c.args.known.now c.args.at c.index-known-at.result) (ap (λ d. get_or c.args.known.now c.args.at d) c.index-known-at.is) c.in_ok-term.ensures)

pub returns-clause-falls_back : goal.returns-clause-falls_back
returns-clause-falls_back c =
    c.in_ok-derive.ensures.falls_back (derive_takes_away c.args.partial.now c.args.known.now c.args.at c.args.pkg c.in_ok-term.term c.requires.almost
    (get_or c.args.known.now c.args.at c.index-known-at.result) (ap (λ d. get_or c.args.known.now c.args.at d) c.index-known-at.is) c.in_ok-term.ensures)

pub derive-requires : goal.derive-requires
derive-requires c =
    derive_open c.args.partial.now c.args.known.now c.args.at c.args.pkg c.in_ok-term.term c.requires.almost
    (get_or c.args.known.now c.args.at c.index-known-at.result) (ap (λ d. get_or c.args.known.now c.args.at d) c.index-known-at.is) c.in_ok-term.ensures

pub bounds-known-at : goal.bounds-known-at
bounds-known-at c = slice_get_within c.args.known.now c.args.at c.requires.almost.0 c.requires.almost.1
