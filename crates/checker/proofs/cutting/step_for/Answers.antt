use Rattle.std.proofs.Common.{◌≡◌, ◌∙◌, ◌<◌, ℕ, List, ap, arith, get_or, length, refl, subst, sym}
use Rattle.std.proofs.lemmas.Option.{get_or_from_slice_get, slice_get_read}
use Rattle.checker.specs.Cutting.{IsReady}
use Rattle.derivations.specs.CausedIncompatibilities.{IsResolved}
use Rattle.derivations.specs.declared.known.CausedIncompatibility.{CausedIncompatibility}
use Rattle.derivations.specs.declared.known.Reason.TheVariants.{Resolved}
use Rattle.checker.specs.Taking.{said_by}
use Rattle.checker.proofs.Walking.{first_of_three, line_by, ready_within}
use Rattle.checker.proofs.cutting.step_for.Goals as goal

-- the two that the line cites stand among the lines
both_within : (known : List CausedIncompatibility) (numbers : List ℕ) (at i j pivot : ℕ) (own : CausedIncompatibility) → IsReady known numbers at → own ≡ get_or known at own → own.reason ≡ Resolved i j pivot
    → (i < length known) × (j < length known)
both_within known numbers at i j pivot own ready is reason =
    let same = first_of_three i ready.i j ready.j pivot ready.pivot (sym reason ∙ ap (λ (line : CausedIncompatibility). line.reason) (is ∙ get_or_from_slice_get known at ready.own own ready.own_at) ∙ ready.reason) in
    let within = ready_within known numbers at ready in
    (omega (arith, same.0, within.1), omega (arith, same.1, within.2))

pub bounds-known-at : goal.bounds-known-at
bounds-known-at c = (ready_within c.args.known.now c.args.numbers.now c.args.at c.requires.ready).0

pub cites-i-requires : goal.cites-i-requires
cites-i-requires c =
    let ready = c.requires.ready in
    let own = c.index-known-at.is ∙ get_or_from_slice_get c.args.known.now c.args.at ready.own c.index-known-at.result ready.own_at in
    subst IsResolved (sym (ap (λ (line : CausedIncompatibility). line.reason) own ∙ ready.reason)) tt

pub bounds-known-i : goal.bounds-known-i
bounds-known-i c = (both_within c.args.known.now c.args.numbers.now c.args.at c.cites-i.result.0 c.cites-i.result.1 c.cites-i.result.2 c.index-known-at.result c.requires.ready c.index-known-at.is c.cites-i.ensures).0

pub bounds-known-j : goal.bounds-known-j
bounds-known-j c = (both_within c.args.known.now c.args.numbers.now c.args.at c.cites-i.result.0 c.cites-i.result.1 c.cites-i.result.2 c.index-known-at.result c.requires.ready c.index-known-at.is c.cites-i.ensures).1

pub bounds-numbers-i : goal.bounds-numbers-i
bounds-numbers-i c = omega (arith, (both_within c.args.known.now c.args.numbers.now c.args.at c.cites-i.result.0 c.cites-i.result.1 c.cites-i.result.2 c.index-known-at.result c.requires.ready c.index-known-at.is c.cites-i.ensures).0, c.requires.lengths)

pub bounds-numbers-j : goal.bounds-numbers-j
bounds-numbers-j c = omega (arith, (both_within c.args.known.now c.args.numbers.now c.args.at c.cites-i.result.0 c.cites-i.result.1 c.cites-i.result.2 c.index-known-at.result c.requires.ready c.index-known-at.is c.cites-i.ensures).1, c.requires.lengths)

pub returns-clause-same : goal.returns-clause-same
returns-clause-same c =
    let within = (ready_within c.args.known.now c.args.numbers.now c.args.at c.requires.ready).0 in
    line_by c.args.known.now c.args.numbers.now c.args.at c.cites-i.result.0 c.cites-i.result.1 c.cites-i.result.2 c.index-known-at.result c.index-known-i.result c.index-known-j.result _
    c.requires.ready c.index-known-at.is c.cites-i.ensures c.index-known-i.is c.index-known-j.is (ap said_by (slice_get_read c.args.known.now _ c.args.at c.index-known-at.result refl within c.index-known-at.is)) refl c.in_ok-first.ensures c.in_ok-second.ensures
