use Rattle.std.proofs.Common.{◌∙◌, ◌++◌, [], List, ℕ, ap, append-nil, refl, subst, sym}
use Rattle.lines.specs.Lines.{HasNoFeed}
use Rattle.session.proofs.KeptLemmas.{kept_first, kept_looks, settled_fails, settled_kept, settled_reads, settled_whole_lines}
use Rattle.session.proofs.SessionLemmas.{found_next}
use Rattle.session.proofs.serving.serve_lines.Goals as goal

pub loop-init : goal.loop-init
loop-init g c = ([], [], kept_first _ _ _ _ c.sessions_go_on.ensures refl refl refl c.requires.fresh c.requires.sent c.requires.none refl c.requires.committed)

-- ---- before a read

pub returns-in-Err-clause-backed : goal.returns-in-Err-clause-backed
returns-in-Err-clause-backed g c =
    let (input, rest, k) = c.loop.invariant in
    let more = c.in-More.ensures.found rest k.waits.stands in
    c.in-Err.ensures.settled _ (kept_looks c.sessions_go_on.ensures k c.next-in-loop.new.self more.1)

pub loop-preserved-in-Ok-true : goal.loop-preserved-in-Ok-true
loop-preserved-in-Ok-true g c =
    let (input, rest, k) = c.loop.invariant in
    let more = c.in-More.ensures.found rest k.waits.stands in
    let settled = c.in-Ok.ensures.settled _ (kept_looks c.sessions_go_on.ensures k c.next-in-loop.new.self more.1) in
    let read = c.in-Ok-true.ensures.more in
    let s = settled_reads c.sessions_go_on.ensures settled _ read.0 c.read_more.new.self read.1 read.2 c.in-Ok-true.ensures.front in
    (input ++ read.0, rest ++ read.0, settled_kept c.sessions_go_on.ensures s _ _ c.in-Ok.ensures.sent c.in-Ok.ensures.none)

pub returns-in-Err-read_more-clause-backed : goal.returns-in-Err-read_more-clause-backed
returns-in-Err-read_more-clause-backed g c =
    let (input, rest, k) = c.loop.invariant in
    let more = c.in-More.ensures.found rest k.waits.stands in
    settled_fails c.sessions_go_on.ensures (c.in-Ok.ensures.settled _ (kept_looks c.sessions_go_on.ensures k c.next-in-loop.new.self more.1)) _ c.in-Err-read_more.ensures.err.1

pub returns-in-Err-read_more-clause-ended : goal.returns-in-Err-read_more-clause-ended
returns-in-Err-read_more-clause-ended g c =
    let (input, rest, k) = c.loop.invariant in
    let more = c.in-More.ensures.found rest k.waits.stands in
    settled_whole_lines c.sessions_go_on.ensures (c.in-Ok.ensures.settled _ (kept_looks c.sessions_go_on.ensures k c.next-in-loop.new.self more.1)) _ c.in-Err-read_more.ensures.err.1 more.0

-- ---- the end

pub end-requires-clause-ended : goal.end-requires-clause-ended
end-requires-clause-ended g c =
    let (input, rest, k) = c.loop.invariant in
    let more = c.in-More.ensures.found rest k.waits.stands in
    let settled = c.in-Ok.ensures.settled _ (kept_looks c.sessions_go_on.ensures k c.next-in-loop.new.self more.1) in
    let read = c.in-Ok-false.ensures.more in
    let ended = read.3 c.in-Ok-false.field-0-test in
    let s = settled_reads c.sessions_go_on.ensures settled _ read.0 c.read_more.new.self read.1 read.2 c.in-Ok-false.ensures.front in
    (rest ++ read.0, s.waits.stands, subst HasNoFeed (sym (append-nil rest) ∙ ap (λ (l : List ℕ). rest ++ l) (sym ended.0)) more.0)

pub end-requires-clause-sent : goal.end-requires-clause-sent
end-requires-clause-sent g c = c.in-Ok.ensures.sent

pub returns-in-Ok-end-clause-backed : goal.returns-in-Ok-end-clause-backed
returns-in-Ok-end-clause-backed g c =
    let (input, rest, k) = c.loop.invariant in
    let more = c.in-More.ensures.found rest k.waits.stands in
    let settled = c.in-Ok.ensures.settled _ (kept_looks c.sessions_go_on.ensures k c.next-in-loop.new.self more.1) in
    let read = c.in-Ok-false.ensures.more in
    let ended = read.3 c.in-Ok-false.field-0-test in
    let s = settled_reads c.sessions_go_on.ensures settled _ read.0 c.read_more.new.self read.1 read.2 c.in-Ok-false.ensures.front in
    (c.in-Ok-end.ensures _ _ _ _ _ _ s (subst HasNoFeed (sym (append-nil rest) ∙ ap (λ (l : List ℕ). rest ++ l) (sym ended.0)) more.0) ended.1).0

pub returns-in-Ok-end-clause-ended : goal.returns-in-Ok-end-clause-ended
returns-in-Ok-end-clause-ended g c =
    let (input, rest, k) = c.loop.invariant in
    let more = c.in-More.ensures.found rest k.waits.stands in
    let settled = c.in-Ok.ensures.settled _ (kept_looks c.sessions_go_on.ensures k c.next-in-loop.new.self more.1) in
    let read = c.in-Ok-false.ensures.more in
    let ended = read.3 c.in-Ok-false.field-0-test in
    let s = settled_reads c.sessions_go_on.ensures settled _ read.0 c.read_more.new.self read.1 read.2 c.in-Ok-false.ensures.front in
    (ended.1, (c.in-Ok-end.ensures _ _ _ _ _ _ s (subst HasNoFeed (sym (append-nil rest) ∙ ap (λ (l : List ℕ). rest ++ l) (sym ended.0)) more.0) ended.1).1)

pub returns-in-Err-end-clause-backed : goal.returns-in-Err-end-clause-backed
returns-in-Err-end-clause-backed g c =
    let (input, rest, k) = c.loop.invariant in
    let more = c.in-More.ensures.found rest k.waits.stands in
    let settled = c.in-Ok.ensures.settled _ (kept_looks c.sessions_go_on.ensures k c.next-in-loop.new.self more.1) in
    let read = c.in-Ok-false.ensures.more in
    let ended = read.3 c.in-Ok-false.field-0-test in
    let s = settled_reads c.sessions_go_on.ensures settled _ read.0 c.read_more.new.self read.1 read.2 c.in-Ok-false.ensures.front in
    (c.in-Err-end.ensures _ _ _ _ _ _ s (subst HasNoFeed (sym (append-nil rest) ∙ ap (λ (l : List ℕ). rest ++ l) (sym ended.0)) more.0) ended.1).0

-- ---- a line

pub read_found-read-requires : goal.read_found-read-requires
read_found-read-requires g c =
    let (input, rest, k) = c.loop.invariant in
    let found = found_next _ _ _ c.in_default.not-More (c.next-in-loop.ensures.found rest k.waits.stands) in
    (found.0, found.2)

pub returns-in-Err-take-clause-backed : goal.returns-in-Err-take-clause-backed
returns-in-Err-take-clause-backed g c =
    let (input, rest, k) = c.loop.invariant in
    let found = found_next _ _ _ c.in_default.not-More (c.next-in-loop.ensures.found rest k.waits.stands) in
    c.in-Err-take.ensures _ found.0 _ k found.1 (c.read_found-read.ensures found.0 found.2)

pub loop-preserved : goal.loop-preserved
loop-preserved g c =
    let (input, rest, k) = c.loop.invariant in
    let found = found_next _ _ _ c.in_default.not-More (c.next-in-loop.ensures.found rest k.waits.stands) in
    (input, found.1.rest, c.in-Ok-take.ensures _ found.0 _ k found.1 (c.read_found-read.ensures found.0 found.2))
