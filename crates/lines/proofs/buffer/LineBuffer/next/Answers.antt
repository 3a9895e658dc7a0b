use Rattle.std.proofs.Common.{◌≡◌, ◌+◌, ◌-◌, ◌<◌, [], length, slice_range, subst, sym, ◌∙◌, vec_len}
use Rattle.lines.specs.Unread.{StandsFor}
use Rattle.lines.proofs.BufferLemmas.{no_feed-join, part-feed, no_feed-front, finds_line, finds_too_long, finds_more, finds_more_long, fits_by, fits_than, from_none, further, length-cut, length-part, not_both, over_by, over_than, up_to, within_part}
use Rattle.lines.proofs.buffer.LineBuffer.next.Goals as goal
use Rattle.lines.proofs.buffer.LineBuffer.next.Goals.{then-self, else-self, then-is_long, else-is_long, then-is_long-2, else-is_long-2}
use Rattle.lines.proofs.buffer.LineBuffer.next.Goals.{then-self-2-via-then-self-2, then-self-2-via-else-self-2+then-self-gt-LINE_LIMIT}

pub invariant_of-self-else-self-gt-LINE_LIMIT : goal.invariant_of-self-else-self-gt-LINE_LIMIT
invariant_of-self-else-self-gt-LINE_LIMIT c =
    let i = c.self.invariant in
    let none = rw c.as_slice-held.ensures.value at c.in-None.ensures.none in
    record {
      room = i.room;
      line_ordered = from_none _;
      line_within = from_none _;
      start_ordered = further _ _ _ i.start_ordered i.scanned_ordered;
      scanned_ordered = up_to _;
      end_within = i.end_within;
      no_feed = no_feed-join _ _ c.self.inside.scanned _ i.start_ordered i.scanned_ordered i.no_feed none;
    }

pub returns-after-is_long-2-clause-found : goal.returns-after-is_long-2-clause-found
returns-after-is_long-2-clause-found c = λ text stands.
    let i = c.self.invariant in
    let b = c.self.inside in
    let whole : length b.held.items ≡ vec_len b.held = rw c.as_slice-held.ensures.value at c.as_slice-held.ensures.len in
    let stands' = subst (λ u. StandsFor u text) (sym c.self.view_is) stands in
    let held = c.as_slice-held.ensures.value in
    let found = rw held at c.in-Some.ensures.found in
    let before = rw held at c.in-Some.ensures.before in
    let within : c.in-Some.offset < b.end - b.scanned = within_part b.held.items b.scanned b.end c.in-Some.offset (rw held at c.in-Some.ensures.within) in
    let cut = part-feed b.held.items b.start b.scanned b.end c.in-Some.offset i.start_ordered i.scanned_ordered within found in
    let no_feed = no_feed-front b.held.items b.start b.scanned b.end c.in-Some.offset i.start_ordered i.scanned_ordered within i.no_feed before in
    let len : length (slice_range b.held.items b.start (b.scanned + c.in-Some.offset)) ≡ b.scanned + c.in-Some.offset - b.start =
    length-cut b.held.items b.start b.scanned b.end c.in-Some.offset (vec_len b.held) i.start_ordered within i.end_within whole in
    let line_before = slice_range b.held.items b.line_start b.line_end in
    elim c.if-is_long-2.branch [
      | then-is_long-2 w ↦ rw w.result-is (finds_too_long line_before _ _ _ _ _ text cut no_feed
          (λ short. elim c.if-self.branch [ then-self v ↦ absurd (not_both _ v.if-self.true short) | else-self v ↦ over_by _ _ len (sym v.is_long-is ∙ w.if-is_long-2.true) ]) stands')
      | else-is_long-2 w ↦ rw w.result-is (elim c.if-is_long.branch [
        | then-is_long u ↦ absurd (not_both _ u.if-is_long.true w.if-is_long-2.false)
        | else-is_long u ↦ rw u.self-is (elim c.if-self.branch [
          | then-self v ↦ absurd (not_both _ (v.is_long-is ∙ v.if-self.true) w.if-is_long-2.false)
          | else-self v ↦ finds_line line_before _ _ _ _ text cut no_feed v.if-self.false (fits_by _ _ len (sym v.is_long-is ∙ w.if-is_long-2.false)) stands'
        ])
      ])
    ]

pub returns-then-self-2-clause-found : goal.returns-then-self-2-clause-found
returns-then-self-2-clause-found c = λ text stands.
    let i = c.self.invariant in
    let b = c.self.inside in
    let whole : length b.held.items ≡ vec_len b.held = rw c.as_slice-held.ensures.value at c.as_slice-held.ensures.len in
    let none = rw c.as_slice-held.ensures.value at c.in-None.ensures.none in
    let len = length-part b.held.items b.start b.end (vec_len b.held) (further _ _ _ i.start_ordered i.scanned_ordered) i.end_within whole in
    finds_more_long (slice_range b.held.items b.line_start b.line_end) [] _ _ text (no_feed-join _ _ b.scanned _ i.start_ordered i.scanned_ordered i.no_feed none)
    (λ short.
    elim c.then-self-2.branch [
      | then-self-2-via-then-self-2 w ↦ absurd (not_both _ w.if-self-2.true short)
      | then-self-2-via-else-self-2+then-self-gt-LINE_LIMIT w ↦ over_than _ _ len w.if-self-gt-LINE_LIMIT.true
    ])
    (subst (λ u. StandsFor u text) (sym c.self.view_is) stands)

pub returns-else-self-gt-LINE_LIMIT-clause-found : goal.returns-else-self-gt-LINE_LIMIT-clause-found
returns-else-self-gt-LINE_LIMIT-clause-found c = λ text stands.
    let i = c.self.invariant in
    let b = c.self.inside in
    let whole : length b.held.items ≡ vec_len b.held = rw c.as_slice-held.ensures.value at c.as_slice-held.ensures.len in
    let none = rw c.as_slice-held.ensures.value at c.in-None.ensures.none in
    let len = length-part b.held.items b.start b.end (vec_len b.held) (further _ _ _ i.start_ordered i.scanned_ordered) i.end_within whole in
    finds_more (slice_range b.held.items b.line_start b.line_end) [] _ _ text (no_feed-join _ _ b.scanned _ i.start_ordered i.scanned_ordered i.no_feed none)
    c.if-self-2.false (fits_than _ _ len c.if-self-gt-LINE_LIMIT.false) (subst (λ u. StandsFor u text) (sym c.self.view_is) stands)
