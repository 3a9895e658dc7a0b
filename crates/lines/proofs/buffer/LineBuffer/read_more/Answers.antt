use Rattle.std.proofs.Common.{◌≡◌, ◌+◌, ◌-◌, ◌<◌, ◌++◌, take, drop, slice_range, arith, subst, sym, ◌∙◌, ap}
use borrow.Author.Tests.{ltb-true, ltb-false}
use Rattle.lines.specs.Unread.{Unread}
use Rattle.lines.specs.Lines.{HasNoFeed}
use Rattle.lines.proofs.BufferLemmas.{moved-part, moved-read, length-slice_range}
use Rattle.lines.proofs.buffer.LineBuffer.read_more.Goals as goal

pub invariant_of-self : goal.invariant_of-self
invariant_of-self g c =
    let i = c.self.invariant in
    let b = c.self.inside in
    record {
      room = omega (arith, i.room, c.make_room.ensures.capacity, c.in_err-n.ensures.capacity);
      line_ordered = omega arith;
      line_within = omega arith;
      start_ordered = omega arith;
      scanned_ordered = omega arith;
      end_within = omega (arith, c.make_room.ensures.kept, c.in_err-n.ensures.len);
      no_feed = subst HasNoFeed (sym (moved-part b.held.items _ _ b.start b.scanned b.end i.start_ordered i.scanned_ordered c.make_room.ensures.moved c.in_err-n.ensures.front)) i.no_feed;
    }

pub invariant_of-self-2 : goal.invariant_of-self-2
invariant_of-self-2 g c =
    let i = c.self.invariant in
    let b = c.self.inside in
    record {
      room = omega (arith, i.room, c.make_room.ensures.capacity, c.in_ok-n.ensures.capacity);
      line_ordered = omega arith;
      line_within = omega arith;
      start_ordered = omega arith;
      scanned_ordered = omega arith;
      end_within = omega (arith, c.in_ok-n.ensures.within);
      no_feed = subst HasNoFeed (sym (moved-part b.held.items _ _ b.start b.scanned b.end i.start_ordered i.scanned_ordered c.make_room.ensures.moved c.in_ok-n.ensures.front)) i.no_feed;
    }

pub returns-clause-more : goal.returns-clause-more
returns-clause-more g c =
    let i = c.self.invariant in
    let b = c.self.inside in
    let e = b.end - b.start in (
      _,
      c.in_ok-n.ensures.ok,
      moved-read b.held.items _ _ b.start b.end c.in_ok-n.n (omega arith) c.make_room.ensures.moved c.in_ok-n.ensures.front
          ∙ ap (λ (u : Unread). u.bytes ++ slice_range c.read_at.new.held.items e (e + c.in_ok-n.n)) c.self.view_is,
      λ none. let zero : c.in_ok-n.n ≡ 0 = omega (arith, ltb-false, none) in
          let width : e + c.in_ok-n.n - e ≡ 0 = omega arith in
          (ap (λ n. take n (drop e c.read_at.new.held.items)) width, c.in_ok-n.ensures.end zero),
      λ some. let more : 0 < c.in_ok-n.n = omega (arith, ltb-true, some) in
          rw (length-slice_range c.read_at.new.held.items e (e + c.in_ok-n.n) (omega arith) (omega (arith, c.in_ok-n.ensures.within, c.read_at.new.held.ok.0))) (omega arith),
    )
