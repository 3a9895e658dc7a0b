use Rattle.std.proofs.Common.{arith}
use Rattle.search.proofs.trail.make_room.Goals as goal

pub returns : goal.returns
returns c = record {
  made = c.reserve.ensures.items;
  notes = c.reserve-2.ensures.items;
  heads = c.reach.ensures.same;
  few = c.reach.ensures.few;
  room = (omega (arith, c.in_ok-reserve.ensures.ok, c.reserve.ensures.len), omega (arith, c.in_ok-reserve-2.ensures.ok, c.reserve-2.ensures.len), c.in_ok-reach.ensures.reached);
}
