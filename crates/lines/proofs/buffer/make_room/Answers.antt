use Rattle.std.proofs.Common.{◌∙◌, arith}
use Rattle.lines.proofs.BufferLemmas.{front_stays}
use Rattle.lines.proofs.buffer.make_room.Goals as goal

pub returns-clause-moved : goal.returns-clause-moved
returns-clause-moved c =
    front_stays c.move_to_front.new.held.items c.lengthen.new.held.items _ _ (omega (arith, c.move_to_front.ensures.len)) c.lengthen.ensures.front ∙ c.move_to_front.ensures.moved
