use Rattle.std.proofs.Common.{List, Option, ℕ, subst, sym, arith}
use Rattle.pool.specs.Ahead.{AreInPlace}
use Rattle.pool.proofs.InPlace.{AreInPlace-push_none}
use Rattle.pool.proofs.in_order.put_none.Goals as goal

pub loop-i-preserved : goal.loop-i-preserved
loop-i-preserved g c = record {
  places = subst (λ (l : List (Option ℕ)). AreInPlace l) (sym c.push_reserved.ensures.items) (AreInPlace-push_none c.loop-i.slots.items c.loop-i.invariant.places);
  count = let k = c.loop-i.invariant.count in let m = c.push_reserved.ensures.len in omega arith;
  capacity = let k = c.loop-i.invariant.capacity in let m = c.push_reserved.ensures.capacity in omega arith;
}
