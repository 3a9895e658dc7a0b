use Rattle.std.proofs.Common.{◌≡◌, length, vec_len}
use Rattle.pool.specs.Ahead.{AreFirst}
use Rattle.pool.proofs.alone.answer_first.Given as goal

abbrev pub invariant-loop-index : goal.invariant-loop-index
invariant-loop-index g l = record {
  first : AreFirst (length g.Q.Query.asked) l.slots;
  here : vec_len l.slots ≡ l.index;
}
