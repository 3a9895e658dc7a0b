use Rattle.std.proofs.Common.{◌≡◌, ◌+◌, ◌++◌, ◌||◌, length}
use Rattle.crossbeam_queue.specs.Passes.{view, IsPassOf}
use Rattle.pool.specs.Taking.{taken_by}
use Rattle.pool.proofs.Takers.{is_any_told}
use Rattle.pool.proofs.jobs.Jobs.ended.Given as goal

abbrev pub invariant-loop-taker : goal.invariant-loop-taker
invariant-loop-taker l = record {
  rest : l.yielded ++ l.taker-iterator.rest.items ≡ l.initial.taker-iterator.rest.items;
  queue : IsPassOf l.queue l.whole;
  parts : (view l.whole).parts ≡ (view l.initial.whole).parts + length l.yielded;
  count : (view l.whole).count ≡ (view l.initial.whole).count;
  all_parts : (view l.whole).all_parts ≡ (view l.initial.whole).all_parts;
  taken : (view l.whole).taken ≡ (view l.initial.whole).taken ++ taken_by l.yielded;
  told : (view l.whole).told ≡ ((view l.initial.whole).told || is_any_told l.yielded);
}
