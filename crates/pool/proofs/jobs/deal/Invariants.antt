use Rattle.std.proofs.Common.{◌≡◌, ◌-◌, ◌≤◌, false, [], replicate, vec_capacity}
use Rattle.crossbeam_queue.specs.Passes.{view, IsPassOf}
use Rattle.pool.specs.Hands.{hand}
use Rattle.pool.specs.Taking.{fresh_of}
use Rattle.pool.proofs.jobs.deal.Given as goal

abbrev pub invariant-loop-i : goal.invariant-loop-i
invariant-loop-i l = record {
  pass : IsPassOf l.queue l.pass;
  knows : view l.pass ≡ hand (l.takers - l._i) l.takers (l.takers - l._i) false (view l.initial.pass).count [];
  same : l.pass.table_id ≡ l.initial.pass.table_id;
  made : l.all.items ≡ replicate l._i (fresh_of l.initial.pass.table_id (view l.initial.pass).count l.takers);
  room : l.takers ≤ vec_capacity l.all;
}
