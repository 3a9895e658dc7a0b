use Rattle.std.proofs.Common.{◌≡◌, length, vec_len}
use Rattle.pool.specs.Answering.{AreBegun}
use Rattle.pool.proofs.answers.KeepingConsumer.consume.Given as goal

abbrev pub invariant-loop-at : goal.invariant-loop-at
invariant-loop-at g l = record {
  begun : AreBegun g.Q.Query.packages g.Q.Query.asked l.self.answers;
  here : vec_len l.self.answers ≡ l._at;
  at : l.answers ≡ l._at;
  whole : l.self.count ≡ length g.Q.Query.asked;
}
