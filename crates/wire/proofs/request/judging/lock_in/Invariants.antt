use Rattle.std.proofs.Common.{vec_len}
use Rattle.std.specs.Vec.Iter.{into_iter_items}
use Rattle.versions.specs.Words.{is_version}
use Rattle.wire.proofs.JudgeLemmas.{Read}
use Rattle.wire.proofs.request.judging.lock_in.Given as goal

abbrev pub invariant-loop-name : goal.invariant-loop-name
invariant-loop-name l = Read is_version l.lock (into_iter_items l.name-iterator) l.read.items (vec_len l.read)
