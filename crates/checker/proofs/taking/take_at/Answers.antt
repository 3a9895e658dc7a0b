use Rattle.std.proofs.Common.{arith, sym}
use Rattle.std.proofs.Math.ListN.{length-set}
use Rattle.checker.proofs.Lists.{get-set-other}
use Rattle.checker.proofs.taking.take_at.Goals as goal

pub index_mut-line-requires : goal.index_mut-line-requires
index_mut-line-requires c = omega (arith, c.requires, c.args.known.now.ok.0)

pub returns-clause-length : goal.returns-clause-length
returns-clause-length c = length-set c.args.known.now.items c.args.place _

pub returns-clause-others : goal.returns-clause-others
returns-clause-others c = λ k apart. get-set-other c.args.known.now.items c.args.place k _ (λ same. apart (sym same))
