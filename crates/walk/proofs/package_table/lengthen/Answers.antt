use Rattle.std.proofs.Common.{arith}
use Rattle.walk.proofs.Paging.{resized_same}
use Rattle.walk.proofs.package_table.lengthen.Goals as goal

pub returns-clause-same : goal.returns-clause-same
returns-clause-same c = resized_same c.resize.result c.args.pages.now.items c.resize.new.self.items c.args.count _ 0 c.resize.ensures.items (omega arith)
