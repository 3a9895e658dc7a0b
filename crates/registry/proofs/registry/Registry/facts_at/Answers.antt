use Rattle.std.proofs.Common.{arith}
use Rattle.registry.proofs.PackageLemmas.{published-below}
use Rattle.registry.proofs.RequestLemmas.{unpublished-from}
use Rattle.registry.proofs.registry.Registry.facts_at.Goals as goal

pub returns-then-ordinal-versions : goal.returns-then-ordinal-versions
returns-then-ordinal-versions c = record { some = tt; none = unpublished-from c.args.self.now.packages c.args.pkg c.args.ordinal (omega (arith, c.versions.ensures)) }

pub facts-requires : goal.facts-requires
facts-requires c = published-below c.args.self.now.packages c.args.pkg c.args.ordinal (omega (arith, c.versions.ensures))
