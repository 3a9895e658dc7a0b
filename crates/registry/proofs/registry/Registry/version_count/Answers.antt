use Rattle.std.proofs.Common.{◌≤◌, length, rules}
use Rattle.registry.specs.Registry.{package_at, versions_or_none}
use Rattle.registry.proofs.RegistryLaws.{length-versions_at}
use Rattle.registry.proofs.registry.Registry.version_count.Goals as goal
use Rattle.registry.specs.declared.registry.TheConstants.{VERSION_LIMIT}

pub overflow_cast-result : goal.overflow_cast-result
overflow_cast-result c =
    let few : length (versions_or_none (package_at c.args.self.now.packages c.args.pkg)) ≤ VERSION_LIMIT = length-versions_at c.args.self.now.packages c.args.pkg c.publications_at.ensures.reachable in
    search rules
