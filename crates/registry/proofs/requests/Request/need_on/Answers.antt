use Rattle.std.proofs.Common.{◌∙◌, ap}
use Rattle.std.specs.Map.{lookup}
use Rattle.std.specs.Option.{option_copied}
use Rattle.std.specs.Str.{bytes_eq}
use Rattle.registry.proofs.RequestLemmas.{lawful-once, met-by_need}
use Rattle.registry.proofs.requests.Request.need_on.Goals as goal

pub find-requires-clause-once : goal.find-requires-clause-once
find-requires-clause-once c = rw c.deref.ensures.value (lawful-once c.self.inside.needs.items c.self.inside.lock.items c.self.invariant.lawful).0

pub returns-clause-met : goal.returns-clause-met
returns-clause-met c =
    rw (← c.self.view_is) (λ version.
    met-by_need (record { needs = c.self.inside.needs.items; lock = c.self.inside.lock.items }) c.args.name.now version (option_copied c.find.result) c.self.invariant.lawful
    (c.find.ensures ∙ ap (λ l. lookup (bytes_eq c.args.name.now) l) c.deref.ensures.value))
