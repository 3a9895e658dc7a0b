use Rattle.std.proofs.Common.{◌∙◌, ◌||◌, ap, arith, not, sym}
use Rattle.registry.specs.Requests.{is_locked}
use Rattle.registry.proofs.PackageLemmas.{published-below, published-positive}
use Rattle.registry.proofs.RequestLemmas.{is_allowed-published, is_allowed-unpublished, is_allowed-unyanked, published-numbered, unpublished-from}
use Rattle.registry.proofs.registry.Registry.allowed.Goals as goal

pub returns-then-ordinal-versions : goal.returns-then-ordinal-versions
returns-then-ordinal-versions c =
    sym (is_allowed-unpublished c.args.self.now.packages c.args.request.now c.args.pkg c.args.ordinal
    (unpublished-from c.args.self.now.packages c.args.pkg c.args.ordinal (omega (arith, c.versions.ensures))))

pub facts-facts-requires : goal.facts-facts-requires
facts-facts-requires c = published-below c.args.self.now.packages c.args.pkg c.args.ordinal (omega (arith, c.versions.ensures))

pub name-requires-clause-first : goal.name-requires-clause-first
name-requires-clause-first c =
    published-positive c.args.self.now.packages c.args.pkg c.args.ordinal
    (published-below c.args.self.now.packages c.args.pkg c.args.ordinal (omega (arith, c.versions.ensures)))

pub name-requires-clause-last : goal.name-requires-clause-last
name-requires-clause-last c =
    published-numbered c.args.self.now.packages c.args.pkg c.args.ordinal
    (published-below c.args.self.now.packages c.args.pkg c.args.ordinal (omega (arith, c.versions.ensures)))

pub returns-then-not-facts : goal.returns-then-not-facts
returns-then-not-facts c =
    ap not c.if-not-facts.true
    ∙ sym (is_allowed-unyanked c.args.self.now.packages c.args.request.now c.args.pkg c.args.ordinal _ c.facts-facts.ensures c.if-not-facts.true)

pub returns-else-not-facts : goal.returns-else-not-facts
returns-else-not-facts c =
    c.is_locked.ensures
    ∙ sym (ap (λ b. not b || is_locked c.args.request.now.lock c.name.result.now c.facts-facts.result.version.now) c.if-not-facts.false)
    ∙ sym (is_allowed-published c.args.self.now.packages c.args.request.now c.args.pkg c.args.ordinal c.name.result.now _ c.facts-facts.ensures c.name.ensures)
