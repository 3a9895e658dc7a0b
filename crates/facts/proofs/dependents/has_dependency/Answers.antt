use Rattle.std.proofs.Common.{◌↔◌, subst, sym}
use Rattle.std.specs.Prelude.{Contains, IsTrue}
use Rattle.facts.proofs.dependents.has_dependency.Goals as goal

pub returns-then-repeats : goal.returns-then-repeats
returns-then-repeats c =
    let same = c.requires.repeats c.if-repeats.true in
    subst (λ l. IsTrue c.args.before ↔ Contains l (c.args.name.now, c.args.need.now)) (sym same.3) (c.requires.before same.1 same.2)
