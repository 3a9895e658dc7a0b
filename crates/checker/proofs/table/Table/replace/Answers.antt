use Rattle.std.proofs.Common.{sym, subst}
use Rattle.derivations.specs.Facts.{Terms}
use Rattle.checker.specs.Tables.{IsAt}
use Rattle.checker.proofs.Joining.{placed-set}
use Rattle.checker.proofs.table.Table.replace.Goals as goal

pub invariant_of-self : goal.invariant_of-self
invariant_of-self c =
    let at = subst (λ (terms : Terms). IsAt terms c.args.pkg c.args.place) (sym c.self.view_is) c.requires in
    placed-set 0 c.self.inside.places.items c.self.inside.terms.items c.args.place c.args.pkg at.0 c.args.said c.self.invariant at.1
