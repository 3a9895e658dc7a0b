use Rattle.std.proofs.Common.{List, subst, sym}
use Rattle.std.specs.Prelude.{All}
use Rattle.derivations.specs.Facts.{Terms}
use Rattle.derivations.specs.declared.known.CausedIncompatibility.{CausedIncompatibility}
use Rattle.checker.specs.Shown.{AreShown, IsShown}
use Rattle.facts.specs.Lines.{AreLines}
use Rattle.checker.proofs.showing.is_refused_in.Goals as goal

pub returns : goal.returns
returns c =
    let packages = c.args.task.now.registry.now.packages in
    let wanted = c.args.task.now.request.now in
    let lines = subst (λ (known : List CausedIncompatibility). AreLines packages wanted known) (sym c.deref.ensures.value) c.in_ok-last.ensures.lines in
    let made = subst (λ (conclusions : List Terms). All (IsShown packages wanted) conclusions) (sym c.deref-2.ensures.value) c.in_ok-last.ensures.shown in
    let shown : AreShown packages wanted c.deref.result.now c.deref-2.result.now = record { lawful = lines.lawful; ordered = lines.ordered; shown = made } in
    c.is_end.ensures packages wanted shown
