use Rattle.std.proofs.Common.{◌∙◌, sym}
use Rattle.registry.proofs.NeedLemmas.{repeats_name-names}
use Rattle.registry.proofs.dependencies.repeats_name.Goals as goal

pub returns : goal.returns
returns c = c.repeats.ensures ∙ sym (repeats_name-names c.args.needs.now)
