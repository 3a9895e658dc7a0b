use Rattle.std.proofs.Common.{append_assoc, rules}
use Rattle.explain.specs.Choices.{set_text}
use Rattle.explain.proofs.choices.put_set.Goals as goal

pub returns : goal.returns
unfolding set_text
returns c = search (rules, append_assoc)
