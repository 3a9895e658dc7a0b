use Rattle.std.proofs.Common.{sym, ap}
use Rattle.versions.specs.Words.{parts_of_text, parts_or_zero}
use Rattle.versions.proofs.bounds.numbers_of.Goals as goal

pub returns : goal.returns
unfolding parts_of_text
returns c = ap (λ r. let p = parts_or_zero r in record { major = p.0; minor = p.1; patch = p.2 }) (sym c.parsed-parsed.ensures)
