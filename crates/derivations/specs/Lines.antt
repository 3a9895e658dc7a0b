-- Lines and what they follow from, with packages by their numbers.
use Rattle.std.specs.Prelude.{ℕ, List}
use Rattle.terms.specs.declared.term.Term.{Term}
use Rattle.derivations.specs.declared.facts.Premise as premise
use Rattle.derivations.specs.declared.facts.Cause as cause
use Rattle.derivations.specs.declared.line.Line as line

abbrev pub Premise : Type 0
Premise = premise.Premise ℕ ℕ

abbrev pub Cause : Type 0
Cause = cause.Cause ℕ ℕ

abbrev pub Line : Type 0
Line = line.Line ℕ ℕ (List (ℕ × Term))
