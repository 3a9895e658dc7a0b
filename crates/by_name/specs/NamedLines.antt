-- Lines and what they follow from, with packages by their names; the request has none.
use Rattle.std.specs.Prelude.{List, Option}
use Rattle.versions.specs.Words.{Text}
use Rattle.terms.specs.declared.term.Term.{Term}
use Rattle.derivations.specs.declared.facts.Premise.{Premise}
use Rattle.derivations.specs.declared.facts.Cause.{Cause}
use Rattle.derivations.specs.declared.line.Line.{Line}

abbrev pub NamedPremise : Type 0
NamedPremise = Premise Text (Option Text)

abbrev pub NamedCause : Type 0
NamedCause = Cause Text (Option Text)

abbrev pub NamedLine : Type 0
NamedLine = Line Text (Option Text) (List (Option Text × Term))
