-- The shapes of a derivation's parts as they stand in a line, by what they say.
use Rattle.std.specs.Prelude.{Option}
use Rattle.versions.specs.Words.{Text}
use Rattle.terms.specs.declared.term.Term.{Term}
use Rattle.wire.specs.NamedShapes.{term_of}
use Rattle.by_name.specs.NamedLines.{NamedCause, NamedLine, NamedPremise}
use Rattle.derivations.specs.declared.facts.Cause.TheVariants as cause
use Rattle.wire.specs.declared.request.term_shapes.TermShape.{TermShape}
use Rattle.wire.specs.declared.request.cause_shapes.PremiseShape.{PremiseShape}
use Rattle.wire.specs.declared.request.cause_shapes.CauseShape.{CauseShape}
use Rattle.wire.specs.declared.request.cause_shapes.CauseShape.TheVariants as shape
use Rattle.wire.specs.declared.request.line_shapes.LineShape.{LineShape}

abbrev pub term_said : TermShape → Option Text × Term
term_said term = (term.name, term_of term.positive term.set)

abbrev pub premise_said : PremiseShape → NamedPremise
premise_said premise = record {
  «package» = premise.package;
  versions = premise.versions;
  target = premise.target;
  need = premise.need.now;
  within = premise.within;
}

abbrev pub cause_said : CauseShape → NamedCause
cause_said (shape.Line n) = cause.Line n
cause_said (shape.Premise premise) = cause.Premise (premise_said premise)
cause_said (shape.Need i) = cause.Need i
cause_said (shape.NotAllowed name versions) = cause.NotAllowed name versions
cause_said shape.Root = cause.Root

abbrev pub causes_said : CauseShape × CauseShape → NamedCause × NamedCause
causes_said causes = (cause_said causes.0, cause_said causes.1)

abbrev pub line_said : LineShape → NamedLine
line_said line = record {
  conclusion = line.conclusion;
  causes = (cause_said line.causes.0, cause_said line.causes.1);
  pivot = line.pivot;
}
