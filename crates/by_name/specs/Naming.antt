-- Derivations by number, as they are told by names.
use Rattle.std.specs.Prelude.{◌≡◌, ℕ, List, [], Option, map, option_map, unwrap_or}
use Rattle.versions.specs.Words.{Text}
use Rattle.terms.specs.declared.term.Term.{Term}
use Rattle.registry.specs.Registry.{Package, Packages, package_at}
use Rattle.derivations.specs.Facts.{Terms}
use Rattle.derivations.specs.Lines.{Cause, Line, Premise}
use Rattle.derivations.specs.declared.facts.Cause.TheVariants as cause
use Rattle.by_name.specs.NamedLines.{NamedCause, NamedLine, NamedPremise}
use Rattle.by_name.specs.Named.{IsNumbered}

-- the name of the package with this number; the request has none
abbrev pub name_at : Packages → ℕ → Option Text
name_at packages p = option_map (λ (pack : Package). pack.name) (package_at packages p)

-- the same of what is no request
abbrev pub name_or_none : Packages → ℕ → Text
name_or_none packages p = unwrap_or (name_at packages p) []

abbrev pub named_terms : Packages → Terms → List (Option Text × Term)
named_terms packages terms = map (λ (t : ℕ × Term). (name_at packages t.0, t.1)) terms

abbrev pub named_premise : Packages → Premise → NamedPremise
named_premise packages premise = record {
  «package» = name_or_none packages premise.package;
  versions = premise.versions;
  target = name_at packages premise.target;
  need = premise.need;
  within = premise.within;
}

abbrev pub named_cause : Packages → Cause → NamedCause
named_cause packages (cause.Line n) = cause.Line n
named_cause packages (cause.Premise premise) = cause.Premise (named_premise packages premise)
named_cause packages (cause.Need i) = cause.Need i
named_cause packages (cause.NotAllowed p versions) = cause.NotAllowed (name_or_none packages p) versions
named_cause packages cause.Root = cause.Root

abbrev pub named_line : Packages → Line → NamedLine
named_line packages line = record {
  conclusion = named_terms packages line.conclusion;
  causes = (named_cause packages line.causes.0, named_cause packages line.causes.1);
  pivot = name_at packages line.pivot;
}

-- the lines by the names of their packages
abbrev pub named_lines : Packages → List Line → List NamedLine
named_lines packages lines = map (named_line packages) lines

-- what was numbered is named as it was
abbrev pub NamedAgain : Type 0
NamedAgain = (packages : Packages) (named : List NamedLine) (lines : List Line) → IsNumbered packages named lines → named_lines packages lines ≡ named
