-- What is said of a package.
use Rattle.terms.specs.declared.term.Term.{Term}
use Rattle.checker.specs.declared.said.Kept.{Kept}
use Rattle.checker.specs.declared.said.Kept.TheVariants as kept

-- the term that is kept
abbrev pub term_of : Kept → Term
term_of (kept.Low term) = term
term_of (kept.Any term) = term
