-- What is left of a package.
use Rattle.terms.specs.declared.term.Term.{Term}
use Rattle.terms.specs.declared.term.Term.TheVariants.{In}
use Rattle.walk.specs.declared.left.Left.{Left}
use Rattle.walk.specs.declared.left.Left.TheVariants as left

-- the term that is true of the versions that are left
abbrev pub term_of : Left → Term
term_of (left.Low set) = In set
term_of (left.Any term) = term.value
