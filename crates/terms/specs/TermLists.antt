-- What a contract sees of terms by package as they are stored.
use Rattle.std.specs.Prelude.{ℕ, List}
use Rattle.terms.specs.declared.term.Term.{Term}
use Rattle.terms.specs.declared.term_list.TermList.{TermList}
use Rattle.terms.specs.declared.term_list.TermList.TheVariants.{Two, Others}

-- the terms
abbrev pub listed : TermList → List (ℕ × Term)
listed (Two terms) = terms
listed (Others terms) = terms.items
