-- Texts that are put, and sent with all that waits.
use Rattle.std.proofs.Common.{◌≡◌, ◌∙◌, ℕ, List, [], ◌++◌, ap, Option, Result, Ok, Err}
use Rattle.std.proofs.lemmas.List.{append-nil}
use Rattle.lines.specs.Texts.{Puts, Writes}

-- what waited was written with a text, and nothing waits any more: so the text was put
pub puts_sent : {E : Type 0} (r : Result Unit E) (a b : Option (List ℕ)) (before after text : List ℕ) → after ≡ [] → Writes a b r (before ++ text) → Puts a b before after r text
puts_sent (Ok u) a b before after text none (written, appends, all) = (written, appends, ap (λ (l : List ℕ). written ++ l) none ∙ append-nil written ∙ all)
puts_sent (Err e) a b before after text none (written, appends, front) = (written, appends, front)
